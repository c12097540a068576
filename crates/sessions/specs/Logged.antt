-- The payload of a logged message
use Rattle.std.specs.Prelude.{ℕ, Option, None, Bool, not, ◌&&◌, ◌==◌, nat_le, if◌then◌else◌}
use Rattle.world.specs.History.{Payload, nth}
use Rattle.world.specs.World.{World}
use Rattle.world.specs.Logs.{sent, is_entry}

-- a message may go from one to the other: both are processes or the outside, and they aren't the same
abbrev pub are_two : World → ℕ → ℕ → Bool
are_two w from to = (nat_le from w.count && nat_le to w.count) && not (from == to)

-- the payload of the message with this SSN, if the log of its sender has it
abbrev pub logged : World → ℕ → ℕ → ℕ → Option Payload
logged w from to ssn = if are_two w from to && is_entry w from to ssn then nth (sent w from to) ssn else None
