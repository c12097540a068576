-- What the gates have released, whatever fails
use Rattle.std.specs.Prelude.{◌≡◌, ℕ, ◌<◌, length, true, take}
use Rattle.world.specs.Phases.{is_up}
use Rattle.world.specs.World.{World}
use Rattle.world.specs.Logs.{payloads, run_of}

-- how many messages to d the acknowledged run of p sends
abbrev pub sent_by_run : World → ℕ → ℕ → ℕ
sent_by_run w p d = length (payloads w p (take (run_of w p) (w.history p)) d)

-- of each process that is up exactly these messages are released
abbrev pub Gated : World → Type 0
Gated w = (p d : ℕ) → 0 < p → is_up (w.phase p) ≡ true → w.released p d ≡ sent_by_run w p d
