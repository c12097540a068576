-- The calls that bring the work forward
use Rattle.std.specs.Prelude.{◌≡◌, ◌≢◌, ℕ, zero, suc, ◌≤◌, length, None, true}
use Rattle.world.specs.declared.call.Call.{Call}
use Rattle.world.specs.declared.call.Call.TheVariants.{Transmit, Arrive, ReplayBegin, Resync as ResyncWith}
use Rattle.world.specs.History.{count_of}
use Rattle.world.specs.World.{World}
use Rattle.world.specs.Refusals.{refusal_of}
use Rattle.world.specs.Useful.{is_useful}
use Rattle.machine.specs.Simulation.{TheMachine, Stands, is_up_at}

-- a useful call that isn't refused with this room in the journal. Lack of memory is no cause of the world
pub record IsPick (w : World) (room : ℕ) (call : Call) : Type 0 where
  pub useful : is_useful w call ≡ true
  pub accepted : refusal_of w room call ≡ None

-- a packet arrives, a message leaves or is replayed, or RSNs are restored: no other call is useful
abbrev pub IsMove : Call → Type 0
IsMove (Arrive key) = Unit {0}
IsMove (Transmit from to ssn) = Unit {0}
IsMove (ReplayBegin p) = Unit {0}
IsMove (ResyncWith p r) = Unit {0}
IsMove other = ⊥

-- two that are up, and between which a message may pass. Either may be the outside
pub record ArePeers (m : TheMachine) (from to : ℕ) : Type 0 where
  pub from_within : from ≤ length m.processes
  pub to_within : to ≤ length m.processes
  pub other : from ≢ to
  pub from_up : is_up_at m from ≡ true
  pub to_up : is_up_at m to ≡ true

-- the SSN of this sender's next message. At the outside, that is the next one to be shown
abbrev pub next_ssn : World → ℕ → ℕ → ℕ
next_ssn w from zero = suc (count_of from w.shown)
next_ssn w from (suc to) = suc (count_of from (w.history (suc to)))

-- it is useful to put the message with this SSN on the wire
abbrev pub IsWanted : TheMachine → ℕ → ℕ → ℕ → Type 0
IsWanted m from to ssn = (w : World) → Stands m w → is_useful w (Transmit from to ssn) ≡ true

-- it isn't useful to put any message between these two on the wire
abbrev pub NoneWanted : TheMachine → ℕ → ℕ → Type 0
NoneWanted m from to = (w : World) → Stands m w → (ssn : ℕ) → is_useful w (Transmit from to ssn) ≢ true
