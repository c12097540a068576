-- What may leave a machine's logs, and what finds no place on its wire
use Rattle.std.specs.Prelude.{◌≡◌, ◌≢◌, ℕ, ◌+◌, ◌-◌, ◌<◌, ◌≤◌, length, Option, Some, None, is_some, true, count_by, nat_le, ◌==◌, ◌&&◌}
use Rattle.std.specs.Prelude.{if◌then◌else◌, slice_index_or}
use Rattle.limits.specs.declared.TheConstants.{PACKETS}
use Rattle.sender_log.specs.Queue.{is_logged}
use Rattle.sender_log.specs.Log.{queue_of}
use Rattle.world.specs.declared.refusal.Refusal.{Refusal}
use Rattle.world.specs.declared.refusal.Refusal.TheVariants.{JournalFull, WireFull}
use Rattle.session_process.specs.Process.{TheProcess}
use Rattle.session_process.specs.Mode.{is_live}
use Rattle.machine.specs.Simulation.{TheMachine, gate_at, is_up_at, log_at}

-- how many jobs are open
abbrev pub busy : TheMachine → ℕ
busy m = count_by (λ (x : TheProcess). is_some x.working) m.processes

-- how many open jobs are live
abbrev pub live : TheMachine → ℕ
live m = count_by (λ (x : TheProcess). is_live x.mode && is_some x.working) m.processes

-- why one more packet has no place in the journal or on the wire
abbrev pub placing : TheMachine → ℕ → Option Refusal
placing m room =
    if nat_le room (busy m) then Some JournalFull else (if nat_le (PACKETS - live m)
    (count_by is_some m.slots) then Some WireFull else None)

-- how many messages are released. The outside releases all its inputs
abbrev pub released_at : TheMachine → ℕ → ℕ → ℕ
released_at m from to =
    if from == 0 then (queue_of to m.outside.log).first + length (queue_of to m.outside.log).payloads - 1
    else slice_index_or (gate_at m from).released to 0

-- a sender that is up may put this message on the wire: it is logged and released
pub record MayLeave (m : TheMachine) (from to ssn : ℕ) : Type 0 where
  pub from_within : from ≤ length m.processes
  pub to_within : to ≤ length m.processes
  pub other : from ≢ to
  pub up : is_up_at m from ≡ true
  pub first : 0 < ssn
  pub logged : is_logged ssn (queue_of to (log_at m from)) ≡ true
  pub released : ssn ≤ released_at m from to
