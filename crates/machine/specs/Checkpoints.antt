-- Checkpoints, and what is dropped after them
use Rattle.std.specs.Prelude.{◌≡◌, ℕ, zero, suc, ◌+◌, ◌-◌, List, take, count_by, Bool, not, ◌==◌, ◌&&◌, if◌then◌else◌, slice_set}
use Rattle.checkpoint.specs.declared.form.CheckpointForm.TheVariants.{Second}
use Rattle.checkpoint.specs.Format.{IsCheckpoint}
use Rattle.checkpoint.specs.Saved.{TheSaved}
use Rattle.sender_log.specs.Queue.{count_up_to, trimmed}
use Rattle.sender_log.specs.Log.{TheLog, queue_of, with_queue}
use Rattle.world.specs.History.{count_of}
use Rattle.world.specs.World.{World}
use Rattle.session_process.specs.Process.{trimmed_at}
use Rattle.machine.specs.Simulation.{Saves, TheMachine, process_at, log_at, is_up_at}

-- the bytes are the checkpoint of p in this world: of the messages that it covers, and of what was dropped by then
pub record IsSavedOf (w : World) (p : ℕ) (bytes : List ℕ) : Type 0 where
  pub saved : TheSaved
  pub bytes_are : IsCheckpoint Second saved bytes
  pub own : saved.me ≡ p
  pub count : saved.count ≡ w.count
  pub saves : Saves w.count p saved (w.handlers.state p (take (w.saved p) (w.history p)))
      (take (w.saved p) (w.history p)) (w.saved_trims p) (w.handlers.sends p (take (w.saved p) (w.history p)))

-- how many messages of s the destination d has for good
abbrev pub covered_at : TheMachine → ℕ → ℕ → ℕ
covered_at m s d = if d == 0 then count_of s m.outside.shown else count_by (λ x. x == s) (process_at m d).saved.senders

-- whether s drops messages to d: it is another, and up
abbrev pub drops : TheMachine → ℕ → ℕ → Bool
drops m d s = not (s == d) && is_up_at m s

-- how many messages to d the sender s drops
abbrev pub dropped_by : TheMachine → ℕ → ℕ → ℕ
dropped_by m d s = if drops m d s then count_up_to (covered_at m s d) (queue_of d (log_at m s)) else 0

-- a log without its messages to d up to this SSN
abbrev pub trimmed_log : ℕ → ℕ → TheLog → TheLog
trimmed_log d i l = with_queue d (trimmed (count_up_to i (queue_of d l)) (queue_of d l)) l

-- the machine after s has dropped the messages that d has for good
abbrev pub without_covered : TheMachine → ℕ → ℕ → TheMachine
without_covered m d s =
    if drops m d s
    then (if s == 0
    then record m { outside = record m.outside { log = trimmed_log d (covered_at m 0 d) m.outside.log } }
    else record m { processes = slice_set m.processes (s - 1) (trimmed_at d (covered_at m s d) (process_at m s)) })
    else m

-- the machine after each sender below k has dropped them in turn
abbrev pub trimmed_to : ℕ → TheMachine → ℕ → TheMachine
trimmed_to d m zero = m
trimmed_to d m (suc k) = without_covered (trimmed_to d m k) d k

-- how many messages the senders below k drop
abbrev pub dropped_to : ℕ → TheMachine → ℕ → ℕ
dropped_to d m zero = 0
dropped_to d m (suc k) = dropped_by (trimmed_to d m k) d k + dropped_to d m k
