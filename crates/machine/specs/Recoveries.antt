-- Crashed processes, and how they recover
use Rattle.std.specs.Prelude.{◌≡◌, ℕ, ◌-◌, ◌<◌, ◌≤◌, List, ◌∷◌, length, map, Option, Some, None, Bool, true, false, not, ◌&&◌, ◌||◌, ◌==◌}
use Rattle.std.specs.Prelude.{nat_lt, nat_le, if◌then◌else◌, slice_index_or, slice_set}
use Rattle.limits.specs.declared.TheConstants.{ENTRIES, PARTIES}
use Rattle.sender_log.specs.Queue.{unnumbered}
use Rattle.sender_log.specs.Log.{TheLog, queue_of, with_queue}
use Rattle.world.specs.declared.call.Call.{Call}
use Rattle.world.specs.declared.call.Call.TheVariants.{Recover, RecoverAlone}
use Rattle.world.specs.declared.refusal.Refusal.{Refusal}
use Rattle.world.specs.declared.refusal.Refusal.TheVariants.{NotDown, JournalFull}
use Rattle.world.specs.World.{World}
use Rattle.world.specs.Refusals.{refusal_of}
use Rattle.rsn.specs.Receipts.{run_of}
use Rattle.checkpoint.specs.declared.form.CheckpointForm.TheVariants.{Second}
use Rattle.checkpoint.specs.Saved.{Fits, log_again, receipts_again}
use Rattle.replay.specs.Plan.{IsPlan, found}
use Rattle.session_process.specs.Outbox.{outbox_again}
use Rattle.session_process.specs.Process.{TheProcess, Settles, received, unnumbered_at}
use Rattle.session_process.specs.declared.mode.Peers.{Peers}
use Rattle.session_process.specs.Mode.{is_lost}
use Rattle.machine.specs.Fields.{IsLogOf}
use Rattle.machine.specs.Simulation.{TheMachine, Stands, process_at, is_up_at}
use Rattle.machine.specs.declared.recoveries.Remains.{Remains}
use Rattle.machine.specs.Transmission.{busy}

-- why p would not recover, whatever the other processes do
abbrev pub returning : TheMachine → ℕ → ℕ → Option Refusal
returning m room p = if is_lost (process_at m p).mode then (if nat_le room (busy m) then Some JournalFull else None) else Some NotDown

-- the logs of 0, 1, ..
abbrev pub logs_of : TheMachine → List TheLog
logs_of m = m.outside.log ∷ map (λ (x : TheProcess). x.outbox.log) m.processes

-- the call by which p recovers
abbrev pub recovery_of : ℕ → Bool → Call
recovery_of p true = RecoverAlone p
recovery_of p false = Recover p

-- p is down and may recover
pub record MayRecover (m : TheMachine) (room p : ℕ) (alone : Bool) : Type 0 where
  pub inside : 0 < p
  pub within : p ≤ length m.processes
  pub down : is_lost (process_at m p).mode ≡ true
  pub accepted : (w : World) → Stands m w → refusal_of w room (recovery_of p alone) ≡ None
  pub calls : m.calls < ENTRIES

-- what is left of p: what its checkpoint has, and a plan of the later messages that logs have
pub record IsLeftOf (m : TheMachine) (p : ℕ) (r : Remains) : Type 0 where
  pub state : r.state.items ≡ (process_at m p).saved.state
  pub receipts : r.receipts ≡ receipts_again (process_at m p).saved
  pub outbox : r.outbox ≡ outbox_again (process_at m p).saved
  pub log : IsLogOf (length m.processes) p (log_again (process_at m p).saved)
  pub fits : Fits Second (process_at m p).saved
  pub plan : IsPlan (found (logs_of m) p) (process_at m p).saved.senders r.plan.messages
  pub before : r.plan.before ≡ length (process_at m p).saved.senders
  pub fresh : r.plan.replayed ≡ 0

-- all senders forget the RSNs above k of their messages to p
abbrev pub forgotten : ℕ → ℕ → TheMachine → TheMachine
forgotten p k m =
    record m {
      outside = record m.outside { log = with_queue p (unnumbered k (queue_of p m.outside.log)) m.outside.log };
      processes = map (unnumbered_at p k) m.processes;
    }

-- whether q is a peer from which p restores its RSNs: any other, or if p came back alone one that is up
abbrev pub is_peer_of : TheMachine → ℕ → Bool → ℕ → Bool
is_peer_of m p alone q = nat_lt 0 q && nat_le q (length m.processes) && not (q == p) && (not alone || is_up_at m q)

-- these are the peers from which p restores its RSNs
abbrev pub ArePeersOf : TheMachine → ℕ → Bool → Peers → Type 0
ArePeersOf m p alone peers = (length peers.todo ≡ PARTIES) × ((q : ℕ) → slice_index_or peers.todo q false ≡ is_peer_of m p alone q)

-- p isn't down, has no open job, and all that it received is acknowledged
pub record MaySettle (m : TheMachine) (p : ℕ) : Type 0 where
  pub inside : 0 < p
  pub within : p ≤ length m.processes
  pub back : is_lost (process_at m p).mode ≡ false
  pub idle : (process_at m p).working ≡ None
  pub whole : run_of (process_at m p).receipts.acknowledged ≡ received (process_at m p)

-- p restores its RSNs from these peers, or if there are none is up
pub record SettlesAt (p : ℕ) (alone : Bool) (old new : TheMachine) : Type 0 where
  pub peers : Peers
  pub are : ArePeersOf old p alone peers
  pub process : TheProcess
  pub settles : Settles peers (process_at old p) process
  pub becomes : new ≡ record old { processes = slice_set old.processes (p - 1) process }
