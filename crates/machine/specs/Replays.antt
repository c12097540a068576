-- Replayed jobs and restored RSNs
use Rattle.std.specs.Prelude.{◌≡◌, ◌≢◌, ℕ, ◌-◌, ◌<◌, ◌≤◌, ◌==◌, ◌&&◌, length, IsSome, None, Bool, true, false, not, nat_lt, nat_le}
use Rattle.std.specs.Prelude.{slice_index_or, slice_set}
use Rattle.limits.specs.declared.TheConstants.{PARTIES}
use Rattle.rsn.specs.Receipts.{numbers_of}
use Rattle.sender_log.specs.Queue.{renumbered}
use Rattle.sender_log.specs.Log.{queue_of}
use Rattle.session_process.specs.Outbox.{with_messages}
use Rattle.session_process.specs.Process.{TheProcess}
use Rattle.session_process.specs.Mode.{next_job}
use Rattle.session_process.specs.declared.mode.Peers.{Peers}
use Rattle.machine.specs.Work.{is_to_do}
use Rattle.machine.specs.Simulation.{TheMachine, process_at, is_up_at}

-- p replays, has no open job, and something is left to replay
pub record MayReplay (m : TheMachine) (p : ℕ) : Type 0 where
  pub inside : 0 < p
  pub within : p ≤ length m.processes
  pub idle : (process_at m p).working ≡ None
  pub left : IsSome (next_job (process_at m p).mode)

-- p still has to restore its RSNs from r, which is up
pub record MayResync (m : TheMachine) (p r : ℕ) : Type 0 where
  pub inside : 0 < p
  pub within : p ≤ length m.processes
  pub peer_inside : 0 < r
  pub peer_within : r ≤ length m.processes
  pub other : p ≢ r
  pub up : is_up_at m r ≡ true
  pub todo : is_to_do (process_at m p).mode r ≡ true

-- each message of p to r has the RSN that r's receipts have for it, or none
abbrev pub renumbered_at : ℕ → ℕ → TheMachine → TheMachine
renumbered_at p r m =
    let x : TheProcess = process_at m p in
    record m {
      processes = slice_set m.processes (p - 1)
          (record x { outbox = with_messages r (renumbered (numbers_of p (process_at m r).receipts) (queue_of r x.outbox.log)) x.outbox });
    }

-- whether q is left to p, after r is done
abbrev pub is_left : TheMachine → ℕ → ℕ → ℕ → Bool
is_left m p r q = nat_lt 0 q && nat_le q (length m.processes) && not (q == r) && is_to_do (process_at m p).mode q

-- these are the peers that are left to p, after r is done
abbrev pub ArePeersLeft : TheMachine → ℕ → ℕ → Peers → Type 0
ArePeersLeft m p r peers = (length peers.todo ≡ PARTIES) × ((q : ℕ) → slice_index_or peers.todo q false ≡ is_left m p r q)
