-- What clauses see of a process
use Rattle.std.specs.Prelude.{◌≡◌, ◌≤◌, ℕ, ◌+◌, List, [], length, replicate, Option, Some, None, Bool, true, false}
use Rattle.std.specs.List.{All}
use Rattle.rsn.specs.Receipts.{Received, accepted, acknowledged, run_of}
use Rattle.send_gate.specs.declared.gate.Held.{Held}
use Rattle.send_gate.specs.Gate.{Releases}
use Rattle.sender_log.specs.Queue.{count_up_to, trimmed, unnumbered}
use Rattle.sender_log.specs.Log.{queue_of}
use Rattle.checkpoint.specs.Saved.{TheSaved, receipts_again}
use Rattle.world.specs.declared.message.Message.{Message}
use Rattle.replay.specs.Plan.{ThePlan, next_of}
use Rattle.replay.specs.Task.{TheTask, TheCompletion}
use Rattle.session_process.specs.Outbox.{TheOutbox, empty_outbox, outbox_again, with_messages, Gives, ReleasesAll}
use Rattle.session_process.specs.Stable.{idle_saved}
use Rattle.session_process.specs.Mode.{has_no_peer}
use Rattle.session_process.specs.declared.mode.Mode.{Mode}
use Rattle.session_process.specs.declared.mode.Peers.{Peers}
use Rattle.session_process.specs.declared.mode.Mode.TheVariants.{Live, Down, Replaying, Resync}

-- its state, incarnation, receipts, sent messages, the message that it works on, its checkpoint, and its phase
pub record TheProcess : Type 0 where
  pub state : List ℕ
  pub incarnation : ℕ
  pub receipts : Received
  pub outbox : TheOutbox
  pub working : Option Message
  pub saved : TheSaved
  pub mode : Mode

-- no receipts
abbrev pub nothing_received : Received
nothing_received = record { senders = []; acknowledged = [] }

-- a process that received nothing: its number, that of the last process, and the length of its state
abbrev pub idle_process : ℕ → ℕ → ℕ → TheProcess
idle_process me n len =
    record {
      state = replicate len 0;
      incarnation = 1;
      receipts = nothing_received;
      outbox = empty_outbox me n;
      working = None;
      saved = idle_saved me n len;
      mode = Live;
    }

-- how many messages it received
abbrev pub received : TheProcess → ℕ
received x = length x.receipts.senders

-- its outbox was given the effects of each message that it received, and each send that waits was made for one of these
pub record HasSent (x : TheProcess) : Type 0 where
  pub made : x.outbox.made ≡ received x
  pub waiting : All (λ (h : Held). h.rsn ≤ received x) x.outbox.gate.waiting

-- the message with this RSN is acknowledged, and the sends that may leave then are released
pub record Acknowledges (rsn : ℕ) (old new : TheProcess) : Type 0 where
  pub receipts : new.receipts ≡ acknowledged rsn old.receipts
  pub releases : Releases (run_of (acknowledged rsn old.receipts).acknowledged) old.outbox.gate new.outbox.gate
  pub others : new ≡ record old { receipts = new.receipts; outbox = record old.outbox { gate = new.outbox.gate } }

-- this result is committed
pub record Commits (d : TheCompletion) (old new : TheProcess) : Type 0 where
  pub state : new.state ≡ d.state
  pub receipts : new.receipts ≡ accepted d.task.message.sender old.receipts
  pub outbox : Gives d.effects old.outbox new.outbox
  pub working : new.working ≡ None
  pub incarnation : new.incarnation ≡ old.incarnation
  pub saved : new.saved ≡ old.saved
  pub mode : new.mode ≡ old.mode

-- all that it received is acknowledged
abbrev pub all_acknowledged : Received → Received
all_acknowledged x = record { senders = x.senders; acknowledged = replicate (length x.senders) true }

-- it has this checkpoint, which acknowledges all that it received, and what waited is released
pub record IsSaved (s : TheSaved) (old new : TheProcess) : Type 0 where
  pub releases : Releases (received old) old.outbox.gate new.outbox.gate
  pub others : new ≡ record old {
    receipts = all_acknowledged old.receipts;
    outbox = record old.outbox { gate = new.outbox.gate };
    saved = s;
  }

-- a crash takes all but the checkpoint and the incarnation
abbrev pub crashed : TheOutbox → TheProcess → TheProcess
crashed outbox x = record {
  state = [];
  incarnation = x.incarnation + 1;
  receipts = nothing_received;
  outbox = outbox;
  working = None;
  saved = x.saved;
  mode = Down;
}

-- it is restored from its checkpoint, and begins to replay the plan
abbrev pub restored : ThePlan → Bool → TheProcess → TheProcess
restored plan alone x = record {
  state = x.saved.state;
  incarnation = x.incarnation;
  receipts = receipts_again x.saved;
  outbox = outbox_again x.saved;
  working = None;
  saved = x.saved;
  mode = Replaying plan alone;
}

-- one more message of the plan is replayed
abbrev pub advanced : Mode → Mode
advanced Live = Live
advanced Down = Down
advanced (Replaying plan alone) = Replaying (record plan { replayed = plan.replayed + 1 }) alone
advanced (Resync peers) = Resync peers

-- this result, whose job is replayed, is committed
pub record Recalls (d : TheCompletion) (old new : TheProcess) : Type 0 where
  pub state : new.state ≡ d.state
  pub receipts : new.receipts ≡ acknowledged (received old + 1) (accepted d.task.message.sender old.receipts)
  pub outbox : Gives d.effects old.outbox new.outbox
  pub working : new.working ≡ None
  pub incarnation : new.incarnation ≡ old.incarnation
  pub saved : new.saved ≡ old.saved
  pub mode : new.mode ≡ advanced old.mode

-- it restores its RSNs from these peers. If there are none, it is up and all that it sent is released
pub record Settles (peers : Peers) (old new : TheProcess) : Type 0 where
  pub some : has_no_peer peers ≡ false → new ≡ record old { mode = Resync peers }
  pub none : has_no_peer peers ≡ true → ReleasesAll old.outbox new.outbox × (new ≡ record old { outbox = new.outbox; mode = Live })

-- if the process replays, the task's message is the next of the plan
abbrev pub IsNextAt : Mode → TheTask → Type 0
IsNextAt Live t = Unit {0}
IsNextAt Down t = Unit {0}
IsNextAt (Replaying plan alone) t = next_of plan ≡ Some (t.rsn, t.message)
IsNextAt (Resync peers) t = Unit {0}

-- its messages to a destination have no RSNs above this one
abbrev pub unnumbered_at : ℕ → ℕ → TheProcess → TheProcess
unnumbered_at d k x = record x { outbox = with_messages d (unnumbered k (queue_of d x.outbox.log)) x.outbox }

-- its messages to a destination up to this SSN are dropped
abbrev pub trimmed_at : ℕ → ℕ → TheProcess → TheProcess
trimmed_at d i x =
    record x { outbox = with_messages d (trimmed (count_up_to i (queue_of d x.outbox.log)) (queue_of d x.outbox.log)) x.outbox }
