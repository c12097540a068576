-- What an arrival changes
use Rattle.std.specs.Prelude.{◌≡◌, ℕ, ◌+◌, ◌-◌, ◌<◌, length, Some, None, true, ◌==◌, if◌then◌else◌, slice_index_or, slice_set}
use Rattle.limits.specs.declared.TheConstants.{ENTRIES}
use Rattle.rsn.specs.declared.receipts.Judgement.{Judgement}
use Rattle.rsn.specs.declared.receipts.Judgement.TheVariants as judgements
use Rattle.sender_log.specs.Queue.{recorded}
use Rattle.sender_log.specs.Log.{TheLog, queue_of, with_queue}
use Rattle.world.specs.declared.message.Message.{Message}
use Rattle.world.specs.declared.packet.Packet.{Packet}
use Rattle.world.specs.declared.packet.Packet.TheVariants.{Number, Acknowledgement}
use Rattle.world.specs.declared.call.Call.TheVariants.{Arrive}
use Rattle.world.specs.History.{rsn_of}
use Rattle.world.specs.World.{World}
use Rattle.world.specs.Answers.{Next, Known, Ahead, judge, target_of}
use Rattle.world.specs.Refusals.{refusal_of}
use Rattle.session_process.specs.Wire.{Puts}
use Rattle.machine.specs.Fields.{IsCarried}
use Rattle.machine.specs.Simulation.{TheMachine, Stands, process_at, log_at, is_up_at}

-- the world gives the message the same verdict. A process knows the RSN of a message that it has
abbrev pub IsJudged : World → ℕ → Message → Judgement → Type 0
IsJudged w d m judgements.Next = judge w d m ≡ Next
IsJudged w d m (judgements.Duplicate k) = (judge w d m ≡ Known) × (0 < d → rsn_of (w.history d) m.sender m.ssn ≡ Some k)
IsJudged w d m judgements.Early = judge w d m ≡ Ahead

-- an RSN that is told is one of 1, 2, ..
abbrev pub IsNumbered : Judgement → Type 0
IsNumbered judgements.Next = Unit {0}
IsNumbered (judgements.Duplicate k) = 0 < k
IsNumbered judgements.Early = Unit {0}

-- this packet is under the key, may be taken, and its receiver is up
pub record MayArrive (m : TheMachine) (room key : ℕ) (packet : Packet) : Type 0 where
  pub found : slice_index_or m.slots key None ≡ Some packet
  pub carried : IsCarried (length m.processes) packet
  pub up : is_up_at m (target_of packet) ≡ true
  pub accepted : (w : World) → Stands m w → refusal_of w room (Arrive key) ≡ None
  pub calls : m.calls < ENTRIES

-- the packet is gone, and nothing else has changed
pub record Drops (old new : TheMachine) (key : ℕ) : Type 0 where
  pub wire : Puts old.slots new.slots key (slice_index_or old.slots key None) None
  pub others : new ≡ record old { slots = new.slots; calls = old.calls + 1 }

-- the log of this sender, with the RSN for its message with this SSN
abbrev pub numbered : TheLog → ℕ → ℕ → ℕ → TheLog
numbered l receiver ssn rsn = with_queue receiver (recorded ssn rsn (queue_of receiver l)) l

-- the sender's log gets the RSN of a message, and nothing else changes
abbrev pub Records : TheMachine → TheMachine → ℕ → ℕ → ℕ → ℕ → Type 0
Records old new sender receiver ssn rsn =
    let l : TheLog = numbered (log_at old sender) receiver ssn rsn in
    new
    ≡ (if sender == 0
    then record old { outside = record old.outside { log = l } }
    else record old {
      processes = slice_set old.processes (sender - 1)
          (record (process_at old sender) { outbox = record (process_at old sender).outbox { log = l } });
    })

-- the packet tells an RSN
abbrev pub IsNumber : Packet → Type 0
IsNumber (Number r s i k incarnation) = Unit {0}
IsNumber other = ⊥

-- the packet acknowledges an RSN
abbrev pub IsAcknowledgement : Packet → Type 0
IsAcknowledgement (Acknowledgement s r k incarnation) = Unit {0}
IsAcknowledgement other = ⊥
