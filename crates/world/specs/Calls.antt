-- The world after an accepted call, one case a call. A field that isn't named stays as it was
use Rattle.std.specs.Prelude.{ℕ, suc, zero, ◌+◌, ◌-◌, min, max, List, [], ◌∷◌, ◌++◌, length, Option, Some, None, Bool, true, false, not}
use Rattle.std.specs.Prelude.{◌&&◌, ◌||◌, ◌==◌, nat_lt, nat_le, if◌then◌else◌, take}
use Rattle.world.specs.declared.message.Message.{Message}
use Rattle.world.specs.declared.packet.Packet.{Packet}
use Rattle.world.specs.declared.packet.Packet.TheVariants.{Delivery, Number, Acknowledgement}
use Rattle.world.specs.declared.call.Call.{Call}
use Rattle.world.specs.declared.call.Call.TheVariants.{Input, Transmit, Copy, Lose, Arrive, Finish, Checkpoint, Trim, Crash, Recover}
use Rattle.world.specs.declared.call.Call.TheVariants.{RecoverAlone, ReplayBegin, Resync as ResyncWith}
use Rattle.world.specs.declared.answer.Answer.{Answer}
use Rattle.world.specs.declared.answer.Answer.TheVariants.{Placed, Started, Numbered, Acknowledged, Shown, Duplicate, Committed, Replayed}
use Rattle.world.specs.declared.answer.Answer.TheVariants.{Kept}
use Rattle.world.specs.History.{Payload, nth, rsn_of}
use Rattle.world.specs.Phases.{Phase, Up, Busy, Down, Replaying, Resync, is_up, todo_of, without, those}
use Rattle.world.specs.World.{World, put}
use Rattle.world.specs.Logs.{payloads, sent, sent_in_all, run_to, covered, is_entry}
use Rattle.world.specs.Plan.{message_of, gather}

-- The wire

-- the outside hands in a payload for d. It is logged after the earlier ones, and the feed number is taken
abbrev pub input : World → ℕ → ℕ → Payload → World
input w d feed x = record w { inputs = put w.inputs d (w.inputs d ++ x ∷ []); feeds = put w.feeds feed true }

-- the packet that brings a message to d; None if there is no message
abbrev pub delivery : ℕ → Option Message → Option Packet
delivery d None = None
delivery d (Some m) = Some (Delivery d m)

-- the message of p to d with this SSN goes on the wire
abbrev pub transmit : World → ℕ → ℕ → ℕ → ℕ → World
transmit w p d i key = record w { wire = put w.wire key (delivery d (message_of p i (nth (sent w p d) i))) }

-- the packet with this key goes on the wire a second time, under a key of its own
abbrev pub copy : World → ℕ → ℕ → World
copy w key new = record w { wire = put w.wire new (w.wire key) }

-- the packet with this key leaves the wire and nothing else changes: it was lost, or its receiver had no use for it
abbrev pub lose : World → ℕ → World
lose w key = record w { wire = put w.wire key None }

-- What arrives

-- a message arrives, is the next of its sender, and opens a job
abbrev pub begin : World → ℕ → ℕ → Message → World
begin w key d m = record w { phase = put w.phase d (Busy m); wire = put w.wire key None; started = w.started + 1 }

-- the packet that tells the sender this number
abbrev pub number_for : World → ℕ → Message → Option ℕ → Option Packet
number_for w d m None = None
number_for w d m (Some k) = Some (Number d m.sender m.ssn k (w.incarnation d))

-- a message arrives at a process that already has it. The process tells its number again
abbrev pub duplicate : World → ℕ → ℕ → Message → ℕ → World
duplicate w key d m new = record w { wire = put (put w.wire key None) new (number_for w d m (rsn_of (w.history d) m.sender m.ssn)) }

-- a message arrives at the outside, and is the next of its sender
abbrev pub show : World → ℕ → Message → World
show w key m = record w { wire = put w.wire key None; shown = w.shown ++ m ∷ [] }

-- in the log of s, its message to r with the SSN i gets the number k
abbrev pub recorded : World → ℕ → ℕ → ℕ → ℕ → ℕ → ℕ → ℕ → Option ℕ
recorded w s r i k = put w.numbers s (put (w.numbers s) r (put (w.numbers s r) i (Some k)))

-- a number arrives at the sender
abbrev pub note : World → ℕ → ℕ → ℕ → ℕ → ℕ → ℕ → ℕ → World
note w key r s i k incarnation new =
    record w { numbers = recorded w s r i k; wire = put (put w.wire key None) new (Some (Acknowledgement s r k incarnation)) }

-- an acknowledgement arrives at the receiver. All that it sent up to the end of the acknowledged run is released, and what is
-- released stays released
abbrev pub acknowledge : World → ℕ → ℕ → ℕ → World
acknowledge w key r k =
    let acknowledged : ℕ → Bool = put (w.acknowledged r) k true in
    let run : ℕ = run_to acknowledged (length (w.history r)) in
    record w {
      acknowledged = put w.acknowledged r acknowledged;
      released = put w.released r (λ d. max (w.released r d) (length (payloads w r (take run (w.history r)) d)));
      wire = put w.wire key None;
    }

-- a packet arrives and gets this answer
abbrev pub arrive : World → ℕ → Option Packet → Answer → World
arrive w key (Some (Delivery d m)) (Started n) = begin w key d m
arrive w key (Some (Delivery d m)) (Duplicate new) = duplicate w key d m new
arrive w key (Some (Delivery d m)) (Shown i) = show w key m
arrive w key (Some (Number r s i k incarnation)) (Numbered new) = note w key r s i k incarnation new
arrive w key (Some (Acknowledgement s r k incarnation)) Acknowledged = acknowledge w key r k
arrive w key packet a = lose w key

-- Results

-- a job is finished: its message is received now, and its number goes on the wire
abbrev pub commit : World → ℕ → Message → ℕ → World
commit w p m new =
    record w {
      history = put w.history p (w.history p ++ m ∷ []);
      phase = put w.phase p Up;
      wire = put w.wire new (Some (Number p m.sender m.ssn (length (w.history p) + 1) (w.incarnation p)));
    }

-- the phase of a process that still has to restore its numbers from these peers: if there are none, it is up
abbrev pub phase_with : List ℕ → Phase
phase_with [] = Up
phase_with (r ∷ rs) = Resync (r ∷ rs)

-- how much is released then: if there are no peers left, all that p sent
abbrev pub released_with : World → ℕ → List ℕ → ℕ → ℕ
released_with w p [] = sent_in_all w p
released_with w p (r ∷ rs) = w.released p

-- p still restores its numbers from these peers. If there are none, it is up and all that it sent is released
abbrev pub ready : World → ℕ → List ℕ → World
ready w p peers = record w { phase = put w.phase p (phase_with peers); released = put w.released p (released_with w p peers) }

-- the peers from which p restores its numbers: all others, or if it came back alone those that are up
abbrev pub peers : World → ℕ → Bool → List ℕ
peers w p alone = those (λ q. not (q == p) && (not alone || is_up (w.phase q))) w.count

-- one more message is replayed
abbrev pub replay : World → ℕ → ℕ → Bool → World
replay w p j alone =
    if nat_lt (w.saved p + suc j) (length (w.history p))
    then record w { phase = put w.phase p (Replaying (suc j) false alone) }
    else ready w p (peers w p alone)

-- a job's result comes back: its message is received now, or replayed if it was received before a crash
abbrev pub finish : World → ℕ → Phase → Answer → World
finish w p (Busy m) (Committed n new) = commit w p m new
finish w p (Replaying j working alone) (Replayed n) = replay w p j alone
finish w p phase a = w

-- Checkpoints

-- a checkpoint acknowledges all that it covers
abbrev pub checkpoint : World → ℕ → World
checkpoint w p =
    record w {
      saved = put w.saved p (length (w.history p));
      saved_trims = put w.saved_trims p (w.trims p);
      acknowledged = put w.acknowledged p (λ k. nat_le k (length (w.history p)));
      released = put w.released p (sent_in_all w p);
    }

-- the trim count of a sender that is up rises to what d has for good, and at most to what it sent
abbrev pub trimmed : World → ℕ → ℕ → ℕ
trimmed w d s = if is_up (w.phase s) then max (w.trims s d) (min (covered w s d) (length (sent w s d))) else w.trims s d

-- each sender that is up drops from its log what d has for good
abbrev pub trim : World → ℕ → World
trim w d = record w { trims = λ s. put (w.trims s) d (trimmed w d s) }

-- how many entries the senders below k drop by this
abbrev pub dropped : World → ℕ → ℕ → ℕ
dropped w d zero = 0
dropped w d (suc k) = (trimmed w d k - w.trims k d) + dropped w d k

-- Crash and recovery

-- a crash takes all but the checkpoint and the incarnation
abbrev pub crash : World → ℕ → World
crash w p =
    record w {
      phase = put w.phase p Down;
      incarnation = put w.incarnation p (w.incarnation p + 1);
      acknowledged = put w.acknowledged p (λ _. false);
      released = put w.released p (λ _. 0);
      numbers = put w.numbers p (λ _ _. None);
      trims = put w.trims p (w.saved_trims p);
    }

-- the number, if it is at most k
abbrev pub up_to : ℕ → Option ℕ → Option ℕ
up_to k None = None
up_to k (Some m) = if nat_le m k then Some m else None

-- p keeps k messages, those of its checkpoint and its plan. All senders forget its numbers above k
abbrev pub keep : World → ℕ → ℕ → World
keep w p k =
    record w {
      history = put w.history p (gather w p (take (w.saved p) (w.history p)) (k - w.saved p));
      numbers = λ s. put (w.numbers s) p (λ i. up_to k (w.numbers s p i));
      acknowledged = put w.acknowledged p (λ m. nat_le m k);
    }

-- p keeps k messages, and replays those after its checkpoint
abbrev pub recover : World → ℕ → ℕ → Bool → World
recover w p k alone =
    if nat_lt (w.saved p) k
    then record (keep w p k) { phase = put w.phase p (Replaying 0 false alone) }
    else ready (keep w p k) p (peers w p alone)

-- a process that replays opens a job on the next message. Any other phase stays
abbrev pub with_open_job : Phase → Phase
with_open_job (Replaying j working alone) = Replaying j true alone
with_open_job phase = phase

-- p opens a job on the next message that it replays
abbrev pub replay_begin : World → ℕ → World
replay_begin w p = record w { phase = put w.phase p (with_open_job (w.phase p)); started = w.started + 1 }

-- the number that p's log has for its message to r with this SSN, after r told it
abbrev pub told : World → ℕ → ℕ → ℕ → Option ℕ
told w p r i = if is_entry w p r i then rsn_of (w.history r) p i else w.numbers p r i

-- r tells p under which numbers it received p's messages. r is no longer among the peers that are left
abbrev pub resync : World → ℕ → ℕ → World
resync w p r = ready (record w { numbers = put w.numbers p (put (w.numbers p) r (told w p r)) }) p (without (todo_of (w.phase p)) r)

-- how many of p's log entries for r get a number, of those with an SSN up to i
abbrev pub restored : World → ℕ → ℕ → ℕ → ℕ
restored w p r zero = 0
restored w p r (suc i) = (if is_entry w p r i && has_number (rsn_of (w.history r) p i) then 1 else 0) + restored w p r i
  where
    has_number : Option ℕ → Bool
    has_number None = false
    has_number (Some m) = true

-- All calls

-- the world after an accepted call and its answer. The answer tells the choices that were made
abbrev pub after : World → Call → Answer → World
after w (Input d feed x) a = input w d feed x
after w (Transmit p d i) (Placed key) = transmit w p d i key
after w (Copy key) (Placed new) = copy w key new
after w (Lose key) a = lose w key
after w (Arrive key) a = arrive w key (w.wire key) a
after w (Finish p) a = finish w p (w.phase p) a
after w (Checkpoint p) a = checkpoint w p
after w (Trim d) a = trim w d
after w (Crash p) a = crash w p
after w (Recover p) (Kept k) = recover w p k false
after w (RecoverAlone p) (Kept k) = recover w p k true
after w (ReplayBegin p) a = replay_begin w p
after w (ResyncWith p r) a = resync w p r
after w call a = w
