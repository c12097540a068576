-- Which answers an accepted call may get. An answer tells each choice that was made, as the key of a new packet
use Rattle.std.specs.Prelude.{◌≡◌, ℕ, suc, zero, ◌+◌, ◌-◌, ◌<◌, ◌≤◌, List, length, Option, Some, None, Bool, true, false, ◌&&◌, ◌==◌}
use Rattle.std.specs.Prelude.{nat_lt, nat_le, if◌then◌else◌, take}
use Rattle.world.specs.declared.message.Message.{Message}
use Rattle.world.specs.declared.packet.Packet.{Packet}
use Rattle.world.specs.declared.packet.Packet.TheVariants.{Delivery, Number, Acknowledgement}
use Rattle.world.specs.declared.call.Call.{Call}
use Rattle.world.specs.declared.call.Call.TheVariants.{Input, Transmit, Copy, Lose, Arrive, Finish, Checkpoint, Trim, Crash, Recover}
use Rattle.world.specs.declared.call.Call.TheVariants.{RecoverAlone, ReplayBegin, Resync as ResyncWith}
use Rattle.world.specs.declared.answer.Answer.{Answer}
use Rattle.world.specs.declared.answer.Answer.TheVariants.{Logged, Placed, Lost, Started, Numbered, Acknowledged, Shown, Duplicate}
use Rattle.world.specs.declared.answer.Answer.TheVariants.{ShownBefore, Early, Stale, Unreachable, Committed, Replayed, Saved, Trimmed}
use Rattle.world.specs.declared.answer.Answer.TheVariants.{Crashed, Kept, Restored}
use Rattle.world.specs.History.{count_of}
use Rattle.world.specs.Phases.{Phase, Busy, Replaying, is_up}
use Rattle.world.specs.World.{World, put}
use Rattle.world.specs.Logs.{length_of, sent, is_entry}
use Rattle.world.specs.Plan.{chosen, gather}
use Rattle.world.specs.Bounds.{WIRE}
use Rattle.world.specs.Calls.{dropped, restored}

-- what a message is to its receiver: the next of its sender, one that it has, or one before which another is missing
pub data Verdict : Type 0 where
  Next : Verdict
  Known : Verdict
  Ahead : Verdict

-- the verdict on the SSN i, if n messages of its sender came
abbrev pub verdict_of : ℕ → ℕ → Verdict
verdict_of n i = if i == suc n then Next else if nat_lt n i then Ahead else Known

-- how many messages of its sender the receiver of a message has. The outside has those that it was shown
abbrev pub received_of : World → ℕ → Message → ℕ
received_of w zero m = count_of m.sender w.shown
received_of w (suc d) m = count_of m.sender (w.history (suc d))

-- the verdict on a message that arrives at d. The outside is d = 0
abbrev pub judge : World → ℕ → Message → Verdict
judge w d m = verdict_of (received_of w d m) m.ssn

-- whether a key is vacant on this wire, so that a new packet may have it
abbrev pub IsVacant : (ℕ → Option Packet) → ℕ → Type 0
IsVacant wire key = (key < WIRE) × (wire key ≡ None)

-- the answer has a key that is vacant on this wire
abbrev pub WithKey : (ℕ → Option Packet) → (ℕ → Answer) → Answer → Type 0
WithKey wire f a = (key : ℕ) × IsVacant wire key × (a ≡ f key)

-- the answer to a message with this verdict, first at the outside, then at a process
abbrev pub ReceivesAs : World → ℕ → ℕ → Message → Verdict → Answer → Type 0
ReceivesAs w key zero m Next a = a ≡ Shown m.ssn
ReceivesAs w key zero m Known a = a ≡ ShownBefore
ReceivesAs w key zero m Ahead a = a ≡ Early
ReceivesAs w key (suc d) m Next a = a ≡ Started (w.started + 1)
ReceivesAs w key (suc d) m Known a = WithKey (put w.wire key None) Duplicate a
ReceivesAs w key (suc d) m Ahead a = a ≡ Early

-- the answer to a number, by whether it is good or stale
abbrev pub NumbersAs : World → ℕ → Bool → Answer → Type 0
NumbersAs w key true a = WithKey (put w.wire key None) Numbered a
NumbersAs w key false a = a ≡ Stale

-- the answer to an acknowledgement, by whether it is good or stale
abbrev pub AcknowledgesAs : Bool → Answer → Type 0
AcknowledgesAs true a = a ≡ Acknowledged
AcknowledgesAs false a = a ≡ Stale

-- the receiver of a packet
abbrev pub target_of : Packet → ℕ
target_of (Delivery d m) = d
target_of (Number r s i k incarnation) = s
target_of (Acknowledgement s r k incarnation) = r

-- the answer to a packet whose receiver is up
abbrev pub ReceivesUp : World → ℕ → Packet → Answer → Type 0
ReceivesUp w key (Delivery d m) a = ReceivesAs w key d m (judge w d m) a
ReceivesUp w key (Number r s i k incarnation) a = NumbersAs w key ((incarnation == w.incarnation r) && is_entry w s r i) a
ReceivesUp w key (Acknowledgement s r k incarnation) a = AcknowledgesAs ((incarnation == w.incarnation r) && nat_le k (length_of w r)) a

-- the answer to a packet, by whether its receiver is up: if not, it is `Unreachable`
abbrev pub ReceivesIf : Bool → World → ℕ → Packet → Answer → Type 0
ReceivesIf true w key k a = ReceivesUp w key k a
ReceivesIf false w key k a = a ≡ Unreachable

-- the answer to the arrival of the packet with this key. If no packet has the key, there is none
abbrev pub Receives : World → ℕ → Option Packet → Answer → Type 0
Receives w key None a = ⊥
Receives w key (Some k) a = ReceivesIf (is_up (w.phase (target_of k))) w key k a

-- the answer to a job's result: the RSN of its message, and the key of the packet that tells it
abbrev pub Finishes : World → ℕ → Phase → Answer → Type 0
Finishes w p (Busy m) a = WithKey w.wire (Committed (length (w.history p) + 1)) a
Finishes w p (Replaying j working alone) a = a ≡ Replayed (w.saved p + j + 1)
Finishes w p phase a = ⊥

-- checkpoint and plan have k messages together, and the plan has no more
abbrev pub Keeps : World → ℕ → Answer → Type 0
Keeps w p (Kept k) =
    let gathered : List Message = gather w p (take (w.saved p) (w.history p)) (k - w.saved p) in
    (w.saved p ≤ k) × (length gathered ≡ k) × (chosen w p gathered ≡ None)
Keeps w p a = ⊥

-- an answer that the call may get if it isn't refused. Each vacant key for a new packet makes another one
abbrev pub MayAnswer : World → Call → Answer → Type 0
MayAnswer w (Input d feed x) a = a ≡ Logged (length (w.inputs d) + 1)
MayAnswer w (Transmit p d i) a = WithKey w.wire Placed a
MayAnswer w (Copy key) a = WithKey w.wire Placed a
MayAnswer w (Lose key) a = a ≡ Lost
MayAnswer w (Arrive key) a = Receives w key (w.wire key) a
MayAnswer w (Finish p) a = Finishes w p (w.phase p) a
MayAnswer w (Checkpoint p) a = a ≡ Saved (length (w.history p))
MayAnswer w (Trim d) a = a ≡ Trimmed (dropped w d (suc w.count))
MayAnswer w (Crash p) a = a ≡ Crashed (w.incarnation p + 1)
MayAnswer w (Recover p) a = Keeps w p a
MayAnswer w (RecoverAlone p) a = Keeps w p a
MayAnswer w (ReplayBegin p) a = a ≡ Started (w.started + 1)
MayAnswer w (ResyncWith p r) a = a ≡ Restored (restored w p r (suc (length (sent w p r))))
