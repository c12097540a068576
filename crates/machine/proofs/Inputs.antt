-- The outside has no inputs for itself
use Rattle.std.proofs.Common.{◌≡◌, ℕ, zero, suc, ◌+◌, [], length, Bool, true, false, arith}
use Rattle.std.specs.Prelude.{◌==◌, nat_lt, if◌then◌else◌, Option, Some, None}
use Rattle.std.proofs.lemmas.Bool.Decides.{nat_tests}
use Rattle.world.specs.declared.packet.Packet.{Packet}
use Rattle.world.specs.declared.packet.Packet.TheVariants.{Delivery, Number, Acknowledgement}
use Rattle.world.specs.declared.call.Call.{Call}
use Rattle.world.specs.declared.call.Call.TheVariants.{Input, Transmit, Copy, Lose, Arrive, Finish, Checkpoint, Trim, Crash, Recover, RecoverAlone, ReplayBegin, Resync as ResyncWith}
use Rattle.world.specs.declared.answer.Answer.{Answer}
use Rattle.world.specs.declared.answer.Answer.TheVariants.{Placed, Started, Numbered, Acknowledged, Shown, Duplicate, Committed, Replayed, Kept}
use Rattle.world.specs.History.{Payload}
use Rattle.world.specs.Phases.{Phase, Busy, Replaying}
use Rattle.world.specs.World.{World, put}
use Rattle.world.specs.Calls.{after, arrive, finish, keep, peers, ready, recover}
use Rattle.world.specs.Refusals.{refusal_of}

arrived : (w : World) (key : ℕ) (found : Option Packet) (a : Answer) → w.inputs 0 ≡ [] → (arrive w key found a).inputs 0 ≡ []
arrived w key (Some (Delivery d m)) (Started n) e = e
arrived w key (Some (Delivery d m)) (Duplicate new) e = e
arrived w key (Some (Delivery d m)) (Shown i) e = e
arrived w key (Some (Number r s i k incarnation)) (Numbered new) e = e
arrived w key (Some (Acknowledgement s r k incarnation)) Acknowledged e = e
arrived w key packet a e = e

-- of two worlds one
either : (b : Bool) (v w : World) → v.inputs 0 ≡ [] → w.inputs 0 ≡ [] → (if b then v else w).inputs 0 ≡ []
either true v w e f = e
either false v w e f = f

finished : (w : World) (p : ℕ) (phase : Phase) (a : Answer) → w.inputs 0 ≡ [] → (finish w p phase a).inputs 0 ≡ []
finished w p (Busy m) (Committed n new) e = e
finished w p (Replaying j working alone) (Replayed n) e = either (nat_lt (w.saved p + suc j) (length (w.history p))) (record w { phase = put w.phase p (Replaying (suc j) false alone) }) (ready w p (peers w p alone)) e e
finished w p phase a e = e

recovered : (w : World) (p k : ℕ) (alone : Bool) → w.inputs 0 ≡ [] → (recover w p k alone).inputs 0 ≡ []
recovered w p k alone e = either (nat_lt (w.saved p) k) (record (keep w p k) { phase = put w.phase p (Replaying 0 false alone) }) (ready (keep w p k) p (peers w p alone)) e e

-- an accepted input is for a process
fed : (w : World) (room d feed : ℕ) (x : Payload) → refusal_of w room (Input d feed x) ≡ None → (0 == d) ≡ false
fed w room zero feed x accepted = absurd (cc)
fed w room (suc d) feed x accepted = grind (arith, nat_tests)

-- nor has it after an accepted call
pub unsent-after : (w : World) (room : ℕ) (call : Call) (a : Answer) → refusal_of w room call ≡ None → w.inputs 0 ≡ [] → (after w call a).inputs 0 ≡ []
unsent-after w room (Input d feed x) a accepted e = rw (fed w room d feed x accepted) e
unsent-after w room (Transmit p d i) (Placed key) accepted e = e
unsent-after w room (Transmit p d i) a accepted e = e
unsent-after w room (Copy key) (Placed new) accepted e = e
unsent-after w room (Copy key) a accepted e = e
unsent-after w room (Lose key) a accepted e = e
unsent-after w room (Arrive key) a accepted e = arrived w key (w.wire key) a e
unsent-after w room (Finish p) a accepted e = finished w p (w.phase p) a e
unsent-after w room (Checkpoint p) a accepted e = e
unsent-after w room (Trim d) a accepted e = e
unsent-after w room (Crash p) a accepted e = e
unsent-after w room (Recover p) (Kept k) accepted e = recovered w p k false e
unsent-after w room (Recover p) a accepted e = e
unsent-after w room (RecoverAlone p) (Kept k) accepted e = recovered w p k true e
unsent-after w room (RecoverAlone p) a accepted e = e
unsent-after w room (ReplayBegin p) a accepted e = e
unsent-after w room (ResyncWith p r) a accepted e = e
