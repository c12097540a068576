use Rattle.std.proofs.Common.{◌≡◌, ◌+◌, Result, Ok, Err, inl, inr, refl, arith}
use Rattle.std.specs.Prelude.{Option}
use Rattle.process.specs.Process.{TheProcess}
use Rattle.c_handles.specs.declared.bundle.BundleTally.{BundleTally}
use Rattle.c_calls.specs.declared.nodes.fault.NodeFault.{NodeFault}
use Rattle.c_calls.specs.declared.nodes.fault.NodeFault.TheVariants.{Memory, Handle, Image, Room, Absent, Bytes, Unready, Limit, Left}
use Rattle.c_handles.specs.Bundle.{none_counted, one_taken, one_refused, one_lost, Counting}
use Rattle.c_calls.specs.Nodes.Answers.{Results}
use Rattle.c_calls.specs.Nodes.Bundles.{IsToWork, Serves, one_untaken}
use Rattle.c_calls.specs.Nodes.Calls.{HasWorked, HasNotWorked}
use Rattle.c_handles.proofs.Bundles.{goes_on}
use Rattle.c_calls.proofs.nodes.calls.serve.Goals as goal

worked : (r : Result (Unit {0}) NodeFault) (old new : Option TheProcess) → Results r old new HasWorked HasNotWorked → IsToWork old new
worked (Ok u) old new h = inl h
worked (Err why) old new h = inr (why, h)

lost : (why : NodeFault) (t : BundleTally) → why ≡ Memory → one_lost t ≡ one_untaken why t
lost why t is = rw is refl

refused : (why : NodeFault) (t : BundleTally) → ¬ (why ≡ Memory) → one_refused t ≡ one_untaken why t
refused Memory t other = absurd (other refl)
refused Handle t other = refl
refused Image t other = refl
refused Room t other = refl
refused Absent t other = refl
refused (Bytes f) t other = refl
refused Unready t other = refl
refused Limit t other = refl
refused Left t other = refl

pub loop-packet-preserved-in-Ok : goal.loop-packet-preserved-in-Ok
loop-packet-preserved-in-Ok c =
    let i = c.loop-packet.invariant in
    let t = c.loop-packet.tally in
    let part = c.in-Some.ensures in
    let begun : Counting TheProcess = (c.args.handle.now.process.value, none_counted) in
    let old : Counting TheProcess = (c.loop-packet.handle.process.value, t) in
    let new : Counting TheProcess = (c.work-worked.new.handle.process.value, one_taken t) in
    let mid = c.receive.new.handle.process.value in
    let served : Serves c.in-Some.packet.now old new = inl (mid, c.in-Ok.ensures, worked c.work-worked.result mid new.0 c.work-worked.ensures, refl) in
    goes_on Serves i.0 c.in-Some.packet.now c.args.bytes.now c.loop-packet.rest.now c.in-Some.after.now begun old new (t.taken + t.refused + t.lost) (t.taken + 1 + t.refused + t.lost) i.1 i.2 i.3 part.0 part.1 served (omega arith)

pub loop-packet-preserved-in-Memory : goal.loop-packet-preserved-in-Memory
loop-packet-preserved-in-Memory c =
    let i = c.loop-packet.invariant in
    let t = c.loop-packet.tally in
    let part = c.in-Some.ensures in
    let begun : Counting TheProcess = (c.args.handle.now.process.value, none_counted) in
    let old : Counting TheProcess = (c.loop-packet.handle.process.value, t) in
    let new : Counting TheProcess = (c.receive.new.handle.process.value, one_lost t) in
    let served : Serves c.in-Some.packet.now old new = inr (c.in-Err.why, c.in-Err.ensures, lost c.in-Err.why t c.in-Memory.is) in
    goes_on Serves i.0 c.in-Some.packet.now c.args.bytes.now c.loop-packet.rest.now c.in-Some.after.now begun old new (t.taken + t.refused + t.lost) (t.taken + t.refused + (t.lost + 1)) i.1 i.2 i.3 part.0 part.1 served (omega arith)

pub loop-packet-preserved : goal.loop-packet-preserved
loop-packet-preserved c =
    let i = c.loop-packet.invariant in
    let t = c.loop-packet.tally in
    let part = c.in-Some.ensures in
    let begun : Counting TheProcess = (c.args.handle.now.process.value, none_counted) in
    let old : Counting TheProcess = (c.loop-packet.handle.process.value, t) in
    let new : Counting TheProcess = (c.receive.new.handle.process.value, one_refused t) in
    let served : Serves c.in-Some.packet.now old new = inr (c.in-Err.why, c.in-Err.ensures, refused c.in-Err.why t c.in_default-why.not-Memory) in
    goes_on Serves i.0 c.in-Some.packet.now c.args.bytes.now c.loop-packet.rest.now c.in-Some.after.now begun old new (t.taken + t.refused + t.lost) (t.taken + (t.refused + 1) + t.lost) i.1 i.2 i.3 part.0 part.1 served (omega arith)
