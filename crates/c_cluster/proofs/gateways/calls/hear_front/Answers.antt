use Rattle.std.proofs.Common.{◌≡◌, ◌+◌, inl, inr, refl, arith}
use Rattle.c_handles.specs.declared.bundle.BundleTally.{BundleTally}
use Rattle.c_cluster.specs.declared.gateways.fault.GatewayFault.{GatewayFault}
use Rattle.c_cluster.specs.declared.gateways.fault.GatewayFault.TheVariants.{Memory, Handle, Payload, Room, Absent, Bytes, Early, Range}
use Rattle.gateway.specs.Gateway.{TheGateway}
use Rattle.c_handles.specs.Bundle.{none_counted, one_taken, one_refused, one_lost, Counting}
use Rattle.c_cluster.specs.Gateways.Bundles.{Hears, one_untaken}
use Rattle.c_cluster.specs.Gateways.Calls.{IsUnreceived}
use Rattle.c_handles.proofs.Bundles.{goes_on}
use Rattle.c_cluster.proofs.gateways.calls.hear_front.Goals as goal

lost : (why : GatewayFault) (t : BundleTally) → why ≡ Memory → one_lost t ≡ one_untaken why t
lost why t is = rw is refl

refused : (why : GatewayFault) (t : BundleTally) → ¬ (why ≡ Memory) → one_refused t ≡ one_untaken why t
refused Memory t other = absurd (other refl)
refused Handle t other = refl
refused Payload t other = refl
refused Room t other = refl
refused Absent t other = refl
refused Bytes t other = refl
refused Early t other = refl
refused Range t other = refl

pub loop-packet-preserved-in-Ok : goal.loop-packet-preserved-in-Ok
loop-packet-preserved-in-Ok c =
    let i = c.loop-packet.invariant in
    let t = c.loop-packet.tally in
    let part = c.in-Some.ensures in
    let begun : Counting TheGateway = (c.args.handle.now.gateway.value, none_counted) in
    let old : Counting TheGateway = (c.loop-packet.handle.gateway.value, t) in
    let new : Counting TheGateway = (c.receive.new.handle.gateway.value, one_taken t) in
    let heard : Hears c.in-Some.packet.now old new = inl (0, c.receive.new.fault, c.in-Ok.ensures, refl) in
    goes_on Hears i.0 c.in-Some.packet.now c.args.bytes.now c.loop-packet.rest.now c.in-Some.after.now begun old new (t.taken + t.refused + t.lost) (t.taken + 1 + t.refused + t.lost) i.1 i.2 i.3 part.0 part.1 heard (omega arith)

pub loop-packet-preserved-in-Memory : goal.loop-packet-preserved-in-Memory
loop-packet-preserved-in-Memory c =
    let i = c.loop-packet.invariant in
    let t = c.loop-packet.tally in
    let part = c.in-Some.ensures in
    let begun : Counting TheGateway = (c.args.handle.now.gateway.value, none_counted) in
    let old : Counting TheGateway = (c.loop-packet.handle.gateway.value, t) in
    let new : Counting TheGateway = (c.receive.new.handle.gateway.value, one_lost t) in
    let unheard : IsUnreceived c.in-Some.packet.now 0 c.receive.new.fault old.0 c.in-Err.why × (new.0 ≡ old.0) = c.in-Err.ensures in
    let heard : Hears c.in-Some.packet.now old new = inr (c.in-Err.why, 0, c.receive.new.fault, unheard.0, unheard.1, lost c.in-Err.why t c.in-Memory.is) in
    goes_on Hears i.0 c.in-Some.packet.now c.args.bytes.now c.loop-packet.rest.now c.in-Some.after.now begun old new (t.taken + t.refused + t.lost) (t.taken + t.refused + (t.lost + 1)) i.1 i.2 i.3 part.0 part.1 heard (omega arith)

pub loop-packet-preserved : goal.loop-packet-preserved
loop-packet-preserved c =
    let i = c.loop-packet.invariant in
    let t = c.loop-packet.tally in
    let part = c.in-Some.ensures in
    let begun : Counting TheGateway = (c.args.handle.now.gateway.value, none_counted) in
    let old : Counting TheGateway = (c.loop-packet.handle.gateway.value, t) in
    let new : Counting TheGateway = (c.receive.new.handle.gateway.value, one_refused t) in
    let unheard : IsUnreceived c.in-Some.packet.now 0 c.receive.new.fault old.0 c.in-Err.why × (new.0 ≡ old.0) = c.in-Err.ensures in
    let heard : Hears c.in-Some.packet.now old new = inr (c.in-Err.why, 0, c.receive.new.fault, unheard.0, unheard.1, refused c.in-Err.why t c.in_default-why.not-Memory) in
    goes_on Hears i.0 c.in-Some.packet.now c.args.bytes.now c.loop-packet.rest.now c.in-Some.after.now begun old new (t.taken + t.refused + t.lost) (t.taken + (t.refused + 1) + t.lost) i.1 i.2 i.3 part.0 part.1 heard (omega arith)
