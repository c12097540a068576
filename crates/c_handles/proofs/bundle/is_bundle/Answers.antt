use Rattle.std.proofs.Common.{rules, ◌≡◌, ◌++◌, ◌∷◌, [], length, eqb, arith}
use Rattle.std.proofs.lemmas.Grind.{common_steps}
use Rattle.c_handles.proofs.Bundles.{more_front, whole}
use Rattle.c_handles.proofs.bundle.is_bundle.Goals as goal

pub loop-packet-preserved : goal.loop-packet-preserved
loop-packet-preserved c =
    let i = c.loop-packet.invariant in
    let packet = c.in-Some._packet.now in
    (i.0 ++ packet ∷ [], more_front i.0 packet c.args.bytes.now c.loop-packet.rest.now c.in-Some.after.now i.1 c.in-Some.ensures.0 c.in-Some.ensures.1)

pub returns : goal.returns
returns c =
    let i = c.loop-packet.invariant in
    let empty : c.is_empty.result ≡ eqb (length c.loop-packet.rest.now) 0 = first_of (search rules, grind (arith, common_steps)) in
    whole c.is_empty.result i.0 c.args.bytes.now c.loop-packet.rest.now empty i.1 c.in_default.ensures
