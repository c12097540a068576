use Rattle.std.proofs.Common.{rules, ◌≡◌, length, refl, arith}
use Rattle.std.proofs.lemmas.Grind.{common_steps}
use Rattle.std.proofs.lemmas.Result.{err_from_is_err_and}
use Rattle.std.specs.Arc.{arc_value}
use Rattle.verifier.specs.AnyImage.{state_of}
use Rattle.interp.specs.Handler.{image_of}
use Rattle.process.proofs.Suspensions.{resumed, unresumed-why}
use Rattle.process.proofs.process.Member.resume.Goals as goal

pub returns-in_err-node-clause-refused : goal.returns-in_err-node-clause-refused
returns-in_err-node-clause-refused c =
    let p = err_from_is_err_and c.from_residual.result c.from_residual.ensures.1 in
    rw (p.1, p.2) (unresumed-why (image_of (arc_value c.args.image)) c.args.bytes.now c.in_err-node.field-0.0 c.in_err-node.ensures.only)

pub returns-clause-resumed : goal.returns-clause-resumed
returns-clause-resumed c =
    let n = c.in-Some.node in
    let long : length n.state ≡ state_of (image_of (arc_value c.args.image)) = first_of (search rules, grind (arith, common_steps)) in
    let some = rw c.in-Some.is at c.in_ok-node.ensures.some in
    rw c.new.ensures (record { node = n; image_is = refl; lifecycle_is = refl; suspended = some.0; limits_are = some.1; none_waits = some.2; long = long })

pub new-requires : goal.new-requires
new-requires c =
    let some = rw c.in-Some.is at c.in_ok-node.ensures.some in
    resumed c.in-Some.node some.0.within some.0.can some.2
