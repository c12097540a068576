use Rattle.std.proofs.Common.{rules, ◌≡◌, arith}
use Rattle.std.specs.Prelude.{Some, None, OnOk, IfErr}
use Rattle.std.proofs.lemmas.Grind.{common_steps}
use Rattle.std.specs.Arc.{arc_value}
use Rattle.interp.specs.Handler.{image_of}
use Rattle.process.specs.Suspension.{IsResumed}
use Rattle.c_calls.specs.declared.nodes.fault.NodeFault.TheVariants.{Memory}
use Rattle.c_cluster.specs.Nodes.Lifetime.{IsImageIn, AreLimits, limits_of}
use Rattle.c_cluster.proofs.Opened.{put-starts}
use Rattle.c_cluster.proofs.nodes.suspension.resume.Goals as goal

pub returns-in-Ok : goal.returns-in-Ok
returns-in-Ok c =
    let old = c.args.handle.now.process.value in
    let new = c.put.new.handle.process.value in
    let image = image_of (arc_value c.in_ok-image.image) in
    let ok : OnOk c.put.result (new ≡ Some c.in-Ok.process) = c.put.ensures.ok in
    let err : IfErr c.put.result (λ why. (why ≡ Memory) × (new ≡ old)) = first_of (search rules, grind (arith, common_steps)) in
    let was : old ≡ None = first_of (search rules, grind (arith, common_steps)) in
    let limits : AreLimits c.args.limits = first_of (search rules, grind (arith, common_steps)) in
    let is : IsImageIn c.args.image.now image = first_of (search rules, grind (arith, common_steps)) in
    let resumed : IsResumed image (limits_of c.args.limits) c.args.suspended.now c.in-Ok.process = first_of (search rules, grind (arith, common_steps)) in
    put-starts c.put.result c.args.image.now _ (λ i p. IsResumed i (limits_of c.args.limits) c.args.suspended.now p) _ old new image c.in-Ok.process ok err was limits is resumed
