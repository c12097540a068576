use Rattle.std.proofs.Common.{rules, ◌≡◌, arith, length}
use Rattle.std.proofs.lemmas.Grind.{common_steps}
use Rattle.verifier.specs.AnyImage.{state_of}
use Rattle.interp.specs.Handler.{image_of}
use Rattle.node.specs.Node.{IsPositive}
use Rattle.process.proofs.Openings.{came-back}
use Rattle.process.proofs.Within as within
use Rattle.process.proofs.process.collecting.Goals as goal

pub returns-in-Ok-clause-revived : goal.returns-in-Ok-clause-revived
returns-in-Ok-clause-revived c =
    let image = image_of c.args.image.now in
    let long : length c.in_ok-kept.kept.state ≡ state_of image = first_of (search rules, grind (arith, common_steps)) in
    came-back image c.args.limits c.args.kept.now c.args.incarnation c.in_ok-kept.kept c.in-Ok.process c.in_ok-kept.ensures.kept.0 c.in_ok-kept.ensures.kept.1 long c.in-Ok.ensures.value c.in-Ok.ensures.acts

pub returns-in-Ok-clause-within : goal.returns-in-Ok-clause-within
returns-in-Ok-clause-within c =
    let positive : IsPositive c.args.incarnation = first_of (search rules, grind (arith, common_steps)) in
    within.came-back c.args.limits c.in_ok-kept.kept c.args.incarnation c.args.kept.now c.in-Ok.process c.in-Ok.ensures.value c.requires c.in_ok-kept.ensures.kept.0 c.in_ok-kept.ensures.kept.1 positive
