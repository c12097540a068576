use Rattle.std.proofs.Common.{rules, ◌≡◌, length, arith}
use Rattle.std.proofs.lemmas.Grind.{common_steps}
use Rattle.std.specs.Arc.{arc_value}
use Rattle.verifier.specs.AnyImage.{state_of}
use Rattle.interp.specs.Handler.{image_of}
use Rattle.process.proofs.Openings.{opened}
use Rattle.process.proofs.Within as within
use Rattle.process.proofs.process.Member.open_with.Goals as goal

pub returns-clause-opened : goal.returns-clause-opened
returns-clause-opened c =
    let long : length c.args.state.now ≡ state_of (image_of (arc_value c.args.image)) = first_of (search rules, grind (arith, common_steps)) in
    rw c.new.ensures (opened (image_of (arc_value c.args.image)) c.args.limits c.args.me c.args.count c.args.state.now c.in-Ok.node c.in-Ok.ensures.value long c.in-Ok.ensures.stands)

pub new-requires : goal.new-requires
new-requires c = within.opened c.args.limits c.args.me c.args.count c.args.state.now c.in-Ok.node c.in-Ok.ensures.value c.requires.limits
