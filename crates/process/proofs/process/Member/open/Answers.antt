use Rattle.std.proofs.Common.{rules, ◌≡◌, replicate, arith}
use Rattle.std.proofs.lemmas.Grind.{common_steps}
use Rattle.std.specs.Arc.{arc_value}
use Rattle.verifier.specs.AnyImage.{state_of}
use Rattle.interp.specs.Handler.{image_of}
use Rattle.process.proofs.Openings.{opened-zeros}
use Rattle.process.proofs.Within as within
use Rattle.process.proofs.process.Member.open.Goals as goal

pub returns : goal.returns
returns c =
    let len : c.state_len.result ≡ state_of (image_of (arc_value c.args.image)) = first_of (search rules, grind (arith, common_steps)) in
    rw c.new.ensures (opened-zeros (image_of (arc_value c.args.image)) c.args.limits c.args.me c.args.count c.state_len.result c.in_ok-node.node c.in_ok-node.ensures.value len c.in_ok-node.ensures.stands)

pub new-requires : goal.new-requires
new-requires c = within.opened c.args.limits c.args.me c.args.count (replicate c.state_len.result 0) c.in_ok-node.node c.in_ok-node.ensures.value c.requires.limits
