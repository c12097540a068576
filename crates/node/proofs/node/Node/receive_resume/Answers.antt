use Rattle.std.proofs.Common.{arith, false, ◌≡◌, ◌<◌, length}
use Rattle.node.specs.contracts.node.Node.{the_view}
use Rattle.node.specs.Node.{TheNode}
use Rattle.node.specs.Answers.{heard_of}
use Rattle.node.specs.Answers.{works_for}
use Rattle.std.proofs.lemmas.Grind.{common_steps}
use Rattle.node.proofs.Changes.{has-place, there-is, obeyer-says, restored-above}
use Rattle.node.proofs.node.Node.receive_resume.Goals as goal

pub restored-requires-clause-peer : goal.restored-requires-clause-peer
restored-requires-clause-peer c = c.requires.peer.0

pub restored-requires-clause-incarnation : goal.restored-requires-clause-incarnation
restored-requires-clause-incarnation c = c.requires.life

pub restored-requires-clause-above : goal.restored-requires-clause-above
restored-requires-clause-above c = c.requires.above

pub obey-requires : goal.obey-requires
obey-requires c = c.requires.peer.0

pub put-requires : goal.put-requires
put-requires c = obeyer-says c.args.from c.args.kept c.args.from c.in_ok-body.body c.args.self.now c.obey.new.self c.obey.ensures c.requires.peer c.in_ok-body.ensures.fits

pub returns-clause-ok : goal.returns-clause-ok
returns-clause-ok c =
    let m : TheNode = the_view c.self.inside in
    let from = c.args.from in
    let inside : from < length m.heard = has-place m.heard m c.args.self.now from c.self.invariant.heard_wide c.self.view_is c.requires.peer.0 in
    let is : c.index.result.now ≡ heard_of from m = there-is m.heard from c.index.result.now 0 inside c.index.ensures in
    let free : works_for from c.args.self.now.working ≡ false = grind (arith, common_steps) in
    restored-above from c.args.life c.args.kept c.args.above c.index.result.now m c.args.self.now c.obey.new.self c.put.new.self c.in_ok-body.body c.self.view_is is c.if-life-index.false free c.in_ok-body.ensures.value c.obey.ensures c.put.ensures
