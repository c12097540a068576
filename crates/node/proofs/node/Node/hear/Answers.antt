use Rattle.std.proofs.Common.{◌<◌, length, false, refl}
use Rattle.std.specs.Prelude.{slice_set}
use Rattle.std.proofs.lemmas.List.{length-set}
use Rattle.node.specs.contracts.node.Node.{the_view}
use Rattle.node.specs.Node.{TheNode}
use Rattle.node.proofs.Changes.{has-place, there-is, within-still, same-logs, newer, not-newer}
use Rattle.node.proofs.node.Node.hear.Goals as goal

pub invariant_of-self : goal.invariant_of-self
invariant_of-self c =
    let m : TheNode = the_view c.self.inside in
    within-still m (slice_set m.heard c.args.from c.args.life) (slice_set m.resumed c.args.from false) m.logs c.self.invariant (length-set m.heard c.args.from c.args.life) (length-set m.resumed c.args.from false) refl (same-logs m.logs)

pub returns-then-index-life : goal.returns-then-index-life
returns-then-index-life c =
    let m : TheNode = the_view c.self.inside in
    let inside : c.args.from < length m.heard = has-place m.heard m c.args.self.now c.args.from c.self.invariant.heard_wide c.self.view_is c.requires in
    newer c.args.from c.args.life c.index.result.now m c.args.self.now c.self.view_is (there-is m.heard c.args.from c.index.result.now 0 inside c.index.ensures) c.if-index-life.true

pub returns-else-index-life : goal.returns-else-index-life
returns-else-index-life c =
    let m : TheNode = the_view c.self.inside in
    let inside : c.args.from < length m.heard = has-place m.heard m c.args.self.now c.args.from c.self.invariant.heard_wide c.self.view_is c.requires in
    not-newer c.args.from c.args.life c.index.result.now m c.args.self.now c.self.view_is (there-is m.heard c.args.from c.index.result.now 0 inside c.index.ensures) c.if-index-life.false
