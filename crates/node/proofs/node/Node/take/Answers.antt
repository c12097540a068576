use Rattle.std.proofs.Common.{subst}
use Rattle.node.specs.Node.{TheNode}
use Rattle.node.specs.Stands.{Takes}
use Rattle.node.proofs.Views.{takes-so}
use Rattle.node.proofs.node.Node.take.Goals as goal

pub returns : goal.returns
returns c =
    let i = c.self.inside in
    let n : TheNode = record { limits = i.limits; me = i.me; count = i.count; life = i.life; state = i.state.items; base = i.base; covered = i.covered.items; receipts = i.receipts; logs = i.logs.items; waiting = i.waiting; heard = i.heard.items; resumed = i.resumed.items; exact = i.exact; working = i.working; frozen = i.frozen; out = i.out } in
    let P : TheNode → Type 0 = λ v. Takes c.pop.result v (record n { out = c.pop.new.self }) in
    subst P c.self.view_is (takes-so c.pop.result n c.pop.new.self c.pop.ensures)
