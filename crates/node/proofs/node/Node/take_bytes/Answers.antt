use Rattle.std.proofs.Common.{subst}
use Rattle.std.specs.Prelude.{Some}
use Rattle.packets.specs.declared.packet.NodePacket.{NodePacket}
use Rattle.node.specs.Node.{TheNode}
use Rattle.node.specs.Stands.{Takes}
use Rattle.node.proofs.Views.{takes-so}
use Rattle.node.proofs.Sendable.{pops-first}
use Rattle.node.proofs.node.Node.take_bytes.Goals as goal

pub returns-clause-some : goal.returns-clause-some
returns-clause-some c =
    let i = c.self.inside in
    let x : NodePacket = c.in-Some.packet.now in
    let n : TheNode = record { limits = i.limits; me = i.me; count = i.count; life = i.life; state = i.state.items; base = i.base; covered = i.covered.items; receipts = i.receipts; logs = i.logs.items; waiting = i.waiting; heard = i.heard.items; resumed = i.resumed.items; exact = i.exact; working = i.working; frozen = i.frozen; out = i.out } in
    let first = pops-first c.pop.result i.out c.pop.new.self c.in-Some.ensures.0 x c.pop.ensures c.in-Some.ensures.1 in
    let P : TheNode → Type 0 = λ v. Takes (Some x) v (record n { out = c.pop.new.self }) in
    (x, c.in_ok-bytes.ensures, subst P c.self.view_is (takes-so (Some x) n c.pop.new.self first))
