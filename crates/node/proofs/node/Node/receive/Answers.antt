use Rattle.std.proofs.Common.{subst, sym}
use Rattle.node.specs.Node.{TheNode, Within}
use Rattle.node.specs.Stands.{IsHanded}
use Rattle.node.proofs.Handover.{handed-so}
use Rattle.node.proofs.Views.{on-ok}
use Rattle.node.proofs.node.Node.receive.Goals as goal

pub returns-clause-acts : goal.returns-clause-acts
returns-clause-acts c =
    let within : Within c.args.self.now = subst Within c.self.view_is c.self.invariant in
    let P : TheNode → Type 0 = λ v. IsHanded c.args.packet.now c.args.self.now v in
    on-ok c.hand.result _ _ (λ e. subst P (sym e) (handed-so c.args.packet.now c.args.self.now within)) c.hand.ensures.value
