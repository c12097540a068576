use Rattle.std.proofs.Common.{◌≡◌, sym, ap, ◌∙◌, subst}
use Rattle.node.specs.Node.{TheNode}
use Rattle.recovery.specs.Restoration.{up}
use Rattle.recovery.specs.RestorationStands.{IsUp}
use Rattle.recovery.proofs.Returns.{is-up}
use Rattle.recovery.proofs.restoration.Restoring.into_node.Goals as goal

pub returns-clause-stands : goal.returns-clause-stands
returns-clause-stands c =
    let n = c.args.self in
    let is : c.into_node.result ≡ up n = c.into_node.ensures ∙ ap up c.self.view_is in
    let P : TheNode → Type 0 = λ v. IsUp n v in
    subst P (sym is) (is-up n c.requires)
