use Rattle.std.proofs.Common.{◌≡◌, ◌∙◌, ℕ, List, subst}
use Rattle.std.specs.Prelude.{IfOk}
use Rattle.node.specs.Node.{new_node}
use Rattle.node.specs.Stands.{StandsFirst}
use Rattle.node.proofs.node.Node.open.Goals as goal

pub returns-clause-value : goal.returns-clause-value
returns-clause-value c =
    let P : List ℕ → Type 0 = λ state. IfOk c.open_with.result (λ n. n ≡ new_node c.args.limits c.args.me c.args.count state) in
    subst P (c.deref.ensures.value ∙ c.in_ok-state.ensures) c.open_with.ensures.value

pub returns-clause-stands : goal.returns-clause-stands
returns-clause-stands c =
    let P : List ℕ → Type 0 = λ state. IfOk c.open_with.result (λ n. StandsFirst n c.args.me c.args.count state) in
    subst P (c.deref.ensures.value ∙ c.in_ok-state.ensures) c.open_with.ensures.stands
