use Rattle.std.proofs.Common.{◌≡◌, ◌+◌, refl, ap, ◌∙◌}
use Rattle.node.specs.contracts.node.Node.{the_view}
use Rattle.node.specs.Node.{TheNode}
use Rattle.node.specs.Transmission.{freed}
use Rattle.node.proofs.node.Node.freed.Goals as goal

pub returns-then-self : goal.returns-then-self
returns-then-self c =
    let m : TheNode = the_view c.self.inside in
    let is : m.base ≡ freed m = rw c.if-self.true refl in
    is ∙ ap freed c.self.view_is

pub returns : goal.returns
returns c =
    let m : TheNode = the_view c.self.inside in
    let is : m.base + c.run_length.result ≡ freed m = rw c.if-self.false (ap (λ k. m.base + k) c.run_length.ensures) in
    is ∙ ap freed c.self.view_is
