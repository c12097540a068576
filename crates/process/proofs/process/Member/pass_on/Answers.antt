use Rattle.std.proofs.Common.{subst}
use Rattle.recovery.specs.Transitions.{Passes}
use Rattle.process.proofs.Within as within
use Rattle.process.proofs.process.Member.pass_on.Goals as goal

pub invariant_of-self : goal.invariant_of-self
invariant_of-self c =
    let new = c.go_on-lifecycle.result.0 in
    within.passes c.self.inside.lifecycle new (subst (λ z. Passes z new) c.replace-lifecycle.ensures.value c.go_on-lifecycle.ensures.passes) c.self.invariant
