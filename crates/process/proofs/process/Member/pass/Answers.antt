use Rattle.std.proofs.Common.{rules, ◌≡◌, true, false, refl, subst, arith}
use Rattle.std.proofs.lemmas.Grind.{common_steps}
use Rattle.process.specs.Process.{TheProcess}
use Rattle.process.specs.Calls.{Stays}
use Rattle.recovery.specs.Transitions.{Passes, is_held, is_node}
use Rattle.recovery.proofs.Passings.{passes-up, up-is-free}
use Rattle.process.proofs.process.Member.pass.Goals as goal

pub returns-then-is_up-clause-passes : goal.returns-then-is_up-clause-passes
returns-then-is_up-clause-passes c =
    let up : is_node c.self.inside.lifecycle ≡ true = first_of (search rules, grind (arith, common_steps)) in
    let P : TheProcess → Type 0 = λ p. Stays Passes p p in
    subst P c.self.view_is (record { image = refl; does = passes-up c.self.inside.lifecycle up })

pub returns-then-is_up-clause-on : goal.returns-then-is_up-clause-on
returns-then-is_up-clause-on c =
    let up : is_node c.self.inside.lifecycle ≡ true = first_of (search rules, grind (arith, common_steps)) in
    let P : TheProcess → Type 0 = λ p. is_held p.lifecycle ≡ false in
    subst P c.self.view_is (up-is-free c.self.inside.lifecycle up)
