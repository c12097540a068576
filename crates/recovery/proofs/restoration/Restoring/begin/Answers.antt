use Rattle.std.proofs.Common.{rules, ◌≡◌, sym, subst, arith}
use Rattle.std.proofs.lemmas.Grind.{common_steps}
use Rattle.recovery.specs.Restoration.{TheRestoring, begun}
use Rattle.recovery.specs.RestorationStands.{Begins}
use Rattle.recovery.proofs.Beginnings.{beginning}
use Rattle.recovery.proofs.restoration.Restoring.begin.Goals as goal

pub returns-in-Ok-clause-acts : goal.returns-in-Ok-clause-acts
returns-in-Ok-clause-acts c =
    let r = c.args.replayed in
    let is : c.ask_all.new.self ≡ begun r = first_of (search rules, grind (arith, common_steps)) in
    let P : TheRestoring → Type 0 = λ v. Begins r v in
    subst P (sym is) (beginning r)

pub invariant_of-node : goal.invariant_of-node
invariant_of-node c = grind (arith, common_steps)
