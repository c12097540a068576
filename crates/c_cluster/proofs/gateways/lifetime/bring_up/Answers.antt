use Rattle.std.proofs.Common.{rules, ◌≡◌, List, [], refl, sym, subst, arith}
use Rattle.std.proofs.lemmas.Grind.{common_steps}
use Rattle.stores.specs.declared.change.Change.{Change}
use Rattle.stores.specs.Changes.{AreChanges}
use Rattle.c_cluster.proofs.gateways.lifetime.bring_up.Goals as goal

pub returns-in-Ok-apply : goal.returns-in-Ok-apply
returns-in-Ok-apply c =
    let ks : List Change = c.deref.result.now in
    let changes : c.args.gateway.now.changes ≡ [] = first_of (search rules, grind (arith, common_steps)) in
    let out : c.args.gateway.now.out ≡ [] = first_of (search rules, grind (arith, common_steps)) in
    let are : AreChanges ks c.args.changes.now = subst (λ (z : List Change). AreChanges z c.args.changes.now) (sym c.deref.ensures.value) c.in-Ok.ensures.found in
    (((changes, out), (ks, are, c.in-Ok-apply.ensures.fit, c.in-Ok-apply.ensures.value, c.in-Ok-apply.ensures.stands)), refl)
