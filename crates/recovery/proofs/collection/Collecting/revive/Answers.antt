use Rattle.std.proofs.Common.{rules, ◌≡◌, arith, ap, sym, ◌∙◌, subst}
use Rattle.std.proofs.lemmas.Grind.{common_steps}
use Rattle.recovery.specs.Collection.{TheCollecting, asked, begins, revived}
use Rattle.recovery.specs.Stands.{Revives}
use Rattle.recovery.proofs.Revival.{revives}
use Rattle.recovery.proofs.collection.Collecting.revive.Goals as goal

pub returns-clause-acts : goal.returns-clause-acts
returns-clause-acts c =
    let k = c.args.kept.now in
    let begun : c.in_ok-node.node ≡ begins c.args.limits k c.args.incarnation = first_of (search rules, grind (arith, common_steps)) in
    let is : c.ask_all.new.self ≡ revived c.args.limits k c.args.incarnation = c.ask_all.ensures ∙ ap asked begun in
    let P : TheCollecting → Type 0 = λ v. Revives k c.args.incarnation v in
    subst P (sym is) (revives c.args.limits k c.args.incarnation)
