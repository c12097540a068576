use Rattle.std.proofs.Common.{◌≡◌, length, ap, ◌∙◌, arith, Some, None, [], ◌∷◌, ◌++◌}
use Rattle.verifier.proofs.LeastTypings.{opening_one, opening_more}
use Rattle.verifier.proofs.pass.opening.Goals as goal

pub rest-init : goal.rest-init
rest-init c =
    let e : c.push.new.self.items ≡ Some c.entry.result ∷ [] = c.in_ok-push.ensures.items ∙ ap (λ l. l ++ Some c.entry.result ∷ []) c.in_ok-table.ensures.items in
    (ap length e, opening_one c.args.form c.entry.result c.push.new.self.items c.entry.ensures e)

pub rest-preserved : goal.rest-preserved
rest-preserved c =
    let e : c.push-in-rest.new.self.items ≡ c.rest.table.items ++ None ∷ [] = c.in_ok-push-2.ensures.items in
    (omega (arith, c.in_ok-push-2.ensures.len, c.rest.invariant.0), opening_more c.args.form c.rest.table.items c.push-in-rest.new.self.items c.rest.invariant.1 e)
