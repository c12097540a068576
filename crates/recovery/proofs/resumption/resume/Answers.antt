use Rattle.std.proofs.Common.{◌≡◌}
use Rattle.std.specs.Prelude.{⊤}
use Rattle.std.proofs.lemmas.Result.{err_from_is_err_and}
use Rattle.node.specs.Node.{TheNode}
use Rattle.node.specs.Suspension.{woken}
use Rattle.recovery.proofs.Resumptions.{finds-same}
use Rattle.recovery.proofs.resumption.resume.Goals as goal

pub returns-in_err-compare-clause-only : goal.returns-in_err-compare-clause-only
returns-in_err-compare-clause-only c n is =
    let p = err_from_is_err_and c.from_residual-in_err-compare.result c.from_residual-in_err-compare.ensures.1 in
    rw (p.1, p.2) (finds-same {X = Unit {0}} (λ _. ⊤) (λ (m : TheNode). m ≡ woken c.args.limits n) c.in_err-compare.field-0.0 (c.in_err-compare.ensures.only c.args.limits n is (c.in_ok-node.ensures.only n is)))

pub returns-clause-found : goal.returns-clause-found
returns-clause-found c = c.in_ok-compare.ensures.found

pub returns-clause-fresh : goal.returns-clause-fresh
returns-clause-fresh c = (c.in_ok-node.ensures.fresh.0, c.in_ok-node.ensures.fresh.1)

pub returns-clause-only : goal.returns-clause-only
returns-clause-only c n is = c.in_ok-node.ensures.only n is
