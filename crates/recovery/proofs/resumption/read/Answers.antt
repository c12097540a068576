use Rattle.std.proofs.Common.{◌≡◌, ◌≤◌, [], length, ap, subst, arith}
use Rattle.limits.specs.declared.TheConstants.{STATE_BYTES}
use Rattle.node.specs.Node.{TheNode}
use Rattle.recovery.specs.Resumption.{Finds, made}
use Rattle.recovery.proofs.Resumptions.{made-is, finds-ok}
use Rattle.recovery.proofs.resumption.read.Goals as goal

pub returns-clause-fresh : goal.returns-clause-fresh
returns-clause-fresh c =
    let m = made c.args.limits c.in_ok-kept.kept c.in_ok-kept.rest in
    finds-ok (λ (n : TheNode). n ≡ m) (λ (n : TheNode). (n.limits ≡ c.args.limits) × (n.out ≡ []) × (length n.state ≤ STATE_BYTES)) c.node_of.result
    (λ n e. (ap (λ (z : TheNode). z.limits) e, ap (λ (z : TheNode). z.out) e, omega (arith, ap (λ (z : TheNode). length z.state) e, c.in_ok-kept.ensures.makes.short))) c.node_of.ensures

pub returns-clause-only : goal.returns-clause-only
returns-clause-only c n is =
    subst (λ (z : TheNode). Finds (λ (m : TheNode). m ≡ z) c.node_of.result) (made-is c.args.limits c.in_ok-kept.kept c.in_ok-kept.rest n c.args.bytes.now (c.in_ok-kept.ensures.only n is) is) c.node_of.ensures
