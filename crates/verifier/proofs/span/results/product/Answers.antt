use Rattle.std.proofs.Common.{arith}
use Rattle.verifier.proofs.Spans.Ones.{product_below}
use Rattle.verifier.proofs.span.results.product.Goals as goal

pub overflow_mul-a : goal.overflow_mul-a
overflow_mul-a c =
    let q = product_below c.args.a.lo c.args.a.hi c.args.b.lo c.args.b.hi c.requires.a.some c.requires.b.some in
    let most = c.in-Some.ensures.0 in
    omega (arith, q, most)
