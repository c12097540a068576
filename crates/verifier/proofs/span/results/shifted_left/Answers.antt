use Rattle.std.proofs.Common.{◌≤◌, ◌^◌, arith}
use Rattle.std.proofs.Math.Pow.{pow_mono}
use Rattle.verifier.proofs.Spans.Ones.{product_below}
use Rattle.verifier.proofs.span.results.shifted_left.Goals as goal

pub overflow_mul-a : goal.overflow_mul-a
overflow_mul-a c =
    let s = c.requires.b.some in
    let m : 2 ^ c.args.b.lo ≤ 2 ^ c.args.b.hi = pow_mono s in
    let l = c.power-in-Some.ensures in
    let h = c.power.ensures in
    let p : c.power-in-Some.result ≤ c.power.result = omega (arith, m, l, h) in
    let q = product_below c.args.a.lo c.args.a.hi c.power-in-Some.result c.power.result c.requires.a.some p in
    let most = c.in-Some.ensures.0 in
    omega (arith, q, most)
