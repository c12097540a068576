use Rattle.std.proofs.Common.{◌≡◌, ◌∙◌, subst, arith}
use Rattle.std.proofs.lemmas.List.{length-set}
use Rattle.spans.specs.Frame.{joined, kind_at}
use Rattle.verifier.proofs.Spans.KindLemmas.{Filled, filled_more, joined_all}
use Rattle.verifier.proofs.span.frame.join.Goals as goal

pub loop-i-init : goal.loop-i-init
loop-i-init c = (c.args.a.now.whole, λ d l. absurd (omega (arith, l)))

pub loop-i-preserved : goal.loop-i-preserved
loop-i-preserved c =
    let k = c.loop-i.kinds in
    (length-set k c.loop-i.i c.join_kinds.result ∙ c.loop-i.invariant.0, filled_more (joined (kind_at c.args.a.now.kinds) (kind_at c.args.b.now.kinds)) k c.loop-i.i c.join_kinds.result (omega (arith, c.loop-i.invariant.0)) c.join_kinds.ensures c.loop-i.invariant.1)

pub returns : goal.returns
returns c =
    let k = c.loop-i.kinds in
    let a = c.args.a.now in
    let b = c.args.b.now in
    let n : c.loop-i.i ≡ 75 = omega arith in
    joined_all a.kinds b.kinds k a.whole c.loop-i.invariant.0 (subst (Filled k (joined (kind_at a.kinds) (kind_at b.kinds))) n c.loop-i.invariant.1)
