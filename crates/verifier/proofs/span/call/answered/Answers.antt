use Rattle.std.proofs.Common.{◌≡◌, ◌∙◌, subst, arith}
use Rattle.std.proofs.lemmas.List.{length-set}
use Rattle.spans.specs.Frame.{kind_at}
use Rattle.spans.specs.Ways.{behind_helper}
use Rattle.verifier.proofs.Spans.KindLemmas.{Filled, filled_more}
use Rattle.verifier.proofs.Spans.Words.{answered_all}
use Rattle.verifier.proofs.span.call.answered.Goals as goal

pub loop-cell-init : goal.loop-cell-init
loop-cell-init c = (c.args.frame.now.whole, λ d l. absurd (omega (arith, l)))

pub loop-cell-preserved : goal.loop-cell-preserved
loop-cell-preserved c =
    let k = c.loop-cell.kinds in
    (length-set k c.loop-cell.cell c.answered_kind.result ∙ c.loop-cell.invariant.0, filled_more (behind_helper (kind_at c.args.frame.now.kinds)) k c.loop-cell.cell c.answered_kind.result (omega (arith, c.loop-cell.invariant.0)) c.answered_kind.ensures c.loop-cell.invariant.1)

pub returns : goal.returns
returns c =
    let f = c.args.frame.now.kinds in
    let n : c.loop-cell.cell ≡ 75 = omega arith in
    let all = subst (λ i. Filled c.loop-cell.kinds (behind_helper (kind_at f)) i) n c.loop-cell.invariant.1 in
    answered_all c.loop-cell.kinds f c.loop-cell.invariant.0 c.args.frame.now.whole all
