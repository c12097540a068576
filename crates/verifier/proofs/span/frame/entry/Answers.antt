use Rattle.std.proofs.Common.{◌≡◌, ◌∙◌, refl, subst, arith}
use Rattle.std.proofs.lemmas.List.{length-set}
use Rattle.spans.specs.Frame.{entry_frame}
use Rattle.verifier.proofs.Spans.KindLemmas.{Filled, filled_more, entry_all}
use Rattle.verifier.proofs.span.frame.entry.Goals as goal

pub loop-cell-init : goal.loop-cell-init
loop-cell-init c = (refl, λ d l. absurd (omega (arith, l)))

pub loop-cell-preserved : goal.loop-cell-preserved
loop-cell-preserved c =
    let k = c.loop-cell.kinds in
    (length-set k c.loop-cell.cell c.entry_kind.result ∙ c.loop-cell.invariant.0, filled_more entry_frame k c.loop-cell.cell c.entry_kind.result (omega (arith, c.loop-cell.invariant.0)) c.entry_kind.ensures c.loop-cell.invariant.1)

pub returns : goal.returns
returns c =
    let k = c.loop-cell.kinds in
    let n : c.loop-cell.cell ≡ 75 = omega arith in
    entry_all k c.loop-cell.invariant.0 (subst (Filled k entry_frame) n c.loop-cell.invariant.1)
