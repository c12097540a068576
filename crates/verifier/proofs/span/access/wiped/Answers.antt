use Rattle.std.proofs.Common.{◌≡◌, ◌+◌, length, sym, ap, ◌∙◌, subst, arith, w16, to_z, of_z}
use Rattle.std.proofs.lemmas.Int.{to_z-of_z}
use Rattle.std.proofs.lemmas.List.{length-set}
use Rattle.spans.specs.declared.kind.SpanKind.TheVariants.{Num}
use Rattle.spans.specs.Frame.{kind_at}
use Rattle.verifier.proofs.Spans.Erasure.{Wiped, wiped_none, wiped_one, wiped_skip, wiped_all}
use Rattle.verifier.proofs.span.access.wiped.Goals as goal
use Rattle.verifier.proofs.span.access.wiped.Goals.{then-is_reached, else-is_reached}

pub loop-cell-init : goal.loop-cell-init
loop-cell-init c =
    (c.args.frame.now.whole, wiped_none c.args.reach (to_z w16 (of_z w16 c.args.offset)) c.args.bytes c.args.frame.now.kinds)

pub loop-cell-preserved : goal.loop-cell-preserved
loop-cell-preserved c =
    let f = kind_at c.args.frame.now.kinds in
    let z = to_z w16 (of_z w16 c.args.offset) in
    let k = c.loop-cell.kinds in
    let i = c.loop-cell.cell in
    let h = c.loop-cell.invariant in
    elim c.if-is_reached.branch [
      | then-is_reached w ↦ subst (λ x. (length x ≡ 75) × Wiped f c.args.reach z c.args.bytes x (i + 1)) (sym w.kinds-is) (length-set k i (Num w.whole.result) ∙ h.0, wiped_one f c.args.reach z c.args.bytes k i (Num w.whole.result) (omega arith) (sym c.is_reached.ensures ∙ w.if-is_reached.true) (ap Num w.whole.ensures) h.1)
      | else-is_reached w ↦ subst (λ x. (length x ≡ 75) × Wiped f c.args.reach z c.args.bytes x (i + 1)) (sym w.kinds-is) (h.0, wiped_skip f c.args.reach z c.args.bytes k i (sym c.is_reached.ensures ∙ w.if-is_reached.false) h.1)
    ]

pub returns : goal.returns
returns c =
    let f = kind_at c.args.frame.now.kinds in
    let z = to_z w16 (of_z w16 c.args.offset) in
    let e : z ≡ c.args.offset = to_z-of_z w16 c.args.offset c.ranges.offset in
    let n : c.loop-cell.cell ≡ 75 = omega arith in
    let all = subst (λ i. Wiped f c.args.reach z c.args.bytes c.loop-cell.kinds i) n c.loop-cell.invariant.1 in
    let at = subst (λ o. Wiped f c.args.reach o c.args.bytes c.loop-cell.kinds 75) e all in
    wiped_all f c.args.reach c.args.offset c.args.bytes c.loop-cell.kinds c.requires at
