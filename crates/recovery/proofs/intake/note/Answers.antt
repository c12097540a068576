use Rattle.std.proofs.Common.{◌≡◌, ◌+◌, ◌++◌, ◌∷◌, [], ℕ, zero, suc, List, take, true, false, sym, ap, ◌∙◌, arith}
use Rattle.std.specs.Prelude.{slice_index_or}
use Rattle.std.specs.List.{AllByRecursion}
use Rattle.std.proofs.lemmas.List.{take_more}
use Rattle.packets.specs.declared.page.Pair.{Pair}
use Rattle.node.specs.Queue.{is_kept, recorded}
use Rattle.recovery.specs.Intake.{noted, IsSmallPair}
use Rattle.recovery.proofs.Notes.{noted-none, noted-kept, noted-lost, below-next}
use Rattle.recovery.proofs.intake.note.Goals.{then-is_kept, else-is_kept}
use Rattle.recovery.proofs.intake.note.Goals as goal

pub loop-pair-init : goal.loop-pair-init
loop-pair-init c = sym (noted-none c.args.log.now)

pub loop-pair-preserved : goal.loop-pair-preserved
loop-pair-preserved c =
    let q = c.args.log.now in
    let pairs = c.args.pairs.now in
    let i = c.loop-pair.pair-index in
    let none : Pair = record { ssn = 0; number = 0 } in
    let x = slice_index_or pairs i none in
    let done = take i pairs in
    let before = below-next 0 i pairs none c.requires.page c.loop-pair-test.true in
    let at : c.loop-pair.log ≡ noted done q = c.loop-pair.invariant in
    let more : noted (take (i + 1) pairs) q ≡ noted (done ++ x ∷ []) q = ap (λ xs. noted xs q) (take_more pairs i none c.loop-pair-test.true) in
    elim c.if-is_kept.branch [
      | then-is_kept w ↦
          let kept : is_kept x.ssn (noted done q) ≡ true = ap (is_kept x.ssn) (sym at) ∙ sym c.is_kept.ensures ∙ w.if-is_kept.true in
          w.log-is ∙ w.record.ensures ∙ ap (recorded x.ssn x.number) at ∙ sym (noted-kept done x q before.0 kept) ∙ sym more
      | else-is_kept w ↦
          let kept : is_kept x.ssn (noted done q) ≡ false = ap (is_kept x.ssn) (sym at) ∙ sym c.is_kept.ensures ∙ w.if-is_kept.false in
          w.log-is ∙ at ∙ sym (noted-lost done x q c.len-known.ensures.inside.as_many before.0 kept) ∙ sym more
    ]

-- what holds of all holds by place
at-place : (xs : List Pair) (i : ℕ) (d : Pair) → IsSmallPair d → AllByRecursion IsSmallPair xs → IsSmallPair (slice_index_or xs i d)
at-place [] i d o h = o
at-place (y ∷ xs) zero d o h = h.0
at-place (y ∷ xs) (suc i) d o h = at-place xs i d o h.1

pub record-requires-clause-small : goal.record-requires-clause-small
record-requires-clause-small c = at-place c.args.pairs.now c.loop-pair.pair-index (record { ssn = 0; number = 0 }) (omega arith) c.requires.numbers
