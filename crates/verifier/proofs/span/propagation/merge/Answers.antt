use Rattle.std.proofs.Common.{◌≡◌, ℕ, zero, suc, ◌<◌, List, [], ◌∷◌, length, Option, Some, refl, sym, ap, ◌∙◌, arith}
use Rattle.std.proofs.Math.Path.{fun_ext}
use Rattle.std.specs.Global.{Box}
use Rattle.std.proofs.Math.ListN.{set}
use Rattle.std.proofs.lemmas.List.{length-set}
use Rattle.spans.specs.declared.cells.Cells.{Cells}
use Rattle.spans.specs.Frame.{Frame, joined, kind_at}
use Rattle.verifier.specs.Inside.SpanPass.{IsMerged, merged}
use Rattle.verifier.specs.Span.Transfer.{frame_of}
use Rattle.verifier.specs.Span.Typing.{table_of}
use Rattle.verifier.proofs.Spans.Slots.{there_none, there_some}
use Rattle.verifier.proofs.span.propagation.merge.Goals as goal

set_there : (table : List (Option (Box Cells))) (to : ℕ) (b : Box Cells) → to < length table → table_of (set table to (Some b)) to ≡ Some (frame_of b.value)
set_there [] to b lt = absurd (omega arith)
set_there (x ∷ xs) zero b lt = refl
set_there (x ∷ xs) (suc to) b lt = set_there xs to b (omega arith)

set_other : (table : List (Option (Box Cells))) (to : ℕ) (o : Option (Box Cells)) (s : ℕ) → (s ≡ to → ⊥) → table_of (set table to o) s ≡ table_of table s
set_other [] to o s n = refl
set_other (x ∷ xs) zero o zero n = absurd (n refl)
set_other (x ∷ xs) zero o (suc s) n = refl
set_other (x ∷ xs) (suc to) o zero n = refl
set_other (x ∷ xs) (suc to) o (suc s) n = set_other xs to o s (λ e. n (ap suc e))

merged_at : (table : List (Option (Box Cells))) (to : ℕ) (b : Box Cells) (f : Frame) → to < length table → frame_of b.value ≡ merged (table_of table to) f → IsMerged (table_of table) to f (table_of (set table to (Some b)))
merged_at table to b f lt e = record {
  there = set_there table to b lt ∙ ap Some e;
  other = λ s n. set_other table to (Some b) s n;
}

pub returns-in-Some-clause-size : goal.returns-in-Some-clause-size
returns-in-Some-clause-size c = length-set c.args.table.now c.args.to _

pub returns-in-Some-clause-merged : goal.returns-in-Some-clause-merged
returns-in-Some-clause-merged c =
    let f = frame_of c.args.frame.now in
    let there = there_some c.args.table.now c.args.to _ c.in-Some.had c.deref.result.now c.requires.within c.in-Some.is c.deref.ensures in
    let join : kind_at c.join.result.kinds ≡ joined (frame_of c.deref.result.now) f = fun_ext c.join.ensures in
    merged_at c.args.table.now c.args.to _ f c.requires.within (join ∙ ap (λ (o : Option Frame). merged o f) (sym there))

pub returns-clause-size : goal.returns-clause-size
returns-clause-size c = length-set c.args.table.now c.args.to _

pub returns-clause-merged : goal.returns-clause-merged
returns-clause-merged c =
    let f = frame_of c.args.frame.now in
    let there = there_none c.args.table.now c.args.to _ c.requires.within c.in_default.is in
    merged_at c.args.table.now c.args.to c.in_ok-new.field-0 f c.requires.within (ap frame_of c.in_ok-new.ensures.ok ∙ ap (λ (o : Option Frame). merged o f) (sym there))
