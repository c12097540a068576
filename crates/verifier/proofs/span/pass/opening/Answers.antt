use Rattle.std.proofs.Common.{◌≡◌, ℕ, zero, suc, ◌+◌, List, [], ◌∷◌, ◌++◌, length, Option, Some, None, refl, sym, ap, ◌∙◌, subst}
use Rattle.std.proofs.Math.Nat.{le_antisymm}
use Rattle.std.specs.Global.{Box}
use Rattle.std.proofs.lemmas.List.{length_push}
use Rattle.spans.specs.declared.cells.Cells.{Cells}
use Rattle.spans.specs.Frame.{entry_frame}
use Rattle.verifier.specs.Span.Transfer.{frame_of}
use Rattle.verifier.specs.Inside.Pass.{IsOpening}
use Rattle.verifier.specs.Span.Typing.{table_of}
use Rattle.verifier.proofs.span.pass.opening.Goals as goal

-- a table with a frame at its first slot alone
only_first : (b : Box Cells) (s : ℕ) → (s ≡ 0 → ⊥) → table_of (Some b ∷ []) s ≡ None
only_first b zero n = absurd (n refl)
only_first b (suc s) n = refl

opened : (items old : List (Option (Box Cells))) (b : Box Cells) (x : Cells) → items ≡ old ++ Some b ∷ [] → old ≡ [] → b.value ≡ x → frame_of x ≡ entry_frame → (length items ≡ 1) × IsOpening entry_frame (table_of items)
opened items old b x e n v f =
    let q : items ≡ Some b ∷ [] = e ∙ ap (λ (t : List (Option (Box Cells))). t ++ Some b ∷ []) n in
    (ap length q, subst (λ (t : List (Option (Box Cells))). IsOpening entry_frame (table_of t)) (sym q) (record { first = ap (λ (y : Cells). Some (frame_of y)) v ∙ ap Some f; none = only_first b }))

-- a slot with no frame behind the last changes nothing
same_behind : (table : List (Option (Box Cells))) (s : ℕ) → table_of (table ++ None ∷ []) s ≡ table_of table s
same_behind [] zero = refl
same_behind [] (suc s) = refl
same_behind (x ∷ xs) zero = refl
same_behind (x ∷ xs) (suc s) = same_behind xs s

opened_more : (table : List (Option (Box Cells))) → IsOpening entry_frame (table_of table) → IsOpening entry_frame (table_of (table ++ None ∷ []))
opened_more table o = record {
  first = same_behind table 0 ∙ o.first;
  none = λ s n. same_behind table s ∙ o.none s n;
}

pub rest-init : goal.rest-init
rest-init c = opened c.push.new.self.items c.in_ok-table.table.items c.in_ok-new.field-0 c.entry.result c.in_ok-push.ensures.items c.in_ok-table.ensures.items c.in_ok-new.ensures.ok c.entry.ensures

pub rest-preserved : goal.rest-preserved
rest-preserved c =
    let t = c.rest.table.items in
    let e : c.push-in-rest.new.self.items ≡ t ++ None ∷ [] = c.in_ok-push-2.ensures.items in
    (ap length e ∙ length_push t None ∙ ap (λ n. n + 1) c.rest.invariant.0, subst (λ (s : List (Option (Box Cells))). IsOpening entry_frame (table_of s)) (sym e) (opened_more t c.rest.invariant.1))

pub returns-clause-size : goal.returns-clause-size
returns-clause-size c = c.rest.invariant.0 ∙ le_antisymm (c.rest.auto.counter-end c.requires) c.rest-test.false

pub returns-clause-only : goal.returns-clause-only
returns-clause-only c = c.rest.invariant.1
