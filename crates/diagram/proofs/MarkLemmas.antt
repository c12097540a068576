-- One more mark of a picture, and a part of a text that grows.
use Rattle.std.proofs.Common.{◌≡◌, ◌∙◌, ℕ, ◌+◌, ◌<◌, List, [], ◌∷◌, ◌++◌, length, take, get_or, sym, ap, arith, append_assoc, append-nil}
use Rattle.std.proofs.lemmas.List.{take_more, length-take-le}
use Rattle.world.specs.declared.entry.Entry.{Entry}
use Rattle.diagram.specs.declared.columns.Column.{Column}
use Rattle.diagram.specs.Marks.{HasPart, column_mark, marks_from}

-- the marks of some columns
module _ (n : ℕ) (es : List Entry) where
  marks_push : (column : ℕ) (ps : List Column) (p : Column) → marks_from n es column (ps ++ p ∷ []) ≡ marks_from n es column ps ++ column_mark n es (column + length ps) p
  marks_push column [] p =
      let at : column ≡ column + 0 = omega arith in
      append-nil (column_mark n es column p) ∙ ap (λ k. column_mark n es k p) at
  marks_push column (x ∷ xs) p =
      let at : column + 1 + length xs ≡ column + length (x ∷ xs) = omega arith in
      ap (λ t. column_mark n es column x ++ t) (marks_push (column + 1) xs p ∙ ap (λ k. marks_from n es (column + 1) xs ++ column_mark n es k p) at)
      ∙ sym (append_assoc (column_mark n es column x) (marks_from n es (column + 1) xs) (column_mark n es (column + length (x ∷ xs)) p))

  -- after the column at i, there are the marks of those before it and its own
  pub has_one_more : (ps : List Column) (i : ℕ) (d p : Column) (start old new : List ℕ) → i < length ps → p ≡ get_or ps i d
      → old ≡ start ++ marks_from n es 0 (take i ps) → new ≡ old ++ column_mark n es i p → new ≡ start ++ marks_from n es 0 (take (i + 1) ps)
  has_one_more ps i d p start old new lt is before written =
      let at : 0 + length (take i ps) ≡ i = ap (λ n. 0 + n) (length-take-le i ps (omega (arith, lt))) ∙ omega arith in
      written ∙ ap (λ t. t ++ column_mark n es i p) before
      ∙ append_assoc start (marks_from n es 0 (take i ps)) (column_mark n es i p)
      ∙ ap (λ t. start ++ t)
      (ap (λ k. marks_from n es 0 (take i ps) ++ column_mark n es k p) (sym at)
      ∙ sym (marks_push 0 (take i ps) p)
      ∙ ap (λ x. marks_from n es 0 (take i ps ++ x ∷ [])) is
      ∙ ap (λ l. marks_from n es 0 l) (sym (take_more ps i d lt)))

-- a part stays a part if more text follows
pub has_more : (part text more : List ℕ) → HasPart part text → HasPart part (text ++ more)
has_more part text more (before, after, is) = (before, after ++ more, ap (λ t. t ++ more) is ∙ append_assoc (before ++ part) after more)

-- what was just written is a part
pub has_last : (part text start : List ℕ) → text ≡ start ++ part → HasPart part text
has_last part text start is = (start, [], is ∙ sym (append-nil (start ++ part)))
