-- Cells of an array of kinds.
use Rattle.std.proofs.Common.{◌≡◌, ℕ, ◌<◌, ◌≤◌, true, false, List, length, Some, ℤ, ◌≤ℤ◌, ap, ◌∙◌, arith}
use Rattle.std.specs.Prelude.{◌==◌, nat_lt, if◌then◌else◌}
use Rattle.std.proofs.lemmas.Bool.Decides.{nat_tests}
use Rattle.std.proofs.lemmas.Int.{ints}
use Rattle.std.proofs.lemmas.List.{get_or_past}
use Rattle.spans.specs.declared.kind.Reach.{Reach}
use Rattle.spans.specs.declared.kind.SpanKind.{SpanKind}
use Rattle.spans.specs.declared.kind.SpanKind.TheVariants.{Unset, Num}
use Rattle.spans.specs.Span.{span}
use Rattle.spans.specs.Frame.{WithinReach, kind_at}
use Rattle.spans.specs.Access.{is_inside, whole_word}
use Rattle.spans.specs.Ways.{behind_helper}
use Rattle.spans.proofs.Access.{whole_word-is_reached}
use Rattle.verifier.proofs.Spans.KindLemmas.{Filled, filled_all}
use Rattle.verifier.proofs.Spans.Exact.{reached-within}

-- a whole word of the stack is one of its 64
pub word_within : (s : Reach) (o : ℤ) (n c : ℕ) → s.lo ≤ℤ s.hi → is_inside 512 s o n ≡ true → whole_word s o n ≡ Some c → c < 75
word_within s o n c l i e =
    let same : WithinReach s s = (grind (arith, ints), grind (arith, ints)) in
    (reached-within s o n c i (whole_word-is_reached s s o n c l same e).1).1

-- behind a helper nothing is known past the last cell
pub answered_all : (k f : List SpanKind) → length k ≡ 75 → length f ≡ 75 → Filled k (behind_helper (kind_at f)) 75 → kind_at k ≡ behind_helper (kind_at f)
answered_all k f n m h = filled_all (behind_helper (kind_at f)) k n past h
  where
    past : (c : ℕ) → 75 ≤ c → behind_helper (kind_at f) c ≡ Unset
    past c l =
        let a : (c == 0) ≡ false = grind (arith, nat_tests) in
        let b : nat_lt c 6 ≡ false = grind (arith, nat_tests) in
        ap (λ t. if t then Num (span 0 15) else if nat_lt c 6 then Unset else kind_at f c) a ∙ ap (λ t. if t then Unset else kind_at f c) b ∙ get_or_past f c Unset (omega (arith, m, l))
