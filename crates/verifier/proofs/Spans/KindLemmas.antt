-- Kinds and frames in code.
use Rattle.std.proofs.Common.{◌≡◌, ◌≢◌, ℕ, ◌+◌, ◌<◌, ◌≤◌, List, length, refl, sym, ◌∙◌, subst, ap, ⊎_elim, arith}
use Rattle.std.specs.Prelude.{slice_set, false, ◌==◌, nat_lt}
use Rattle.std.proofs.Math.Path.{fun_ext}
use Rattle.std.proofs.lemmas.Bool.{cases_eq, cases_lt}
use Rattle.std.proofs.lemmas.Bool.Decides.{nat_tests}
use Rattle.std.proofs.lemmas.List.{get_or-set_same, get_or-set_other, get_or_past}
use Rattle.regtypes.specs.declared.frame.Region.{Region}
use Rattle.regtypes.specs.declared.frame.Region.TheVariants.{Message, State, Stack}
use Rattle.spans.specs.declared.span.Span.{Span}
use Rattle.spans.specs.declared.kind.Reach.{Reach}
use Rattle.spans.specs.declared.kind.SpanKind.{SpanKind}
use Rattle.spans.specs.declared.kind.SpanKind.TheVariants.{Unset, Num, Place}
use Rattle.spans.specs.Frame.{joined_reach, joined_kind, kind_at, Frame, joined, entry_frame}

-- places of one region
joined_in : (r : Region) (s t : Reach) → Place r (joined_reach s t) ≡ joined_kind (Place r s) (Place r t)
joined_in Message s t = refl
joined_in State s t = refl
joined_in Stack s t = refl

-- places of one region join to a place in it, with the reach that has the distances of both
pub joined_same : (r q : Region) (s t : Reach) → r ≡ q → Place r (joined_reach s t) ≡ joined_kind (Place r s) (Place q t)
joined_same r q s t e = joined_in r s t ∙ ap (λ x. joined_kind (Place r s) (Place x t)) e

-- places of two regions have nothing in common
pub joined_apart : (r q : Region) (s t : Reach) → r ≢ q → Unset ≡ joined_kind (Place r s) (Place q t)
joined_apart Message Message s t e = absurd (e refl)
joined_apart Message State s t e = refl
joined_apart Message Stack s t e = refl
joined_apart State Message s t e = refl
joined_apart State State s t e = absurd (e refl)
joined_apart State Stack s t e = refl
joined_apart Stack Message s t e = refl
joined_apart Stack State s t e = refl
joined_apart Stack Stack s t e = absurd (e refl)

-- nor have a place and a cell of which nothing is known
pub joined_unset : (r : Region) (s : Reach) → Unset ≡ joined_kind (Place r s) Unset
joined_unset Message s = refl
joined_unset State s = refl
joined_unset Stack s = refl

-- nor a place and a number
pub joined_num : (r : Region) (s : Reach) (t : Span) → Unset ≡ joined_kind (Place r s) (Num t)
joined_num Message s t = refl
joined_num State s t = refl
joined_num Stack s t = refl

-- ---- frames

-- the first i cells have the kinds of a frame
abbrev pub Filled : List SpanKind → Frame → ℕ → Type 0
Filled k f i = (c : ℕ) → c < i → kind_at k c ≡ f c

-- one cell more has its kind
pub filled_more : (f : Frame) (k : List SpanKind) (i : ℕ) (x : SpanKind) → i < length k → x ≡ f i → Filled k f i → Filled (slice_set k i x) f (i + 1)
filled_more f k i x lt e h c l = ⊎_elim here apart (cases_eq c i)
  where
    here : c ≡ i → kind_at (slice_set k i x) c ≡ f c
    here q = subst (λ n. kind_at (slice_set k i x) n ≡ f n) (sym q) (get_or-set_same k i x Unset lt ∙ e)

    apart : c ≢ i → kind_at (slice_set k i x) c ≡ f c
    apart q = get_or-set_other k i c x Unset q ∙ h c (omega arith)

-- when all 75 cells have their kinds, the array is the frame, which says nothing of the cells past the last one
pub filled_all : (f : Frame) (k : List SpanKind) → length k ≡ 75 → ((c : ℕ) → 75 ≤ c → f c ≡ Unset) → Filled k f 75 → kind_at k ≡ f
filled_all f k n past h = fun_ext (λ c. ⊎_elim (h c) (λ l. get_or_past k c Unset (omega (arith, n, l)) ∙ sym (past c l)) (cases_lt c 75))

-- as a call begins nothing is known past the last cell
entry_past : (c : ℕ) → 75 ≤ c → entry_frame c ≡ Unset
entry_past c l = by_tests (grind (arith, nat_tests)) (grind (arith, nat_tests)) (grind (arith, nat_tests)) (grind (arith, nat_tests)) (grind (arith, nat_tests))
  where
    by_tests : (c == 1) ≡ false → (c == 2) ≡ false → (c == 3) ≡ false → (c == 10) ≡ false → nat_lt c 75 ≡ false → entry_frame c ≡ Unset
    by_tests p q r s t = grind (arith, p, q, r, s, t)

pub entry_all : (k : List SpanKind) → length k ≡ 75 → Filled k entry_frame 75 → kind_at k ≡ entry_frame
entry_all k n h = filled_all entry_frame k n entry_past h

-- what both frames say of the cells past the last one is nothing
pub joined_all : (a b k : List SpanKind) → length a ≡ 75 → length k ≡ 75 → Filled k (joined (kind_at a) (kind_at b)) 75 → (c : ℕ) → kind_at k c ≡ joined (kind_at a) (kind_at b) c
joined_all a b k m n h c = ap (λ f. f c) (filled_all (joined (kind_at a) (kind_at b)) k n past h)
  where
    past : (c : ℕ) → 75 ≤ c → joined (kind_at a) (kind_at b) c ≡ Unset
    past c l = ap (λ x. joined_kind x (kind_at b c)) (get_or_past a c Unset (omega (arith, m, l)))
