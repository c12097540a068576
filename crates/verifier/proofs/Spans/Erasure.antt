-- Words of the stack that an access may reach.
use Rattle.std.proofs.Common.{◌≡◌, ◌≢◌, ℕ, ◌+◌, ◌<◌, ◌≤◌, true, false, List, length, ℤ, refl, sym, ap, ◌∙◌, subst, ⊎_elim, add-one, arith}
use Rattle.std.specs.Prelude.{slice_set, if◌then◌else◌, Option, None, Some}
use Rattle.std.proofs.Math.Path.{fun_ext}
use Rattle.std.proofs.lemmas.Bool.{cases_eq, cases_lt, cases_Bool}
use Rattle.std.proofs.lemmas.List.{get_or-set_same, get_or-set_other}
use Rattle.regtypes.specs.declared.rule.Rule.{Rule}
use Rattle.spans.specs.declared.kind.Reach.{Reach}
use Rattle.spans.specs.declared.kind.SpanKind.{SpanKind}
use Rattle.spans.specs.declared.kind.SpanKind.TheVariants.{Unset, Num}
use Rattle.spans.specs.Span.{whole}
use Rattle.spans.specs.Frame.{Frame, kind_at}
use Rattle.spans.specs.Access.{is_inside, is_reached, wiped}
use Rattle.verifier.specs.Span.Rules.{lesser, number_rule, words_rule}
use Rattle.verifier.proofs.Spans.Exact.{reached-within}

-- the cells below this one are done, and the others as they were
pub record Wiped (f : Frame) (s : Reach) (o : ℤ) (n : ℕ) (k : List SpanKind) (i : ℕ) : Type 0 where
  pub done : (c : ℕ) → c < i → kind_at k c ≡ wiped f s o n c
  pub rest : (c : ℕ) → i ≤ c → kind_at k c ≡ f c

-- at first none is done
pub wiped_none : (s : Reach) (o : ℤ) (n : ℕ) (k : List SpanKind) → Wiped (kind_at k) s o n k 0
wiped_none s o n k = record { done = λ c l. absurd (omega (arith, l)); rest = λ c l. refl }

-- one cell more, which is reached
pub wiped_one : (f : Frame) (s : Reach) (o : ℤ) (n : ℕ) (k : List SpanKind) (i : ℕ) (x : SpanKind) → i < length k → is_reached s o n i ≡ true → x ≡ Num (whole 64) → Wiped f s o n k i → Wiped f s o n (slice_set k i x) (i + 1)
wiped_one f s o n k i x lt r e h = record { done = λ c l. ⊎_elim (here c) (apart c l) (cases_eq c i); rest = λ c l. let q : c ≢ i = omega (arith, l) in get_or-set_other k i c x Unset q ∙ h.rest c (omega (arith, l)) }
  where
    here : (c : ℕ) → c ≡ i → kind_at (slice_set k i x) c ≡ wiped f s o n c
    here c q =
        let a : wiped f s o n i ≡ Num (whole 64) = ap (λ t. if t then Num (whole 64) else f i) r in
        subst (λ d. kind_at (slice_set k i x) d ≡ wiped f s o n d) (sym q) (get_or-set_same k i x Unset lt ∙ e ∙ sym a)

    apart : (c : ℕ) → c < i + 1 → c ≢ i → kind_at (slice_set k i x) c ≡ wiped f s o n c
    apart c l q = get_or-set_other k i c x Unset q ∙ h.done c (omega (arith, l, q))

-- one cell more, which is not
pub wiped_skip : (f : Frame) (s : Reach) (o : ℤ) (n : ℕ) (k : List SpanKind) (i : ℕ) → is_reached s o n i ≡ false → Wiped f s o n k i → Wiped f s o n k (i + 1)
wiped_skip f s o n k i r h = record { done = λ c l. ⊎_elim (here c) (λ q. h.done c (omega (arith, l, q))) (cases_eq c i); rest = λ c l. h.rest c (omega (arith, l)) }
  where
    here : (c : ℕ) → c ≡ i → kind_at k c ≡ wiped f s o n c
    here c q =
        let a : wiped f s o n i ≡ f i = ap (λ t. if t then Num (whole 64) else f i) r in
        subst (λ d. kind_at k d ≡ wiped f s o n d) (sym q) (h.rest i (omega arith) ∙ sym a)

-- all cells are done
pub wiped_all : (f : Frame) (s : Reach) (o : ℤ) (n : ℕ) (k : List SpanKind) → is_inside 512 s o n ≡ true → Wiped f s o n k 75 → kind_at k ≡ wiped f s o n
wiped_all f s o n k i h = fun_ext (λ c. ⊎_elim (h.done c) (past c) (cases_lt c 75))
  where
    past : (c : ℕ) → 75 ≤ c → kind_at k c ≡ wiped f s o n c
    past c l =
        let none : wiped f s o n c ≡ f c = ⊎_elim (λ (r : is_reached s o n c ≡ true). let b = (reached-within s o n c i r).1 in absurd (omega (arith, b, l))) (λ (r : is_reached s o n c ≡ false). ap (λ t. if t then Num (whole 64) else f c) r) (cases_Bool (is_reached s o n c)) in
        h.rest c l ∙ sym none

-- ---- the rule of one word more

pub words_none : (f : Frame) (s : Reach) (o : ℤ) (n : ℕ) → None ≡ words_rule 0 f s o n
unfolding words_rule
words_none f s o n = refl

words_next : (f : Frame) (s : Reach) (o : ℤ) (n w : ℕ) → words_rule (w + 1) f s o n ≡ lesser (words_rule w f s o n) (if is_reached s o n (11 + w) then number_rule (f (11 + w)) else None)
unfolding words_rule
words_next f s o n w = ap (λ x. words_rule x f s o n) (add-one w)

-- a word that is reached
pub words_one : (f : Frame) (s : Reach) (o : ℤ) (n w : ℕ) (r q : Option Rule) → is_reached s o n (11 + w) ≡ true → r ≡ words_rule w f s o n → q ≡ lesser r (number_rule (f (11 + w))) → q ≡ words_rule (w + 1) f s o n
words_one f s o n w r q t e h =
    h ∙ ap (λ x. lesser x (number_rule (f (11 + w)))) e ∙ sym (words_next f s o n w ∙ ap (λ b. lesser (words_rule w f s o n) (if b then number_rule (f (11 + w)) else None)) t)

lesser-none : (a : Option Rule) → lesser a None ≡ a
lesser-none None = refl
lesser-none (Some r) = refl

-- and one that is not
pub words_skip : (f : Frame) (s : Reach) (o : ℤ) (n w : ℕ) (r : Option Rule) → is_reached s o n (11 + w) ≡ false → r ≡ words_rule w f s o n → r ≡ words_rule (w + 1) f s o n
words_skip f s o n w r t e =
    e ∙ sym (words_next f s o n w ∙ ap (λ b. lesser (words_rule w f s o n) (if b then number_rule (f (11 + w)) else None)) t ∙ lesser-none (words_rule w f s o n))
