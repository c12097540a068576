-- What conditions show: more of narrower spans, and never too much.
use Rattle.std.proofs.Common.{◌≡◌, ℕ, suc, ◌-◌, ◌^◌, ◌<◌, ◌≤◌, Bool, true, false, Option, Some, None, refl, sym, subst, inl, inr, arith, pos, negsuc}
use Rattle.std.specs.Prelude.{nat_lt, nat_le, ◌&&◌, ◌==◌, if◌then◌else◌, int_lt, int_le}
use Rattle.std.specs.Option.{option_map}
use Rattle.std.proofs.lemmas.Bool.{false≢true, cases_lt}
use Rattle.std.proofs.lemmas.Bool.Decides.{nat_tests}
use Rattle.std.proofs.lemmas.Int.{ints}
use Rattle.decode.specs.declared.insn.Condition.{Condition}
use Rattle.decode.specs.declared.insn.Condition.TheVariants.{Equal, Greater, GreaterEqual, Set, NotEqual, SignedGreater, SignedGreaterEqual, Less, LessEqual, SignedLess, SignedLessEqual}
use Rattle.operations.specs.Words.{signed_of}
use Rattle.operations.specs.Conditions.{compared}
use Rattle.operations.proofs.WordLemmas.{signed_of-low, signed_of-high}
use Rattle.spans.specs.Span.{IsSpan, Span, Within, one}
use Rattle.spans.specs.Narrowing.{SpanPair, is_one, not_negative, swapped, unless_empty, where_at_most, where_different, where_less, where_met, where_signed}
use Rattle.spans.proofs.Tests.{parts, both}
use Rattle.spans.proofs.Order.{within-refl}

-- where nothing is left, most is said
abbrev pub WithinWay : Option SpanPair → Option SpanPair → Type 0
WithinWay None w = Unit {0}
WithinWay (Some p) None = ⊥
WithinWay (Some p) (Some q) = Within p.0 q.0 × Within p.1 q.1

-- of spans that say more, conditions leave more
abbrev pub Narrows : Type 0
Narrows =
    (condition : Condition) (n : ℕ) (a b c d : Span) → 0 < n → IsSpan n a → IsSpan n b → IsSpan n c → IsSpan n d → Within a c → Within b d
    → WithinWay (where_met condition n a b) (where_met condition n c d)

-- where the condition holds of two words, both are left
abbrev pub Keeps : Type 0
Keeps =
    (condition : Condition) (n x y : ℕ) → 0 < n → x < 2 ^ n → y < 2 ^ n → compared condition n x y ≡ true
    → WithinWay (Some (one x, one y)) (where_met condition n (one x) (one y))

-- narrower spans that have a number lie in wider ones, which have it too
unless_empty-narrows : (a b c d : Span) → Within a c → Within b d → WithinWay (unless_empty a b) (unless_empty c d)
unless_empty-narrows a b c d l m =
    by_tests (nat_le a.lo a.hi && nat_le b.lo b.hi) (nat_le c.lo c.hi && nat_le d.lo d.hi) wider
  where
    wider : (nat_le a.lo a.hi && nat_le b.lo b.hi) ≡ true → (nat_le c.lo c.hi && nat_le d.lo d.hi) ≡ true
    wider e = let p = parts (nat_le a.lo a.hi) (nat_le b.lo b.hi) e in both (nat_le c.lo c.hi) (nat_le d.lo d.hi) (grind (arith, nat_tests, p.0, l.0, l.1)) (grind (arith, nat_tests, p.1, m.0, m.1))

    by_tests : (t u : Bool) → (t ≡ true → u ≡ true) → WithinWay (if t then Some (a, b) else None) (if u then Some (c, d) else None)
    by_tests true true h = (l, m)
    by_tests true false h = absurd (false≢true (h refl))
    by_tests false u h = tt

swap-narrows : (v w : Option SpanPair) → WithinWay v w → WithinWay (option_map swapped v) (option_map swapped w)
swap-narrows None w h = tt
swap-narrows (Some p) None h = h
swap-narrows (Some p) (Some q) h = (h.1, h.0)

where_less-narrows : (a b c d : Span) → Within a c → Within b d → WithinWay (where_less a b) (where_less c d)
where_less-narrows a b c d l m = unless_empty-narrows _ _ _ _ (l.0, omega (arith, l.1, m.1)) (omega (arith, l.0, m.0), m.1)

where_at_most-narrows : (a b c d : Span) → Within a c → Within b d → WithinWay (where_at_most a b) (where_at_most c d)
where_at_most-narrows a b c d l m = unless_empty-narrows _ _ _ _ (l.0, omega (arith, l.1, m.1)) (omega (arith, l.0, m.0), m.1)

unless_empty-inside : (a b c d : Span) → Within a c → Within b d → WithinWay (unless_empty a b) (Some (c, d))
unless_empty-inside a b c d l m = by_test (nat_le a.lo a.hi && nat_le b.lo b.hi)
  where
    by_test : (t : Bool) → WithinWay (if t then Some (a, b) else None) (Some (c, d))
    by_test true = (l, m)
    by_test false = tt

-- the number that is left out at one end
one_alone : (b : Span) (x : ℕ) → is_one b x ≡ true → (b.lo ≡ x) × (b.hi ≡ x)
one_alone b x e = let p = parts (b.lo == x) (b.hi == x) e in (grind (arith, nat_tests, p.0), grind (arith, nat_tests, p.1))

is_alone : (b : Span) (x : ℕ) → b.lo ≡ x → b.hi ≡ x → is_one b x ≡ true
is_alone b x h k = both (b.lo == x) (b.hi == x) (grind (arith, nat_tests, h)) (grind (arith, nat_tests, k))

lower : (x y : ℕ) (b d : Span) → b.lo ≤ b.hi → Within b d → y ≤ x → (if is_one d y then suc y else y) ≤ (if is_one b x then suc x else x)
lower x y b d s m h = by_tests (is_one b x) (is_one d y) (λ e. one_alone d y e) (is_alone b x)
  where
    by_tests : (t u : Bool) → (u ≡ true → (d.lo ≡ y) × (d.hi ≡ y)) → (b.lo ≡ x → b.hi ≡ x → t ≡ true) → (if u then suc y else y) ≤ (if t then suc x else x)
    by_tests true true k r = omega arith
    by_tests true false k r = omega arith
    by_tests false false k r = h
    by_tests false true k r =
        let e = k refl in
        elim (cases_lt y x) [
          | inl l ↦ omega arith
          | inr g ↦ absurd (false≢true (r (omega (arith, e.0, e.1, m.0, m.1)) (omega (arith, e.0, e.1, m.0, m.1))))
        ]

upper : (x y : ℕ) (b d : Span) → b.lo ≤ b.hi → Within b d → x ≤ y → (if is_one b x then x - 1 else x) ≤ (if is_one d y then y - 1 else y)
upper x y b d s m h = by_tests (is_one b x) (is_one d y) (λ e. one_alone d y e) (is_alone b x)
  where
    by_tests : (t u : Bool) → (u ≡ true → (d.lo ≡ y) × (d.hi ≡ y)) → (b.lo ≡ x → b.hi ≡ x → t ≡ true) → (if t then x - 1 else x) ≤ (if u then y - 1 else y)
    by_tests true true k r = omega arith
    by_tests true false k r = omega arith
    by_tests false false k r = h
    by_tests false true k r =
        let e = k refl in
        elim (cases_lt x y) [
          | inl l ↦ omega arith
          | inr g ↦ absurd (false≢true (r (omega (arith, e.0, e.1, m.0, m.1)) (omega (arith, e.0, e.1, m.0, m.1))))
        ]

-- a narrowing that a signed condition uses
record IsNarrowing (by : Span → Span → Option SpanPair) : Type 0 where
  narrows : (a b c d : Span) → Within a c → Within b d → WithinWay (by a b) (by c d)
  inside : (a b c d : Span) → Within a c → Within b d → WithinWay (by a b) (Some (c, d))

less_is : IsNarrowing where_less
less_is = record { narrows = where_less-narrows; inside = λ a b c d l m. unless_empty-inside _ _ c d (l.0, omega (arith, l.1)) (omega (arith, m.0), m.1) }

at_most_is : IsNarrowing where_at_most
at_most_is = record { narrows = where_at_most-narrows; inside = λ a b c d l m. unless_empty-inside _ _ c d (l.0, omega (arith, l.1)) (omega (arith, m.0), m.1) }

where_signed-narrows : (n : ℕ) (by : Span → Span → Option SpanPair) → IsNarrowing by → (a b c d : Span) → Within a c → Within b d → WithinWay (where_signed n by a b) (where_signed n by c d)
where_signed-narrows n by is a b c d l m = by_tests (nat_lt a.hi (2 ^ (n - 1))) (nat_lt c.hi (2 ^ (n - 1))) (λ e. grind (arith, nat_tests, l.1))
  where
    by_tests : (t u : Bool) → (u ≡ true → t ≡ true) → WithinWay (if t then by a (not_negative n b) else Some (a, b)) (if u then by c (not_negative n d) else Some (c, d))
    by_tests true true h = is.narrows a (not_negative n b) c (not_negative n d) l (m.0, omega (arith, m.1))
    by_tests true false h = is.inside a (not_negative n b) c d l (m.0, omega (arith, m.1))
    by_tests false true h = absurd (false≢true (h refl))
    by_tests false false h = (l, m)

pub where_met-narrows : Narrows
where_met-narrows Equal n a b c d p ia ib ic id l m = (l, m)
where_met-narrows Set n a b c d p ia ib ic id l m = (l, m)
where_met-narrows NotEqual n a b c d p ia ib ic id l m = unless_empty-narrows _ b _ d (lower a.lo c.lo b d ib.some m l.0, upper a.hi c.hi b d ib.some m l.1) m
where_met-narrows Less n a b c d p ia ib ic id l m = where_less-narrows a b c d l m
where_met-narrows LessEqual n a b c d p ia ib ic id l m = where_at_most-narrows a b c d l m
where_met-narrows Greater n a b c d p ia ib ic id l m = swap-narrows (where_less b a) (where_less d c) (where_less-narrows b a d c m l)
where_met-narrows GreaterEqual n a b c d p ia ib ic id l m = swap-narrows (where_at_most b a) (where_at_most d c) (where_at_most-narrows b a d c m l)
where_met-narrows SignedLess n a b c d p ia ib ic id l m = where_signed-narrows n where_less less_is a b c d l m
where_met-narrows SignedLessEqual n a b c d p ia ib ic id l m = where_signed-narrows n where_at_most at_most_is a b c d l m
where_met-narrows SignedGreater n a b c d p ia ib ic id l m = swap-narrows (where_signed n where_less b a) (where_signed n where_less d c) (where_signed-narrows n where_less less_is b a d c m l)
where_met-narrows SignedGreaterEqual n a b c d p ia ib ic id l m = swap-narrows (where_signed n where_at_most b a) (where_signed n where_at_most d c) (where_signed-narrows n where_at_most at_most_is b a d c m l)

where_signed-inside : (n : ℕ) (by : Span → Span → Option SpanPair) → IsNarrowing by → (a b c d : Span) → Within a c → Within b d → WithinWay (where_signed n by a b) (Some (c, d))
where_signed-inside n by is a b c d l m = by_test (nat_lt a.hi (2 ^ (n - 1)))
  where
    by_test : (t : Bool) → WithinWay (if t then by a (not_negative n b) else Some (a, b)) (Some (c, d))
    by_test true = is.inside a (not_negative n b) c d l (m.0, omega (arith, m.1))
    by_test false = (l, m)

raised : (t : Bool) (x : ℕ) → x ≤ (if t then suc x else x)
raised true x = omega arith
raised false x = omega arith

lowered : (t : Bool) (x : ℕ) → (if t then x - 1 else x) ≤ x
lowered true x = omega arith
lowered false x = omega arith

-- what is shown lies in what was known
pub where_met-inside : (condition : Condition) (n : ℕ) (a b c d : Span) → Within a c → Within b d → WithinWay (where_met condition n a b) (Some (c, d))
where_met-inside Equal n a b c d l m = (l, m)
where_met-inside Set n a b c d l m = (l, m)
where_met-inside NotEqual n a b c d l m = unless_empty-inside _ b c d (omega (arith, l.0, raised (is_one b a.lo) a.lo), omega (arith, l.1, lowered (is_one b a.hi) a.hi)) m
where_met-inside Less n a b c d l m = less_is.inside a b c d l m
where_met-inside LessEqual n a b c d l m = at_most_is.inside a b c d l m
where_met-inside Greater n a b c d l m = swap-narrows (where_less b a) (Some (d, c)) (less_is.inside b a d c m l)
where_met-inside GreaterEqual n a b c d l m = swap-narrows (where_at_most b a) (Some (d, c)) (at_most_is.inside b a d c m l)
where_met-inside SignedLess n a b c d l m = where_signed-inside n where_less less_is a b c d l m
where_met-inside SignedLessEqual n a b c d l m = where_signed-inside n where_at_most at_most_is a b c d l m
where_met-inside SignedGreater n a b c d l m = swap-narrows (where_signed n where_less b a) (Some (d, c)) (where_signed-inside n where_less less_is b a d c m l)
where_met-inside SignedGreaterEqual n a b c d l m = swap-narrows (where_signed n where_at_most b a) (Some (d, c)) (where_signed-inside n where_at_most at_most_is b a d c m l)

-- ---- what a jump that is taken leaves

abbrev Left : ℕ → ℕ → Option SpanPair → Type 0
Left x y w = WithinWay (Some (one x, one y)) w

unless_empty-keeps : (x y : ℕ) (a b : Span) → Within (one x) a → Within (one y) b → Left x y (unless_empty a b)
unless_empty-keeps x y a b l m = by_test (nat_le a.lo a.hi && nat_le b.lo b.hi) (both (nat_le a.lo a.hi) (nat_le b.lo b.hi) (grind (arith, nat_tests, l.0, l.1)) (grind (arith, nat_tests, m.0, m.1)))
  where
    by_test : (t : Bool) → t ≡ true → Left x y (if t then Some (a, b) else None)
    by_test true e = (l, m)
    by_test false e = absurd (false≢true e)

where_less-keeps : (x y : ℕ) (b : Span) → x < y → Within (one y) b → Left x y (where_less (one x) b)
where_less-keeps x y b h m = unless_empty-keeps x y _ _ (omega arith, omega (arith, m.1)) (omega (arith, m.0), m.1)

where_at_most-keeps : (x y : ℕ) (b : Span) → x ≤ y → Within (one y) b → Left x y (where_at_most (one x) b)
where_at_most-keeps x y b h m = unless_empty-keeps x y _ _ (omega arith, omega (arith, m.1)) (omega (arith, m.0), m.1)

where_different-keeps : (x y : ℕ) → (x ≡ y → ⊥) → Left x y (where_different (one x) (one y))
where_different-keeps x y h = unless_empty-keeps x y _ _ (not_one (is_one (one y) x) (λ e. h (sym (one_alone (one y) x e).0)), not_one' (is_one (one y) x) (λ e. h (sym (one_alone (one y) x e).0))) (omega arith, omega arith)
  where
    not_one : (t : Bool) → (t ≡ true → ⊥) → (if t then suc x else x) ≤ x
    not_one true k = absurd (k refl)
    not_one false k = omega arith

    not_one' : (t : Bool) → (t ≡ true → ⊥) → x ≤ (if t then x - 1 else x)
    not_one' true k = absurd (k refl)
    not_one' false k = omega arith

swap-keeps : (x y : ℕ) (w : Option SpanPair) → Left y x w → Left x y (option_map swapped w)
swap-keeps x y None h = h
swap-keeps x y (Some p) h = (h.1, h.0)

-- a number that isn't negative, and a greater one
where_at_most-where_signed : (n x y : ℕ) → x < 2 ^ (n - 1) → int_le (pos x) (signed_of n y) ≡ true → (y < 2 ^ (n - 1)) × (x ≤ y)
where_at_most-where_signed n x y h e =
    elim (cases_lt y (2 ^ (n - 1))) [
      | inl l ↦ (l, positive_le x y (subst (λ z. int_le (pos x) z ≡ true) (signed_of-low n y l) e))
      | inr g ↦ absurd (negative_le x (2 ^ n - suc y) (subst (λ z. int_le (pos x) z ≡ true) (signed_of-high n y g) e))
    ]
  where
    positive_le : (x y : ℕ) → int_le (pos x) (pos y) ≡ true → x ≤ y
    positive_le x y e = grind (arith, ints)

    negative_le : (x y : ℕ) → int_le (pos x) (negsuc y) ≡ true → ⊥
    negative_le x y e = grind (arith, ints)

where_less-where_signed : (n x y : ℕ) → x < 2 ^ (n - 1) → int_lt (pos x) (signed_of n y) ≡ true → (y < 2 ^ (n - 1)) × (x < y)
where_less-where_signed n x y h e =
    elim (cases_lt y (2 ^ (n - 1))) [
      | inl l ↦ (l, positive_lt x y (subst (λ z. int_lt (pos x) z ≡ true) (signed_of-low n y l) e))
      | inr g ↦ absurd (negative_lt x (2 ^ n - suc y) (subst (λ z. int_lt (pos x) z ≡ true) (signed_of-high n y g) e))
    ]
  where
    positive_lt : (x y : ℕ) → int_lt (pos x) (pos y) ≡ true → x < y
    positive_lt x y e = grind (arith, ints)

    negative_lt : (x y : ℕ) → int_lt (pos x) (negsuc y) ≡ true → ⊥
    negative_lt x y e = grind (arith, ints)

where_signed-keeps : (n x y : ℕ) (by : Span → Span → Option SpanPair) → (x < 2 ^ (n - 1) → (b : Span) → (y < 2 ^ (n - 1) → Within (one y) b) → Left x y (by (one x) b)) → Left x y (where_signed n by (one x) (one y))
where_signed-keeps n x y by h = by_test (nat_lt x (2 ^ (n - 1))) (λ e. h (grind (arith, nat_tests)) (not_negative n (one y)) (λ l. (omega arith, omega (arith, l))))
  where
    by_test : (t : Bool) → (t ≡ true → Left x y (by (one x) (not_negative n (one y)))) → Left x y (if t then by (one x) (not_negative n (one y)) else Some (one x, one y))
    by_test true k = k refl
    by_test false k = ((omega arith, omega arith), (omega arith, omega arith))

signed_less-keeps : (n x y : ℕ) → int_lt (signed_of n x) (signed_of n y) ≡ true → Left x y (where_signed n where_less (one x) (one y))
signed_less-keeps n x y e = where_signed-keeps n x y where_less (λ l b m. let r = where_less-where_signed n x y l (subst (λ z. int_lt z (signed_of n y) ≡ true) (signed_of-low n x l) e) in where_less-keeps x y b r.1 (m r.0))

signed_at_most-keeps : (n x y : ℕ) → int_le (signed_of n x) (signed_of n y) ≡ true → Left x y (where_signed n where_at_most (one x) (one y))
signed_at_most-keeps n x y e = where_signed-keeps n x y where_at_most (λ l b m. let r = where_at_most-where_signed n x y l (subst (λ z. int_le z (signed_of n y) ≡ true) (signed_of-low n x l) e) in where_at_most-keeps x y b r.1 (m r.0))

pub where_met-keeps : Keeps
where_met-keeps Equal n x y p h k e = (within-refl (one x), within-refl (one y))
where_met-keeps Set n x y p h k e = (within-refl (one x), within-refl (one y))
where_met-keeps NotEqual n x y p h k e = where_different-keeps x y (λ same. grind (arith, nat_tests, e, same))
where_met-keeps Less n x y p h k e = where_less-keeps x y (one y) (grind (arith, nat_tests, e)) (within-refl (one y))
where_met-keeps LessEqual n x y p h k e = where_at_most-keeps x y (one y) (grind (arith, nat_tests, e)) (within-refl (one y))
where_met-keeps Greater n x y p h k e = swap-keeps x y (where_less (one y) (one x)) (where_less-keeps y x (one x) (grind (arith, nat_tests, e)) (within-refl (one x)))
where_met-keeps GreaterEqual n x y p h k e = swap-keeps x y (where_at_most (one y) (one x)) (where_at_most-keeps y x (one x) (grind (arith, nat_tests, e)) (within-refl (one x)))
where_met-keeps SignedLess n x y p h k e = signed_less-keeps n x y e
where_met-keeps SignedLessEqual n x y p h k e = signed_at_most-keeps n x y e
where_met-keeps SignedGreater n x y p h k e = swap-keeps x y (where_signed n where_less (one y) (one x)) (signed_less-keeps n y x e)
where_met-keeps SignedGreaterEqual n x y p h k e = swap-keeps x y (where_signed n where_at_most (one y) (one x)) (signed_at_most-keeps n y x e)
