-- Spans that say more leave more.
use Rattle.std.proofs.Common.{◌≡◌, ℕ, zero, suc, ◌+◌, ◌-◌, ◌*◌, ◌/◌, ◌^◌, ◌<◌, ◌≤◌, max, Bool, true, false, refl, arith}
use Rattle.std.specs.Prelude.{nat_lt, nat_le, ◌&&◌, if◌then◌else◌}
use Rattle.std.proofs.lemmas.Bool.{false≢true}
use Rattle.std.proofs.lemmas.Bool.Decides.{nat_tests}
use Rattle.std.proofs.lemmas.Nat.{pow_pos, le-div}
use Rattle.std.proofs.Math.Nat.{mul-le-mul, mul-le-mul_left, div-le_self, div-mul-le_self, pow-suc, pow-le-pow_right}
use Rattle.decode.specs.declared.insn.AluOp.{AluOp}
use Rattle.decode.specs.declared.insn.AluOp.TheVariants.{Add, Sub, Mul, Div, Sdiv, Or, And, Lsh, Rsh, Mod, Smod, Xor, Mov, Arsh}
use Rattle.spans.specs.Span.{IsSpan, Span, Within, bounded, ones, result_span, span, whole}
use Rattle.spans.proofs.Order.{within-refl}

-- operands of which more is known leave a result of which no less is known
abbrev pub Grows : Type 0
Grows =
    (op : AluOp) (n : ℕ) (a b c d : Span) → 0 < n → IsSpan n a → IsSpan n b → IsSpan n c → IsSpan n d → Within a c → Within b d
    → Within (result_span op n a b) (result_span op n c d)

-- both by a test that holds of the first where it holds of the second
pub by_tests : (t u : Bool) (n : ℕ) (x y : Span) → (u ≡ true → t ≡ true) → (t ≡ true → Within x (whole n)) → (u ≡ true → Within x y) → Within (if t then x else whole n) (if u then y else whole n)
by_tests true true n x y m top h = h refl
by_tests true false n x y m top h = top refl
by_tests false true n x y m top h = absurd (false≢true (m refl))
by_tests false false n x y m top h = within-refl (whole n)

-- ends further apart give no narrower span, wrapped or not
pub bounded-grows : (n lo hi lo' hi' : ℕ) → lo' ≤ lo → hi ≤ hi' → Within (bounded n lo hi) (bounded n lo' hi')
bounded-grows n lo hi lo' hi' l h =
    by_tests (nat_lt hi (2 ^ n)) (nat_lt hi' (2 ^ n)) n (span lo hi) (span lo' hi') (λ e. grind (arith, nat_tests)) (λ e. (omega arith, grind (arith, nat_tests))) (λ e. (l, h))

-- whether or not the result may have wrapped, its span is one of words of n bits
pub bounded-in : (n lo hi : ℕ) → Within (bounded n lo hi) (whole n)
bounded-in n lo hi = by_tests (nat_lt hi (2 ^ n)) false n (span lo hi) (whole n) (λ e. absurd (false≢true e)) (λ e. (omega arith, grind (arith, nat_tests))) (λ e. absurd (false≢true e))

pub ones-below : (n m : ℕ) → ones n m < 2 ^ n
ones-below zero m = omega arith
ones-below (suc n) m = by_case (nat_lt m (2 ^ n)) (ones-below n m)
  where
    by_case : (t : Bool) → ones n m < 2 ^ n → (if t then ones n m else 2 ^ suc n - 1) < 2 ^ suc n
    by_case true h = omega (arith, pow-suc 2 n)
    by_case false h = let p : 0 < 2 ^ suc n = pow_pos (suc n) in omega arith

ones-grows : (n m m' : ℕ) → m ≤ m' → ones n m ≤ ones n m'
ones-grows zero m m' h = omega arith
ones-grows (suc n) m m' h = by_case (nat_lt m (2 ^ n)) (nat_lt m' (2 ^ n)) (λ e. grind (arith, nat_tests)) (ones-below n m) (ones-grows n m m' h)
  where
    by_case : (t u : Bool) → (u ≡ true → t ≡ true) → ones n m < 2 ^ n → ones n m ≤ ones n m' → (if t then ones n m else 2 ^ suc n - 1) ≤ (if u then ones n m' else 2 ^ suc n - 1)
    by_case true true k b h = h
    by_case true false k b h = omega (arith, pow-suc 2 n)
    by_case false true k b h = absurd (false≢true (k refl))
    by_case false false k b h = omega arith

-- quotients grow with the dividend and shrink with the divisor
pub quotients : (x x' y y' : ℕ) → x ≤ x' → y' ≤ y → 0 < y' → x / y ≤ x' / y'
quotients x x' y y' h k p = le-div (x / y) x' y' p (omega (arith, div-mul-le_self x y, mul-le-mul_left (x / y) k))

pub powers : (i j : ℕ) → i ≤ j → 2 ^ i ≤ 2 ^ j
powers i j h = pow-le-pow_right (omega arith) h

-- a span that ends among the words of n bits is one of them
pub in_whole : (n lo hi : ℕ) → hi < 2 ^ n → Within (span lo hi) (whole n)
in_whole n lo hi h = (omega arith, omega arith)

-- the quotients of a dividend by a power, or by divisors
quotients-grow : (n : ℕ) (a c : Span) (y z y' z' : ℕ) → IsSpan n a → Within a c → z' ≤ z → y ≤ y' → 0 < z' → 0 < y → Within (span (a.lo / y) (a.hi / z)) (span (c.lo / y') (c.hi / z'))
quotients-grow n a c y z y' z' ia l h k p q = (quotients c.lo a.lo y' y l.0 k q, quotients a.hi c.hi z z' l.1 h p)

quotients-in : (n : ℕ) (a : Span) (y z : ℕ) → IsSpan n a → Within (span (a.lo / y) (a.hi / z)) (whole n)
quotients-in n a y z ia = in_whole n (a.lo / y) (a.hi / z) (omega (arith, div-le_self a.hi z, ia.words))

shifts-grow : (n : ℕ) (a b c d : Span) → IsSpan n a → Within a c → Within b d → Within (span (a.lo / 2 ^ b.hi) (a.hi / 2 ^ b.lo)) (span (c.lo / 2 ^ d.hi) (c.hi / 2 ^ d.lo))
shifts-grow n a b c d ia l m =
    quotients-grow n a c (2 ^ b.hi) (2 ^ b.lo) (2 ^ d.hi) (2 ^ d.lo) ia l (powers d.lo b.lo m.0) (powers b.hi d.hi m.1) (pow_pos d.lo) (pow_pos b.hi)

pub result_span-grows : Grows
result_span-grows Add n a b c d p ia ib ic id l m = bounded-grows n (a.lo + b.lo) (a.hi + b.hi) (c.lo + d.lo) (c.hi + d.hi) (omega (arith, l.0, m.0)) (omega (arith, l.1, m.1))
result_span-grows Sub n a b c d p ia ib ic id l m =
    by_tests (nat_le b.hi a.lo) (nat_le d.hi c.lo) n (span (a.lo - b.hi) (a.hi - b.lo)) (span (c.lo - d.hi) (c.hi - d.lo)) (λ e. grind (arith, nat_tests, l.0, m.1)) (λ e. in_whole n (a.lo - b.hi) (a.hi - b.lo) (omega (arith, ia.words))) (λ e. (omega (arith, l.0, m.1), omega (arith, l.1, m.0)))
result_span-grows Mul n a b c d p ia ib ic id l m = bounded-grows n (a.lo * b.lo) (a.hi * b.hi) (c.lo * d.lo) (c.hi * d.hi) (mul-le-mul l.0 m.0) (mul-le-mul l.1 m.1)
result_span-grows Div n a b c d p ia ib ic id l m =
    by_tests (nat_lt 0 b.lo) (nat_lt 0 d.lo) n (span (a.lo / b.hi) (a.hi / b.lo)) (span (c.lo / d.hi) (c.hi / d.lo)) (λ e. grind (arith, nat_tests, m.0)) (λ e. quotients-in n a b.hi b.lo ia) (λ e. let q : 0 < d.lo = grind (arith, nat_tests) in quotients-grow n a c b.hi b.lo d.hi d.lo ia l m.0 m.1 q (omega (arith, q, m.0, ib.some)))
result_span-grows Sdiv n a b c d p ia ib ic id l m = within-refl (whole n)
result_span-grows Or n a b c d p ia ib ic id l m = (omega arith, ones-grows n (max a.hi b.hi) (max c.hi d.hi) (omega (arith, l.1, m.1)))
result_span-grows And n a b c d p ia ib ic id l m = (omega arith, omega (arith, l.1, m.1))
result_span-grows Lsh n a b c d p ia ib ic id l m =
    by_tests (nat_lt b.hi n) (nat_lt d.hi n) n (bounded n (a.lo * 2 ^ b.lo) (a.hi * 2 ^ b.hi)) (bounded n (c.lo * 2 ^ d.lo) (c.hi * 2 ^ d.hi)) (λ e. grind (arith, nat_tests, m.1)) (λ e. bounded-in n (a.lo * 2 ^ b.lo) (a.hi * 2 ^ b.hi)) (λ e. bounded-grows n (a.lo * 2 ^ b.lo) (a.hi * 2 ^ b.hi) (c.lo * 2 ^ d.lo) (c.hi * 2 ^ d.hi) (mul-le-mul l.0 (powers d.lo b.lo m.0)) (mul-le-mul l.1 (powers b.hi d.hi m.1)))
result_span-grows Rsh n a b c d p ia ib ic id l m =
    by_tests (nat_lt b.hi n) (nat_lt d.hi n) n (span (a.lo / 2 ^ b.hi) (a.hi / 2 ^ b.lo)) (span (c.lo / 2 ^ d.hi) (c.hi / 2 ^ d.lo)) (λ e. grind (arith, nat_tests, m.1)) (λ e. quotients-in n a (2 ^ b.hi) (2 ^ b.lo) ia) (λ e. shifts-grow n a b c d ia l m)
result_span-grows Mod n a b c d p ia ib ic id l m =
    by_tests (nat_lt 0 b.lo) (nat_lt 0 d.lo) n (span 0 (b.hi - 1)) (span 0 (d.hi - 1)) (λ e. grind (arith, nat_tests, m.0)) (λ e. in_whole n 0 (b.hi - 1) (omega (arith, ib.words))) (λ e. (omega arith, omega (arith, m.1)))
result_span-grows Smod n a b c d p ia ib ic id l m = within-refl (whole n)
result_span-grows Xor n a b c d p ia ib ic id l m = (omega arith, ones-grows n (max a.hi b.hi) (max c.hi d.hi) (omega (arith, l.1, m.1)))
result_span-grows Mov n a b c d p ia ib ic id l m = m
result_span-grows Arsh n a b c d p ia ib ic id l m =
    by_tests (nat_lt b.hi n && nat_lt a.hi (2 ^ (n - 1))) (nat_lt d.hi n && nat_lt c.hi (2 ^ (n - 1))) n (span (a.lo / 2 ^ b.hi) (a.hi / 2 ^ b.lo)) (span (c.lo / 2 ^ d.hi) (c.hi / 2 ^ d.lo)) (λ e. grind (arith, nat_tests, m.1, l.1)) (λ e. quotients-in n a (2 ^ b.hi) (2 ^ b.lo) ia) (λ e. shifts-grow n a b c d ia l m)
