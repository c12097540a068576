-- The result of two words is in the span of their own.
use Rattle.std.proofs.Common.{◌≡◌, ℕ, zero, suc, ◌+◌, ◌-◌, ◌*◌, ◌/◌, ◌%◌, ◌^◌, ◌<◌, ◌≤◌, max, Bool, true, false, refl, sym, ap, ◌∙◌, subst, arith, mod-eq_of_lt, pos, bit_or, bit_xor}
use Rattle.std.specs.Prelude.{nat_lt, nat_le, ◌&&◌, if◌then◌else◌, ◌==◌}
use Rattle.std.proofs.lemmas.Bool.Decides.{nat_tests}
use Rattle.std.proofs.lemmas.Nat.{pow_pos, and_le_l, and_le_r, or_lt, xor_lt}
use Rattle.std.specs.Int.{int_div_euclid}
use Rattle.std.proofs.Math.Nat.{mod-lt, div-le_self, add-mod_right}
use Rattle.decode.specs.declared.insn.AluOp.{AluOp}
use Rattle.decode.specs.declared.insn.AluOp.TheVariants.{Add, Sub, Mul, Div, Sdiv, Or, And, Lsh, Rsh, Mod, Smod, Xor, Mov, Arsh}
use Rattle.operations.specs.Arithmetic.{computed}
use Rattle.operations.specs.Words.{word_of_signed}
use Rattle.operations.proofs.Bounds.{computed_below}
use Rattle.operations.proofs.BitLemmas.{and-bit_and, or-bit_or, xor-bit_xor}
use Rattle.operations.proofs.WordLemmas.{signed_of-low}
use Rattle.spans.specs.Span.{Span, Within, bounded, one, ones, result_span, span, whole}
use Rattle.spans.proofs.Tests.{parts}

-- a result of two words lies where their own spans say
abbrev pub Holds : Type 0
Holds =
    (op : AluOp) (n x y : ℕ) → 0 < n → x < 2 ^ n → y < 2 ^ n
    → Within (one (computed op n x y)) (result_span op n (one x) (one y))

-- by a test, or any word
pub by_test : (t : Bool) (n r : ℕ) (x : Span) → r < 2 ^ n → (t ≡ true → Within (one r) x) → Within (one r) (if t then x else whole n)
by_test true n r x b h = h refl
by_test false n r x b h = (omega arith, omega arith)

-- a result is in the span of it alone
pub exactly : (r x : ℕ) → r ≡ x → Within (one r) (one x)
exactly r x e = (omega arith, omega arith)

-- a word of n bits is in the span of all of them
pub any : (n r : ℕ) → r < 2 ^ n → Within (one r) (whole n)
any n r h = (omega arith, omega arith)

-- a result modulo 2 ^ n is in the span that `bounded` gives for it, wrapped or not
pub bounded-holds : (n x : ℕ) → Within (one (x % 2 ^ n)) (bounded n x x)
bounded-holds n x = by_test (nat_lt x (2 ^ n)) n (x % 2 ^ n) (span x x) (mod-lt x (pow_pos n)) (λ e. exactly (x % 2 ^ n) x (mod-eq_of_lt (grind (arith, nat_tests))))

-- a number below 2 ^ n is at most `ones`
ones-above : (n m : ℕ) → m < 2 ^ n → m ≤ ones n m
ones-above zero m h = omega arith
ones-above (suc n) m h = by_case (nat_lt m (2 ^ n)) (λ e. ones-above n m (grind (arith, nat_tests)))
  where
    by_case : (t : Bool) → (t ≡ true → m ≤ ones n m) → m ≤ (if t then ones n m else 2 ^ suc n - 1)
    by_case true k = k refl
    by_case false k = omega arith

-- numbers that are at most m stay at most `ones` of m, for an operation that keeps numbers below each power
ones-keeps : (f : ℕ → ℕ → ℕ) → ((k x y : ℕ) → x < 2 ^ k → y < 2 ^ k → f x y < 2 ^ k) → (n m x y : ℕ) → x ≤ m → y ≤ m → m < 2 ^ n → f x y ≤ ones n m
ones-keeps f below zero m x y h k l = omega (arith, below 0 x y (omega arith) (omega arith))
ones-keeps f below (suc n) m x y h k l = by_case (nat_lt m (2 ^ n)) (λ e. ones-keeps f below n m x y h k (grind (arith, nat_tests)))
  where
    by_case : (t : Bool) → (t ≡ true → f x y ≤ ones n m) → f x y ≤ (if t then ones n m else 2 ^ suc n - 1)
    by_case true r = r refl
    by_case false r = omega (arith, below (suc n) x y (omega arith) (omega arith))

if-false : (t : Bool) (x y : ℕ) → t ≡ false → (if t then x else y) ≡ y
if-false t x y h = ap (λ b. if b then x else y) h

-- a difference of words that doesn't wrap
pub difference : (n x y : ℕ) → x < 2 ^ n → y ≤ x → (x + (2 ^ n - y)) % 2 ^ n ≡ x - y
difference n x y h l =
    let apart : x + (2 ^ n - y) ≡ x - y + 2 ^ n = omega arith in
    ap (λ z. z % 2 ^ n) apart ∙ add-mod_right (x - y) (2 ^ n) ∙ mod-eq_of_lt (omega arith)

no_zero : (y : ℕ) → nat_lt 0 y ≡ true → (y == 0) ≡ false
no_zero y e = grind (arith, nat_tests)

-- a shift count within the width is taken as it is
count : (n y : ℕ) → nat_lt y n ≡ true → y % n ≡ y
count n y e = mod-eq_of_lt (grind (arith, nat_tests))

bits-hold : (f : ℕ → ℕ → ℕ) → ((k x y : ℕ) → x < 2 ^ k → y < 2 ^ k → f x y < 2 ^ k) → (n r x y : ℕ) → x < 2 ^ n → y < 2 ^ n → f x y ≡ r → Within (one r) (span 0 (ones n (max x y)))
bits-hold f below n r x y h k e = (omega arith, omega (arith, e, ones-keeps f below n (max x y) x y (omega arith) (omega arith) (omega arith)))

pub result_span-holds : Holds
result_span-holds Add n x y p h k = bounded-holds n (x + y)
result_span-holds Sub n x y p h k =
    by_test (nat_le y x) n (computed Sub n x y) (span (x - y) (x - y)) (computed_below Sub n x y h k) (λ e. exactly (computed Sub n x y) (x - y) (difference n x y h (grind (arith, nat_tests))))
result_span-holds Mul n x y p h k = bounded-holds n (x * y)
result_span-holds Div n x y p h k =
    by_test (nat_lt 0 y) n (computed Div n x y) (span (x / y) (x / y)) (computed_below Div n x y h k) (λ e. exactly (computed Div n x y) (x / y) (if-false (y == 0) 0 (x / y) (no_zero y e)))
result_span-holds Sdiv n x y p h k = any n (computed Sdiv n x y) (computed_below Sdiv n x y h k)
result_span-holds Or n x y p h k = bits-hold bit_or or_lt n (computed Or n x y) x y h k (or-bit_or n x y h k)
result_span-holds And n x y p h k = (omega arith, omega (arith, and-bit_and n x y h, and_le_l x y, and_le_r x y))
result_span-holds Lsh n x y p h k =
    by_test (nat_lt y n) n (computed Lsh n x y) (bounded n (x * 2 ^ y) (x * 2 ^ y)) (computed_below Lsh n x y h k) (λ e. subst (λ z. Within (one (x * 2 ^ z % 2 ^ n)) (bounded n (x * 2 ^ y) (x * 2 ^ y))) (sym (count n y e)) (bounded-holds n (x * 2 ^ y)))
result_span-holds Rsh n x y p h k =
    by_test (nat_lt y n) n (computed Rsh n x y) (span (x / 2 ^ y) (x / 2 ^ y)) (computed_below Rsh n x y h k) (λ e. exactly (computed Rsh n x y) (x / 2 ^ y) (ap (λ z. x / 2 ^ z) (count n y e)))
result_span-holds Mod n x y p h k =
    by_test (nat_lt 0 y) n (computed Mod n x y) (span 0 (y - 1)) (computed_below Mod n x y h k) (λ e. let q : 0 < y = grind (arith, nat_tests) in (omega arith, omega (arith, if-false (y == 0) x (x % y) (no_zero y e), mod-lt x q)))
result_span-holds Smod n x y p h k = any n (computed Smod n x y) (computed_below Smod n x y h k)
result_span-holds Xor n x y p h k = bits-hold bit_xor xor_lt n (computed Xor n x y) x y h k (xor-bit_xor n x y h k)
result_span-holds Mov n x y p h k = exactly y y refl
result_span-holds Arsh n x y p h k =
    by_test (nat_lt y n && nat_lt x (2 ^ (n - 1))) n (computed Arsh n x y) (span (x / 2 ^ y) (x / 2 ^ y)) (computed_below Arsh n x y h k)
    (λ e. let t = parts (nat_lt y n) (nat_lt x (2 ^ (n - 1))) e in
    let low : x < 2 ^ (n - 1) = grind (arith, nat_tests, t.1) in
    exactly (computed Arsh n x y) (x / 2 ^ y) (ap (λ z. word_of_signed n (int_div_euclid z (pos (2 ^ (y % n))))) (signed_of-low n x low) ∙ mod-eq_of_lt (omega (arith, div-le_self x (2 ^ (y % n)))) ∙ ap (λ z. x / 2 ^ z) (count n y t.0)))
