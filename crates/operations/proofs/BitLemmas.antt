-- Numbers by their bits: what the definitions say of the machine's operators.
use Rattle.std.proofs.Common.{◌-◌, ◌/◌, ◌↔◌, inl, inr, subst, IsTrue, ◌≡◌, ℕ, zero, suc, ◌+◌, ◌*◌, ◌%◌, ◌^◌, ◌<◌, min, max, not, nat_eq, bit_and, bit_or, bit_xor, mul-pos, refl, sym, ap, ◌∙◌, mod-eq_of_lt, arith}
use Rattle.std.proofs.Math.Pow.{mod-mod-pow}
use Rattle.std.proofs.lemmas.Bool.{cases_lt}
use Rattle.std.proofs.lemmas.Nat.{field_of, mod-pow-add, pow_pos, and_le_l, or_lt, xor_lt}
use Rattle.std.specs.Int.{bit_at}
use Rattle.std.proofs.lemmas.Nat.Bits.{bit_at-lt, bit_at_and, bit_at_or, bit_at_xor}
use Rattle.std.proofs.lemmas.Bool.Decides.{nat_tests}
use Rattle.decode.specs.declared.insn.AluOp.TheVariants.{Or, And, Xor}
use Rattle.operations.specs.Bits.{word_of_bits}
use Rattle.operations.specs.Arithmetic.{computed}

-- one more bit
low-suc : (n c : ℕ) → c % 2 ^ suc n ≡ c % 2 ^ n + bit_at c n * 2 ^ n
low-suc n c =
    let e : 1 + n ≡ suc n = omega arith in
    ap (λ k. c % 2 ^ k) (sym e) ∙ mod-pow-add c 1 n ∙ omega arith

-- the number with the bits of c is c
pub word_of_bits-same : (bit : ℕ → ℕ) (n c : ℕ) → ((i : ℕ) → bit_at c i ≡ bit i) → word_of_bits bit n ≡ c % 2 ^ n
unfolding word_of_bits
word_of_bits-same bit zero c h = omega arith
word_of_bits-same bit (suc n) c h =
    ap (λ x. x + bit n * 2 ^ n) (word_of_bits-same bit n c h) ∙ ap (λ x. c % 2 ^ n + x * 2 ^ n) (sym (h n)) ∙ sym (low-suc n c)

-- the least of two bits is their product
min-bits : (x y : ℕ) → x < 2 → y < 2 → min x y ≡ x * y
min-bits zero y h k = omega arith
min-bits (suc zero) y h k = omega arith
min-bits (suc (suc x)) y h k = absurd (omega arith)

pub and-bit_and : (n a b : ℕ) → a < 2 ^ n → bit_and a b ≡ computed And n a b
and-bit_and n a b h =
    let below : bit_and a b < 2 ^ n = omega (arith, and_le_l a b) in
    let same : (i : ℕ) → bit_at (bit_and a b) i ≡ bit_at a i * bit_at b i = λ i. bit_at_and a b i ∙ min-bits (bit_at a i) (bit_at b i) (omega arith) (omega arith) in
    sym (mod-eq_of_lt below) ∙ sym (word_of_bits-same (λ i. bit_at a i * bit_at b i) n (bit_and a b) same)

pub or-bit_or : (n a b : ℕ) → a < 2 ^ n → b < 2 ^ n → bit_or a b ≡ computed Or n a b
or-bit_or n a b h k =
    sym (mod-eq_of_lt (or_lt n a b h k)) ∙ sym (word_of_bits-same (λ i. max (bit_at a i) (bit_at b i)) n (bit_or a b) (bit_at_or a b))

pub xor-bit_xor : (n a b : ℕ) → a < 2 ^ n → b < 2 ^ n → bit_xor a b ≡ computed Xor n a b
xor-bit_xor n a b h k =
    sym (mod-eq_of_lt (xor_lt n a b h k)) ∙ sym (word_of_bits-same (λ i. (bit_at a i + bit_at b i) % 2) n (bit_xor a b) (bit_at_xor a b))

-- whether two words have a common bit is the same by the machine's AND
pub and-test : (n a b : ℕ) → a < 2 ^ n → not (nat_eq (bit_and a b) 0) ≡ not (nat_eq (computed And n a b) 0)
and-test n a b h = ap (λ x. not (nat_eq x 0)) (and-bit_and n a b h)

-- a bit below n doesn't depend on the bits from n on
pub bit_at-low : (n c i : ℕ) → i < n → bit_at (c % 2 ^ n) i ≡ bit_at c i
bit_at-low n c i h =
    let parts : n ≡ n - i + i = omega arith in
    let one : n - i ≡ n - i - 1 + 1 = omega arith in
    ap (λ k. c % 2 ^ k / 2 ^ i % 2) parts ∙ ap (λ x. x % 2) (field_of c (n - i) i) ∙ ap (λ k. c / 2 ^ i % 2 ^ k % 2) one ∙ mod-mod-pow (c / 2 ^ i) (n - i - 1) 1

bit_at-word_of_bits : (bit : ℕ → ℕ) (n c i : ℕ) → ((j : ℕ) → bit_at c j ≡ bit j) → i < n → bit_at (word_of_bits bit n) i ≡ bit i
bit_at-word_of_bits bit n c i h l = ap (λ x. bit_at x i) (word_of_bits-same bit n c h) ∙ bit_at-low n c i l ∙ h i

pub bit_at-and : (n a b i : ℕ) → i < n → bit_at (computed And n a b) i ≡ bit_at a i * bit_at b i
bit_at-and n a b i h = bit_at-word_of_bits (λ j. bit_at a j * bit_at b j) n (bit_and a b) i (λ j. bit_at_and a b j ∙ min-bits (bit_at a j) (bit_at b j) (omega arith) (omega arith)) h

pub bit_at-or : (n a b i : ℕ) → i < n → bit_at (computed Or n a b) i ≡ max (bit_at a i) (bit_at b i)
bit_at-or n a b i h = bit_at-word_of_bits (λ j. max (bit_at a j) (bit_at b j)) n (bit_or a b) i (bit_at_or a b) h

pub bit_at-xor : (n a b i : ℕ) → i < n → bit_at (computed Xor n a b) i ≡ (bit_at a i + bit_at b i) % 2
bit_at-xor n a b i h = bit_at-word_of_bits (λ j. (bit_at a j + bit_at b j) % 2) n (bit_xor a b) i (bit_at_xor a b) h

-- ---- a number is not 0 just where one of its bits is 1

positive-left : (x y : ℕ) → 0 < x * y → 0 < x
positive-left zero y h = absurd (omega arith)
positive-left (suc x) y h = omega arith

found_below : (bit : ℕ → ℕ) (n : ℕ) → 0 < word_of_bits bit n → (i : ℕ) × ((i < n) × (0 < bit i))
unfolding word_of_bits
found_below bit zero h = absurd (omega arith)
found_below bit (suc n) h =
    elim (cases_lt 0 (word_of_bits bit n)) [
      | inl l ↦ let r = found_below bit n l in (r.0, (omega (arith, r.1.0), r.1.1))
      | inr g ↦ (n, (omega arith, positive-left (bit n) (2 ^ n) (omega (arith, h, g))))
    ]

below_found : (bit : ℕ → ℕ) (n i : ℕ) → i < n → 0 < bit i → 0 < word_of_bits bit n
unfolding word_of_bits
below_found bit zero i h e = absurd (omega arith)
below_found bit (suc n) i h e =
    elim (cases_lt i n) [
      | inl l ↦ omega (arith, below_found bit n i l e)
      | inr g ↦ let same : i ≡ n = omega arith in let some : 0 < bit n = subst (λ k. 0 < bit k) same e in
          omega (arith, mul-pos some (pow_pos n))
    ]

both-ones : (x y : ℕ) → x < 2 → y < 2 → 0 < x * y → (x ≡ 1) × (y ≡ 1)
both-ones zero y h k l = absurd (omega arith)
both-ones (suc zero) y h k l = (refl, omega arith)
both-ones (suc (suc x)) y h k l = absurd (omega arith)

ones-both : (x y : ℕ) → x ≡ 1 → y ≡ 1 → 0 < x * y
ones-both x y e f = let one : x * y ≡ 1 = ap (λ z. z * y) e ∙ ap (λ z. 1 * z) f in omega (arith, one)

test-positive : (x : ℕ) → IsTrue (not (nat_eq x 0)) → 0 < x
test-positive x h = grind (arith, nat_tests)

positive-test : (x : ℕ) → 0 < x → IsTrue (not (nat_eq x 0))
positive-test x h = grind (arith, nat_tests)

pub common_bit : (n a b : ℕ) → IsTrue (not (nat_eq (computed And n a b) 0)) ↔ ((i : ℕ) × ((i < n) × (bit_at a i ≡ 1) × (bit_at b i ≡ 1)))
common_bit n a b = (
  λ h. let r = found_below (λ i. bit_at a i * bit_at b i) n (test-positive (computed And n a b) h) in
      let ones = both-ones (bit_at a r.0) (bit_at b r.0) (bit_at-lt a r.0) (bit_at-lt b r.0) r.1.1 in
      (r.0, (r.1.0, ones.0, ones.1)),
  λ r. positive-test (computed And n a b) (below_found (λ i. bit_at a i * bit_at b i) n r.0 r.1.0 (ones-both (bit_at a r.0) (bit_at b r.0) r.1.1 r.1.2)),
)
