-- Signed readings of words, and words of signed numbers.
use Rattle.std.proofs.Common.{sym, zero, ◌+◌, ◌*◌, inl, inr, ◌≡◌, ℕ, suc, ◌-◌, ◌*◌, ◌%◌, ◌^◌, ◌<◌, ◌≤◌, Bool, true, false, ℤ, pos, negsuc, refl, ap, ◌∙◌, mod-eq_of_lt, arith}
use Rattle.std.specs.Prelude.{nat_lt, if◌then◌else◌}
use Rattle.std.specs.Int.{bit_at}
use Rattle.std.specs.Int.Signed.{mag}
use Rattle.std.proofs.Math.Nat.{mod-lt, pow-suc}
use Rattle.std.proofs.Math.Pow.{pow_mono}
use Rattle.std.proofs.lemmas.Nat.{mod_low, pow-add, pow_pos, shr_high, shr-shr}
use Rattle.std.proofs.lemmas.Nat.Bits.{bit_at-zero, bit_at_above, bit_at_ones}
use Rattle.std.proofs.lemmas.Bool.{cases_lt}
use Rattle.operations.proofs.BitLemmas.{bit_at-low}
use Rattle.std.proofs.lemmas.Bool.Decides.{nat_tests}
use Rattle.operations.specs.Words.{signed_of, word_of_signed, extended_from}

half-twice : (n : ℕ) → 0 < n → 2 ^ n ≡ 2 ^ (n - 1) * 2
half-twice n h = let e : n ≡ suc (n - 1) = omega arith in ap (λ k. 2 ^ k) e ∙ pow-suc 2 (n - 1)

if-true : (t : Bool) (x y : ℤ) → t ≡ true → (if t then x else y) ≡ x
if-true t x y h = ap (λ b. if b then x else y) h

if-false : (t : Bool) (x y : ℤ) → t ≡ false → (if t then x else y) ≡ y
if-false t x y h = ap (λ b. if b then x else y) h

-- a word whose highest bit is 0 is read as it is
pub signed_of-low : (n a : ℕ) → a < 2 ^ (n - 1) → signed_of n a ≡ pos a
signed_of-low n a h = let t : nat_lt a (2 ^ (n - 1)) ≡ true = grind (arith, nat_tests) in if-true (nat_lt a (2 ^ (n - 1))) (pos a) (negsuc (2 ^ n - suc a)) t

-- a word whose highest bit is 1 is read as 2 ^ n less
pub signed_of-high : (n a : ℕ) → 2 ^ (n - 1) ≤ a → signed_of n a ≡ negsuc (2 ^ n - suc a)
signed_of-high n a h = let t : nat_lt a (2 ^ (n - 1)) ≡ false = grind (arith, nat_tests) in if-false (nat_lt a (2 ^ (n - 1))) (pos a) (negsuc (2 ^ n - suc a)) t

-- a number in the range of n bits is read back
pub signed_of-word_of_signed : (n : ℕ) (z : ℤ) → 0 < n → mag z < 2 ^ (n - 1) → signed_of n (word_of_signed n z) ≡ z
signed_of-word_of_signed n (pos a) some h =
    let whole : a % 2 ^ n ≡ a = mod-eq_of_lt (omega (arith, half-twice n some)) in
    ap (signed_of n) whole ∙ signed_of-low n a h
signed_of-word_of_signed n (negsuc a) some h =
    let twice = half-twice n some in
    let whole : a % 2 ^ n ≡ a = mod-eq_of_lt (omega (arith, twice)) in
    let back : 2 ^ n - suc (2 ^ n - 1 - a) ≡ a = omega (arith, twice) in
    ap (λ x. signed_of n (2 ^ n - 1 - x)) whole ∙ signed_of-high n (2 ^ n - 1 - a) (omega (arith, twice)) ∙ ap negsuc back

signed_of_fits_by : (k a : ℕ) (t : Bool) → nat_lt a (2 ^ (k - 1)) ≡ t → 0 < k → a < 2 ^ k → mag (if t then pos a else negsuc (2 ^ k - suc a)) < 2 ^ (k - 1)
signed_of_fits_by k a true e some h = grind (arith, nat_tests)
signed_of_fits_by k a false e some h =
    let l : 2 ^ (k - 1) ≤ a = grind (arith, nat_tests) in omega (arith, half-twice k some, pow_pos (k - 1))

-- a signed reading is in the range of its bits
pub signed_of_fits : (k a : ℕ) → 0 < k → a < 2 ^ k → mag (signed_of k a) < 2 ^ (k - 1)
signed_of_fits k a some h = signed_of_fits_by k a (nat_lt a (2 ^ (k - 1))) refl some h

-- sign extension keeps the signed reading
pub signed_of-extended_from : (k n a : ℕ) → 0 < k → k ≤ n → signed_of n (extended_from k n a) ≡ signed_of k (a % 2 ^ k)
signed_of-extended_from k n a some wider =
    let wide : 2 ^ (k - 1) ≤ 2 ^ (n - 1) = pow_mono (omega arith) in
    signed_of-word_of_signed n (signed_of k (a % 2 ^ k)) (omega arith) (omega (arith, wide, signed_of_fits k (a % 2 ^ k) some (mod-lt a (pow_pos k))))

-- ---- sign extension by bits

bit_at-low_part : (k a i high : ℕ) → i < k → bit_at (high * 2 ^ k + a % 2 ^ k) i ≡ bit_at a i
bit_at-low_part k a i high h = sym (bit_at-low k (high * 2 ^ k + a % 2 ^ k) i h) ∙ ap (λ x. bit_at x i) (mod_low high k (a % 2 ^ k) (mod-lt a (pow_pos k))) ∙ bit_at-low k a i h

bit_at-high_part : (k x i high : ℕ) → x < 2 ^ k → k ≤ i → bit_at (high * 2 ^ k + x) i ≡ bit_at high (i - k)
bit_at-high_part k x i high h l =
    let parts : i ≡ k + (i - k) = omega arith in
    ap (bit_at (high * 2 ^ k + x)) parts ∙ ap (λ y. y % 2) (sym (shr-shr (high * 2 ^ k + x) k (i - k))) ∙ ap (λ y. bit_at y (i - k)) (shr_high high k x h)

-- the word of a negative reading has ones above its low bits
extended-high : (k n x : ℕ) → k ≤ n → x < 2 ^ k → 2 ^ n - 1 - (2 ^ k - suc x) ≡ (2 ^ (n - k) - 1) * 2 ^ k + x
extended-high k n x wider h =
    let parts : n ≡ n - k + k = omega arith in
    let whole : 2 ^ n ≡ 2 ^ (n - k) * 2 ^ k = ap (λ j. 2 ^ j) parts ∙ pow-add 2 (n - k) k in
    ones_above (2 ^ n) (2 ^ (n - k)) (2 ^ k) x whole (pow_pos (n - k)) h
  where
    ones_above : (w p q y : ℕ) → w ≡ p * q → 0 < p → y < q → w - 1 - (q - suc y) ≡ (p - 1) * q + y
    ones_above w zero q y e some l = absurd (omega arith)
    ones_above w (suc p) q y e some l =
        let one : suc p * q ≡ p * q + q = grind arith in
        let less : (suc p - 1) * q ≡ p * q = ap (λ r. r * q) (omega arith) in
        omega (arith, e, one, less)

word-positive : (k n x : ℕ) → k ≤ n → x < 2 ^ (k - 1) → x < 2 ^ k → word_of_signed n (signed_of k x) ≡ 0 * 2 ^ k + x
word-positive k n x wider h l =
    let wide : 2 ^ k ≤ 2 ^ n = pow_mono wider in
    ap (word_of_signed n) (signed_of-low k x h) ∙ mod-eq_of_lt (omega (arith, wide)) ∙ omega arith

word-negative : (k n x : ℕ) → 0 < k → k ≤ n → 2 ^ (k - 1) ≤ x → x < 2 ^ k → word_of_signed n (signed_of k x) ≡ (2 ^ (n - k) - 1) * 2 ^ k + x
word-negative k n x some wider h l =
    let wide : 2 ^ k ≤ 2 ^ n = pow_mono wider in
    let within : (2 ^ k - suc x) % 2 ^ n ≡ 2 ^ k - suc x = mod-eq_of_lt (omega (arith, wide)) in
    ap (word_of_signed n) (signed_of-high k x h) ∙ ap (λ y. 2 ^ n - 1 - y) within ∙ extended-high k n x wider l

pub bit_at-extended_from-low : (k n a i : ℕ) → 0 < k → k ≤ n → i < k → bit_at (extended_from k n a) i ≡ bit_at a i
bit_at-extended_from-low k n a i some wider h =
    let below : a % 2 ^ k < 2 ^ k = mod-lt a (pow_pos k) in
    elim (cases_lt (a % 2 ^ k) (2 ^ (k - 1))) [
      | inl l ↦ ap (λ x. bit_at x i) (word-positive k n (a % 2 ^ k) wider l below) ∙ bit_at-low_part k a i 0 h
      | inr g ↦ ap (λ x. bit_at x i) (word-negative k n (a % 2 ^ k) some wider g below) ∙ bit_at-low_part k a i (2 ^ (n - k) - 1) h
    ]

-- the highest of k bits
top_bit-zero : (k x : ℕ) → x < 2 ^ (k - 1) → bit_at x (k - 1) ≡ 0
top_bit-zero k x h = bit_at_above x (k - 1) (k - 1) h (omega arith)

top_bit-one : (k x : ℕ) → 0 < k → 2 ^ (k - 1) ≤ x → x < 2 ^ k → bit_at x (k - 1) ≡ 1
top_bit-one k x some h l =
    let parts : 1 * 2 ^ (k - 1) + (x - 2 ^ (k - 1)) ≡ x = omega arith in
    ap (λ y. bit_at y (k - 1)) (sym parts) ∙ ap (λ y. y % 2) (shr_high 1 (k - 1) (x - 2 ^ (k - 1)) (omega (arith, half-twice k some)))

pub bit_at-extended_from-high : (k n a i : ℕ) → 0 < k → k ≤ i → i < n → bit_at (extended_from k n a) i ≡ bit_at a (k - 1)
bit_at-extended_from-high k n a i some above h =
    let below : a % 2 ^ k < 2 ^ k = mod-lt a (pow_pos k) in
    let same : bit_at (a % 2 ^ k) (k - 1) ≡ bit_at a (k - 1) = bit_at-low k a (k - 1) (omega arith) in
    elim (cases_lt (a % 2 ^ k) (2 ^ (k - 1))) [
      | inl l ↦ ap (λ x. bit_at x i) (word-positive k n (a % 2 ^ k) (omega arith) l below) ∙ bit_at-high_part k (a % 2 ^ k) i 0 below above
          ∙ bit_at-zero (i - k) ∙ sym (top_bit-zero k (a % 2 ^ k) l) ∙ same
      | inr g ↦ ap (λ x. bit_at x i) (word-negative k n (a % 2 ^ k) some (omega arith) g below) ∙ bit_at-high_part k (a % 2 ^ k) i (2 ^ (n - k) - 1) below above
          ∙ bit_at_ones (n - k) (i - k) (omega arith) ∙ sym (top_bit-one k (a % 2 ^ k) some g below) ∙ same
    ]
