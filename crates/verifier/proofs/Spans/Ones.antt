-- Runs of ones.
use Rattle.std.proofs.Common.{◌≡◌, ℕ, zero, suc, ◌-◌, ◌*◌, ◌<◌, ◌≤◌, ◌^◌, true, false, refl, sym, ap, ◌∙◌, ⊎_elim, arith}
use Rattle.std.specs.Prelude.{nat_lt, if◌then◌else◌}
use Rattle.std.proofs.lemmas.Bool.{cases_lt}
use Rattle.std.proofs.lemmas.Bool.Decides.{nat_tests}
use Rattle.std.proofs.Math.Pow.{pow_mono}
use Rattle.spans.specs.Span.{ones}

-- a number that has k bits, of at most n, needs k ones
pub ones_of : (n k m : ℕ) → k ≤ n → m < 2 ^ k → ((j : ℕ) → j < k → 2 ^ j ≤ m) → ones n m ≡ 2 ^ k - 1
ones_of zero k m le lt h = let e : k ≡ 0 = omega arith in sym (ap (λ x. 2 ^ x - 1) e)
ones_of (suc n) k m le lt h = let less = λ (l : k ≤ n). ones_of n k m l lt h in ⊎_elim (fewer less) all (cases_lt k (suc n))
  where
    fewer : (k ≤ n → ones n m ≡ 2 ^ k - 1) → k < suc n → (if nat_lt m (2 ^ n) then ones n m else 2 ^ suc n - 1) ≡ 2 ^ k - 1
    fewer less l =
        let p : 2 ^ k ≤ 2 ^ n = pow_mono {i = k} {j = n} (omega arith) in
        let t : nat_lt m (2 ^ n) ≡ true = grind (arith, nat_tests) in
        ap (λ b. if b then ones n m else 2 ^ suc n - 1) t ∙ less (omega arith)

    all : suc n ≤ k → (if nat_lt m (2 ^ n) then ones n m else 2 ^ suc n - 1) ≡ 2 ^ k - 1
    all l =
        let e : k ≡ suc n = omega arith in
        let p : 2 ^ n ≤ m = h n (omega arith) in
        let t : nat_lt m (2 ^ n) ≡ false = grind (arith, nat_tests) in
        ap (λ b. if b then ones n m else 2 ^ suc n - 1) t ∙ sym (ap (λ x. 2 ^ x - 1) e)

-- a product of numbers that are no greater
pub product_below : (x y p q : ℕ) → x ≤ y → p ≤ q → x * p ≤ y * q
product_below x y p q h k =
    let one : x * p ≤ x * q = grind arith in
    let two : x * q ≤ y * q = grind arith in
    omega arith

-- a number that has n bits at least
pub ones_all : (n m : ℕ) → ((j : ℕ) → j < n → 2 ^ j ≤ m) → ones n m ≡ 2 ^ n - 1
ones_all zero m h = refl
ones_all (suc n) m h =
    let p : 2 ^ n ≤ m = h n (omega arith) in
    let t : nat_lt m (2 ^ n) ≡ false = grind (arith, nat_tests) in
    ap (λ b. if b then ones n m else 2 ^ suc n - 1) t
