-- A bit for each of some numbers
use Rattle.std.proofs.Common.{◌≡◌, ◌∙◌, sym, ℕ, zero, suc, ◌+◌, ◌*◌, ◌^◌, ◌<◌, ◌≤◌, Bool, true, false, ap, add-one, arith}
use Rattle.std.specs.Prelude.{if◌then◌else◌}
use Rattle.std.proofs.Math.Pow.{pow_mono}
use Rattle.recovery.specs.Queries.{bits_of}

pub bits-next : (f : ℕ → Bool) (d : ℕ) → bits_of f (d + 1) ≡ bits_of f d + (if f d then 2 ^ d else 0)
bits-next f d = ap (bits_of f) (add-one d)

pub bits-low : (f : ℕ → Bool) (d : ℕ) → bits_of f d < 2 ^ d
bits-low f zero = omega arith
bits-low f (suc d) = by-test (f d) (bits-low f d)
  where
    by-test : (b : Bool) → bits_of f d < 2 ^ d → bits_of f d + (if b then 2 ^ d else 0) < 2 ^ suc d
    by-test true below = omega (arith, below)
    by-test false below = omega (arith, below)

-- of sixteen numbers
pub bits-small : (f : ℕ → Bool) (d : ℕ) → d ≤ 16 → (bits_of f d < 65536) × (2 ^ d ≤ 65536)
bits-small f d h = let p : 2 ^ d ≤ 2 ^ 16 = pow_mono h in (omega (arith, p, bits-low f d), omega (arith, p))

module _ (f : ℕ → Bool) (d peers : ℕ) (is : peers ≡ bits_of f d) where
  -- with the bit of the next number, or without it
  pub bits-more : (new : ℕ) → f d ≡ true → new ≡ peers + 2 ^ d → new ≡ bits_of f (d + 1)
  bits-more new e n = n ∙ ap (λ (k : ℕ). k + 2 ^ d) is ∙ sym (bits-next f d ∙ ap (λ (b : Bool). bits_of f d + (if b then 2 ^ d else 0)) e)

  pub bits-same : (new : ℕ) → f d ≡ false → new ≡ peers → new ≡ bits_of f (d + 1)
  bits-same new e n =
      let none : bits_of f (d + 1) ≡ bits_of f d + 0 = bits-next f d ∙ ap (λ (b : Bool). bits_of f d + (if b then 2 ^ d else 0)) e in
      omega (arith, n, is, none)

pub bit-next : (d bit : ℕ) → bit ≡ 2 ^ d → bit * 2 ≡ 2 ^ (d + 1)
bit-next d bit e = let next : 2 ^ (d + 1) ≡ 2 ^ suc d = ap (λ (k : ℕ). 2 ^ k) (add-one d) in omega (arith, next, e)
