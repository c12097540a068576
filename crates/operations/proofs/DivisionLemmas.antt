-- Division rounded down, of whole numbers with a sign.
use Rattle.std.proofs.Common.{neg_ℤ, subst, ℕ, zero, suc, ◌+◌, ◌*◌, ◌/◌, ◌<◌, ◌≤◌, pos, negsuc, ◌<ℤ◌, arith, ◌≡◌, ℤ, ◌+ℤ◌, ◌*ℤ◌, sym}
use Rattle.std.specs.Int.{int_div_euclid}
use Rattle.std.proofs.lemmas.Int.{ints}
use Rattle.std.proofs.Math.Nat.{div-mul-le_self, lt-div-mul-add}

below_product : (a n : ℕ) → n ≤ a → negsuc a <ℤ neg_ℤ (pos n)
below_product a zero l = omega (arith, ints)
below_product a (suc n) l = omega (arith, ints)

floor-step : (a q m : ℕ) → 0 < m → q * m ≤ a → negsuc a <ℤ ((negsuc q +ℤ pos 1) *ℤ pos m)
floor-step a zero m h l = omega (arith, ints)
floor-step a (suc q) (suc m) h l =
    let next : negsuc (suc q) +ℤ pos 1 ≡ negsuc q = omega (arith, ints) in
    subst (λ x. negsuc a <ℤ (x *ℤ pos (suc m))) (sym next) (below_product a (suc q * suc m) l)
floor-step a (suc q) zero h l = absurd (omega arith)

-- a number is less than the divisor times one more than the quotient
pub div_euclid_above : (a : ℤ) (m : ℕ) → 0 < m → a <ℤ ((int_div_euclid a (pos m) +ℤ pos 1) *ℤ pos m)
div_euclid_above (pos a) m h =
    let above : a < (a / m + 1) * m = omega (arith, lt-div-mul-add {a = a} {b = m} h) in omega (arith, ints, above)
div_euclid_above (negsuc a) m h = floor-step a (a / m) m h (div-mul-le_self a m)
