-- What `{}` writes.
use Rattle.std.proofs.Common.{◌≡◌, ◌<◌, ◌^◌, ℕ, ℤ, pos, negsuc, suc, List, ◌∷◌, sym, ap, FitsSigned, arith}
use Rattle.std.specs.Int.{w32}
use Rattle.std.specs.Fmt.{decimal, signed_decimal}
use Rattle.assemble.specs.Number.{numeral, number}
use Rattle.assemble.proofs.Numerals.{numeral-decimal}

-- what `{}` writes of a number of 64 bits is its numeral
pub numeral_is : (n : ℕ) → n < 2 ^ 64 → decimal n ≡ numeral n
numeral_is n lt = sym (numeral-decimal n lt)

-- what it writes of an immediate is the number as lines have it
pub number_decimal : (z : ℤ) → FitsSigned w32 z → signed_decimal z ≡ number z
number_decimal (pos n) fits = sym (numeral-decimal n (omega (arith, fits.sfits)))
number_decimal (negsuc n) fits = ap (λ (x : List ℕ). 45 ∷ x) (sym (numeral-decimal (suc n) (omega (arith, fits.sfits))))
