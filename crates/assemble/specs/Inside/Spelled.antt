-- Which bytes spell a number.
use Rattle.std.specs.Prelude.{◌≡◌, ◌≢◌, ◌⊎◌, ℕ, List, [], ◌∷◌, slice_index}
use Rattle.std.specs.Str.Parse.{IsNumeral}

-- digits, the first of them not 0
pub record IsPositive (ds : List ℕ) : Type 0 where
  pub digits : IsNumeral 10 ds
  pub first : slice_index ds 0 ≢ 48

-- 0, or such digits
abbrev pub IsUnsigned : List ℕ → Type 0
IsUnsigned ds = (ds ≡ 48 ∷ []) ⊎ IsPositive ds

-- an unsigned number, or a minus and digits of which the first is not 0
abbrev pub IsNumber : List ℕ → Type 0
IsNumber [] = ⊥
IsNumber (c ∷ cs) = ((c ≡ 45) × IsPositive cs) ⊎ IsUnsigned (c ∷ cs)

-- a plus and an unsigned number, or a minus and digits of which the first is not 0
abbrev pub IsSigned : List ℕ → Type 0
IsSigned [] = ⊥
IsSigned (c ∷ cs) = ((c ≡ 43) × IsUnsigned cs) ⊎ ((c ≡ 45) × IsPositive cs)
