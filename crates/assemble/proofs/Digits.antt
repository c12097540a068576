-- Tests of digits.
use Rattle.std.proofs.Common.{◌≡◌, ◌<◌, ℕ, Bool, true, false, List, [], ◌∷◌, refl, arith}
use Rattle.std.specs.Prelude.{◌&&◌}
use Rattle.std.specs.List.{list_all}
use Rattle.std.specs.Char.{digit_value, is_ascii_digit}
use Rattle.std.specs.Str.Parse.{AllDigits}

digit : (c : ℕ) → is_ascii_digit c ≡ true → digit_value c < 10
digit c e = grind arith

no_other : (c : ℕ) → digit_value c < 10 → is_ascii_digit c ≡ true
no_other c lt = grind arith

and_both : (a b : Bool) → (a && b) ≡ true → (a ≡ true) × (b ≡ true)
and_both true b e = (refl, e)
and_both false b e = absurd cc

both_and : (a b : Bool) → a ≡ true → b ≡ true → (a && b) ≡ true
both_and true b p q = q
both_and false b p q = absurd cc

-- where each byte passes std's test, all are digits
pub all_digits : (ds : List ℕ) → list_all is_ascii_digit ds ≡ true → AllDigits 10 ds
all_digits [] e = tt
all_digits (c ∷ cs) e = let both = and_both (is_ascii_digit c) (list_all is_ascii_digit cs) e in (digit c both.0, all_digits cs both.1)

-- digits pass it
pub digits_all : (ds : List ℕ) → AllDigits 10 ds → list_all is_ascii_digit ds ≡ true
digits_all [] h = refl
digits_all (c ∷ cs) h = both_and (is_ascii_digit c) (list_all is_ascii_digit cs) (no_other c h.0) (digits_all cs h.1)
