-- Numbers are written in one way.
use Rattle.std.proofs.Common.{◌≡◌, ◌≢◌, ◌<◌, ◌^◌, ℕ, zero, suc, Bool, true, false, List, [], ◌∷◌, length, get_or, Result, Ok, Err, OkIff, refl, sym, ap, subst, ◌∙◌, arith, rules}
use Rattle.std.specs.Prelude.{◌&&◌, not, nat_lt}
use Rattle.std.specs.Fmt.{decimal}
use Rattle.std.specs.Char.{is_ascii_digit}
use Rattle.std.specs.List.{list_all}
use Rattle.std.specs.Str.Parse.{digits_value, ParsesUnsigned}
use Rattle.std.proofs.lemmas.Bool.Decides.{nat_tests}
use Rattle.std.proofs.lemmas.Str.Parse.{IsNumeralModel, IsDigitsTest, numerals_by_value, parse_digits}
use Rattle.std.proofs.lemmas.Fmt.{digits_decimal, decimal-digits_value, decimal_nonempty, first_decimal, parse-decimal, decimal_digit}
use Rattle.scenario.specs.Inside.Reads.{has_leading_zero, is_numeral}

AreDigits : List ℕ → Type 0
AreDigits ds = list_all is_ascii_digit ds ≡ true

test : IsDigitsTest (λ ds. list_all is_ascii_digit ds ≡ true)
test = search rules

own : IsNumeralModel (λ ds. list_all is_ascii_digit ds ≡ true) (digits_value 10)
own = numerals_by_value _ test

and_both : (a b : Bool) → (a && b) ≡ true → (a ≡ true) × (b ≡ true)
and_both true b e = (refl, e)
and_both false b e = absurd cc

both_and : (a b : Bool) → a ≡ true → b ≡ true → (a && b) ≡ true
both_and true b p q = q
both_and false b p q = absurd cc

no_leading : (ds : List ℕ) → 48 < get_or ds 0 0 → not (has_leading_zero ds) ≡ true
no_leading [] lt = refl
no_leading (c ∷ cs) lt = grind arith

no_zero : not (has_leading_zero (decimal 0)) ≡ true
no_zero = ap (λ ds. not (has_leading_zero ds)) (decimal_digit 0 (omega arith))

leads : (n : ℕ) → n < 2 ^ 64 → not (has_leading_zero (decimal n)) ≡ true
leads zero lt = no_zero
leads (suc n) lt = no_leading (decimal (suc n)) (first_decimal (suc n) (omega arith) lt)

is_some : (ds : List ℕ) → 0 < length ds → nat_lt 0 (length ds) ≡ true
is_some ds lt = search (rules, nat_tests)

numeral_decimal : (n : ℕ) → n < 2 ^ 64 → is_numeral (decimal n) ≡ true
numeral_decimal n lt = both_and _ _ (is_some (decimal n) (decimal_nonempty n lt)) (both_and _ _ (leads n lt) (digits_decimal own n lt))

-- what is no numeral is no number
pub no_numeral : (text : List ℕ) (n : ℕ) → n < 2 ^ 64 → is_numeral text ≡ false → text ≢ decimal n
no_numeral text n lt e is = absurd (let yes : is_numeral text ≡ true = ap is_numeral is ∙ numeral_decimal n lt in cc)

alone : (ds : List ℕ) → not (has_leading_zero ds) ≡ true → get_or ds 0 0 ≡ 48 → 0 < length ds → length ds ≡ 1
alone [] e is lt = absurd (omega (arith, lt))
alone (c ∷ cs) e is lt = grind (arith, e, is)

-- digits are those of their value
pub numeral_ok : {E : Type 0} (k : ℕ) (bs : List ℕ) (r : Result ℕ E) (n : ℕ) → ((m : ℕ) → m < 2 ^ k → m < 2 ^ 64) → is_numeral bs ≡ true → ParsesUnsigned k 10 bs r → r ≡ Ok n
    → (bs ≡ decimal n) × (n < 2 ^ k)
numeral_ok {E = E} k bs r n small e parses is =
    let parts = and_both _ _ e in
    let more = and_both _ _ parts.1 in
    let good : ((0 < length bs) × (digits_value 10 bs < 2 ^ k)) × (n ≡ digits_value 10 bs) =
    subst (λ (x : Result ℕ E). OkIff x ((0 < length bs) × (digits_value 10 bs < 2 ^ k)) (digits_value 10 bs)) is (parse_digits own k bs r parses more.1) in
    let value : decimal (digits_value 10 bs) ≡ bs =
    decimal-digits_value own bs more.1 good.0.0 (λ zero. alone bs more.0 zero good.0.0) (small (digits_value 10 bs) good.0.1) in
    (sym value ∙ ap decimal (sym good.1), subst (λ (m : ℕ). m < 2 ^ k) (sym good.1) good.0.1)

-- what `parse` refuses is no number of k bits
pub numeral_out : {E : Type 0} (k : ℕ) (bs : List ℕ) (r : Result ℕ E) (x : E) → ((m : ℕ) → m < 2 ^ k → m < 2 ^ 64) → ParsesUnsigned k 10 bs r → r ≡ Err x
    → (n : ℕ) → n < 2 ^ k → bs ≢ decimal n
numeral_out k bs r x small parses is n lt e = absurd (let ok : r ≡ Ok n = parse-decimal k n bs r lt (small n lt) e parses in cc)
