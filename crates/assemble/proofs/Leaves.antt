-- From what `parse` says to how a number is written.
use Rattle.std.proofs.Common.{◌≡◌, ◌<◌, ◌≤◌, ℕ, zero, suc, ◌^◌, ℤ, List, [], ◌∷◌, get_or, refl, sym, ap, subst, ◌∙◌, arith, inl, inr, rules, FitsSigned, of_z, to_z}
use Rattle.std.proofs.lemmas.Bool.Decides.{nat_tests}
use Rattle.std.proofs.lemmas.Int.{to_z-of_z}
use Rattle.std.proofs.lemmas.Str.{IsUtf8-from_ascii}
use Rattle.std.specs.Str.{IsUtf8}
use Rattle.std.specs.Int.{Width}
use Rattle.std.specs.Str.Parse.{IsNumeral, digits_value, signed_digits_value, without_leading_sign, without_leading_plus}
use Rattle.assemble.specs.Number.{numeral}
use Rattle.assemble.specs.Inside.Spelled.{IsUnsigned, IsNumber, IsSigned}
use Rattle.assemble.proofs.Numerals.{IsPlain, numeral_plain, number_plain, signed_plain, unsigned_is, number_is, signed_is, above, unsigned_digits}

plain_ascii : (ds : List ℕ) → IsPlain ds → (i : ℕ) → get_or ds i 0 < 128
plain_ascii [] h i = omega arith
plain_ascii (c ∷ cs) h zero = omega (arith, h.0.2)
plain_ascii (c ∷ cs) h (suc i) = plain_ascii cs h.1 i

-- the spelling of a number is UTF-8
pub number_text : (ds : List ℕ) → IsNumber ds → IsUtf8 ds
number_text ds h = IsUtf8-from_ascii ds (plain_ascii ds (subst (λ (x : List ℕ). IsPlain x) (number_is ds h) (number_plain (signed_digits_value 10 ds))))

-- the spelling of a number with its sign is UTF-8
pub signed_text : (ds : List ℕ) → IsSigned ds → IsUtf8 ds
signed_text ds h = IsUtf8-from_ascii ds (plain_ascii ds (subst (λ (x : List ℕ). IsPlain x) (signed_is ds h) (signed_plain (signed_digits_value 10 ds))))

-- the spelling of an unsigned number is UTF-8
pub unsigned_text : (ds : List ℕ) → IsUnsigned ds → IsUtf8 ds
unsigned_text ds h = IsUtf8-from_ascii ds (plain_ascii ds (subst (λ (x : List ℕ). IsPlain x) (unsigned_is ds h) (numeral_plain (digits_value 10 ds))))

bare : (c : ℕ) (cs : List ℕ) → 48 ≤ c → without_leading_sign (c ∷ cs) ≡ c ∷ cs
bare c cs le = search (rules, nat_tests)

-- after its minus, if it has one, a number has only digits
pub number_digits : (ds : List ℕ) → IsNumber ds → IsNumeral 10 (without_leading_sign ds)
number_digits [] h = absurd h
number_digits (c ∷ cs) (inl h) = subst (λ (x : ℕ). IsNumeral 10 (without_leading_sign (x ∷ cs))) (sym h.0) h.1.digits
number_digits (c ∷ cs) (inr h) = subst (λ (x : List ℕ). IsNumeral 10 x) (sym (bare c cs (above c cs h))) (unsigned_digits (c ∷ cs) h)

-- after its sign, a number has only digits
pub signed_digits : (ds : List ℕ) → IsSigned ds → IsNumeral 10 (without_leading_sign ds)
signed_digits [] h = absurd h
signed_digits (c ∷ cs) (inl h) = subst (λ (x : ℕ). IsNumeral 10 (without_leading_sign (x ∷ cs))) (sym h.0) (unsigned_digits cs h.1)
signed_digits (c ∷ cs) (inr h) = subst (λ (x : ℕ). IsNumeral 10 (without_leading_sign (x ∷ cs))) (sym h.0) h.1.digits

plus_bare : (c : ℕ) (cs : List ℕ) → 48 ≤ c → without_leading_plus (c ∷ cs) ≡ c ∷ cs
plus_bare c cs le = search (rules, nat_tests)

-- what spells a number without a sign begins with no plus
pub no_plus : (ds : List ℕ) → IsUnsigned ds → without_leading_plus ds ≡ ds
no_plus [] h = refl
no_plus (c ∷ cs) h = plus_bare c cs (above c cs h)

-- what `parse` reads of a number in range is written so, and fits
pub signed_ok : (w : Width) (f : ℤ → List ℕ) (b t : List ℕ) (z : ℤ) → t ≡ b → f (signed_digits_value 10 b) ≡ b → FitsSigned w (signed_digits_value 10 t) → z ≡ signed_digits_value 10 t
    → (b ≡ f (to_z w (of_z w z))) × FitsSigned w (to_z w (of_z w z))
signed_ok w f b t z te is fits e =
    let here : FitsSigned w z = subst (λ (x : ℤ). FitsSigned w x) (sym e) fits in
    let P : ℤ → Type 0 = λ y. (b ≡ f y) × FitsSigned w y in
    subst P (sym (to_z-of_z w z here)) (sym is ∙ ap f (ap (signed_digits_value 10) (sym te) ∙ sym e), here)

-- what it refuses is a number that doesn't fit
pub signed_out : (w : Width) (f : ℤ → List ℕ) (b t : List ℕ) → t ≡ b → f (signed_digits_value 10 b) ≡ b → IsNumeral 10 (without_leading_sign b) → ¬ (IsNumeral 10 (without_leading_sign t) × FitsSigned w (signed_digits_value 10 t))
    → (z : ℤ) × (b ≡ f z) × (¬ FitsSigned w z)
signed_out w f b t te is digits refused =
    (signed_digits_value 10 b, sym is, λ fits. refused (subst (λ (x : List ℕ). IsNumeral 10 (without_leading_sign x) × FitsSigned w (signed_digits_value 10 x)) (sym te) (digits, fits)))

same_value : (b t : List ℕ) → t ≡ b → IsUnsigned b → digits_value 10 (without_leading_plus t) ≡ digits_value 10 b
same_value b t te h = ap (λ (x : List ℕ). digits_value 10 (without_leading_plus x)) te ∙ ap (digits_value 10) (no_plus b h)

-- the same without a sign: what is read is written so, and fits 64 bits
pub unsigned_ok : (b t : List ℕ) (n : ℕ) → t ≡ b → IsUnsigned b → digits_value 10 (without_leading_plus t) < 2 ^ 64 → n ≡ digits_value 10 (without_leading_plus t)
    → (b ≡ numeral n) × (n < 2 ^ 64)
unsigned_ok b t n te h fits e =
    let same = same_value b t te h in
    (sym (unsigned_is b h) ∙ ap numeral (sym same ∙ sym e), omega arith)

-- and what is refused doesn't fit them
pub unsigned_out : (b t : List ℕ) → t ≡ b → IsUnsigned b → ¬ (IsNumeral 10 (without_leading_plus t) × (digits_value 10 (without_leading_plus t) < 2 ^ 64))
    → (n : ℕ) × (b ≡ numeral n) × (¬ (n < 2 ^ 64))
unsigned_out b t te h refused =
    let same = same_value b t te h in
    let digits : IsNumeral 10 (without_leading_plus t) = subst (λ (x : List ℕ). IsNumeral 10 x) (sym (ap without_leading_plus te ∙ no_plus b h)) (unsigned_digits b h) in
    (digits_value 10 b, sym (unsigned_is b h), λ fits. refused (digits, omega arith))
