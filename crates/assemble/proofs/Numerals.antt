-- A number is written in one way, which spells it.
use Rattle.std.proofs.Common.{◌≡◌, ◌≢◌, ◌<◌, ◌≤◌, ℕ, zero, suc, ◌+◌, ◌*◌, ◌/◌, ◌%◌, ◌^◌, ℤ, pos, negsuc, List, [], ◌∷◌, ◌++◌, length, get_or, refl, sym, ap, subst, ◌∙◌, arith, append_assoc, inl, inr, rules}
use Rattle.std.proofs.lemmas.Bool.{cases_lt}
use Rattle.std.proofs.lemmas.Bool.Decides.{nat_tests}
use Rattle.std.specs.Prelude.{neg_ℤ, false, nat_lt, if◌then◌else◌}
use Rattle.std.proofs.lemmas.List.{append-nil, length-append}
use Rattle.std.proofs.lemmas.Fmt.{AppendsLastDigit, decimal_from_appends, length-decimal-le_succ}
use Rattle.std.proofs.lemmas.Int.Digits.{digits_value_push}
use Rattle.std.specs.Fmt.{decimal, digit_glyph, digits_onto}
use Rattle.std.specs.Char.{digit_value}
use Rattle.std.specs.Str.Parse.{AllDigits, IsNumeral, digits_value, digits_value_after, signed_digits_value}
use Rattle.assemble.specs.Number.{numeral, number, with_sign}
use Rattle.assemble.specs.Inside.Spelled.{IsPositive, IsUnsigned, IsNumber, IsSigned}

-- the digits of n, for a number of at most k digits
abbrev numeral_within : ℕ → ℕ → List ℕ
numeral_within zero n = []
numeral_within (suc k) n = if nat_lt n 10 then (48 + n) ∷ [] else numeral_within k (n / 10) ++ ((48 + n % 10) ∷ [])

appends : AppendsLastDigit numeral_within
appends = search rules

within_one : (k n : ℕ) → n < 10 → numeral_within (suc k) n ≡ (48 + n) ∷ []
within_one k n lt = appends.one k n lt

within_more : (k n : ℕ) → 10 ≤ n → numeral_within (suc k) n ≡ numeral_within k (n / 10) ++ ((48 + n % 10) ∷ [])
within_more k n le = appends.more k n le

stable : (k j n : ℕ) → n < k → n < j → numeral_within k n ≡ numeral_within j n
stable zero j n a b = absurd (omega arith)
stable (suc k) zero n a b = absurd (omega arith)
stable (suc k) (suc j) n a b = elim (cases_lt n 10) [
  | inl lt ↦ within_one k n lt ∙ sym (within_one j n lt)
  | inr le ↦ within_more k n le ∙ ap (λ (x : List ℕ). x ++ ((48 + n % 10) ∷ [])) (stable k j (n / 10) (omega arith) (omega arith)) ∙ sym (within_more j n le)
]

glyph : (d : ℕ) → d < 10 → digit_glyph false d ≡ 48 + d
glyph d lt = search (rules, nat_tests)

-- the digits are written from the last on
onto_last : (k n : ℕ) (acc : List ℕ) → n < 10 → digits_onto (suc k) 10 false n acc ≡ (48 + n) ∷ acc
onto_last k n acc lt =
    let none : n / 10 ≡ 0 = omega arith in
    let same : n % 10 ≡ n = omega arith in
    digits_end k n acc none ∙ ap (λ (d : ℕ). digit_glyph false d ∷ acc) same ∙ ap (λ (d : ℕ). d ∷ acc) (glyph n lt)
  where
    digits_end : (k n : ℕ) (acc : List ℕ) → n / 10 ≡ 0 → digits_onto (suc k) 10 false n acc ≡ digit_glyph false (n % 10) ∷ acc
    digits_end k n acc e = search (rules, nat_tests)

onto_more : (k n : ℕ) (acc : List ℕ) → 10 ≤ n → digits_onto (suc k) 10 false n acc ≡ digits_onto k 10 false (n / 10) ((48 + n % 10) ∷ acc)
onto_more k n acc le =
    let some : n / 10 ≢ 0 = λ e. absurd (omega arith) in
    digits_on k n acc some ∙ ap (λ (d : ℕ). digits_onto k 10 false (n / 10) (d ∷ acc)) (glyph (n % 10) (omega arith))
  where
    digits_on : (k n : ℕ) (acc : List ℕ) → n / 10 ≢ 0 → digits_onto (suc k) 10 false n acc ≡ digits_onto k 10 false (n / 10) (digit_glyph false (n % 10) ∷ acc)
    digits_on k n acc e = search (rules, nat_tests)

onto_is : (k n : ℕ) (acc : List ℕ) → n < k → digits_onto k 10 false n acc ≡ numeral_within k n ++ acc
onto_is zero n acc lt = absurd (omega arith)
onto_is (suc k) n acc lt = elim (cases_lt n 10) [
  | inl small ↦ onto_last k n acc small ∙ ap (λ (x : List ℕ). x ++ acc) (sym (within_one k n small))
  | inr le ↦ onto_more k n acc le ∙ onto_is k (n / 10) ((48 + n % 10) ∷ acc) (omega arith) ∙ sym (append_assoc (numeral_within k (n / 10)) ((48 + n % 10) ∷ []) acc)
      ∙ ap (λ (x : List ℕ). x ++ acc) (sym (within_more k n le))
]

numeral_is : (n : ℕ) → numeral n ≡ numeral_within (suc n) n
unfolding numeral
numeral_is n = onto_is (suc n) n [] (omega arith) ∙ append-nil (numeral_within (suc n) n)

-- below 2 ^ 64 a numeral is std's decimal
pub numeral-decimal : (n : ℕ) → n < 2 ^ 64 → numeral n ≡ decimal n
numeral-decimal n lt = numeral_is n ∙ decimal_from_appends numeral_within appends (suc n) n lt (omega (arith, length-decimal-le_succ n lt))

pub one_digit : (n : ℕ) → n < 10 → numeral n ≡ (48 + n) ∷ []
one_digit n lt = numeral_is n ∙ within_one n n lt

last_digit : (n : ℕ) → 10 ≤ n → numeral n ≡ numeral (n / 10) ++ ((48 + n % 10) ∷ [])
last_digit n le = numeral_is n ∙ within_more n n le ∙ ap (λ (x : List ℕ). x ++ ((48 + n % 10) ∷ [])) (stable n (suc (n / 10)) (n / 10) (omega arith) (omega arith) ∙ sym (numeral_is (n / 10)))

push : (n d : ℕ) → 0 < n → d < 10 → numeral (n * 10 + d) ≡ numeral n ++ ((48 + d) ∷ [])
push n d some small =
    let front : (n * 10 + d) / 10 ≡ n = omega arith in
    let last : (n * 10 + d) % 10 ≡ d = omega arith in
    last_digit (n * 10 + d) (omega arith) ∙ (λ i. numeral (front i) ++ ((48 + last i) ∷ []))

-- ---- what a numeral is

pub record Spells (n : ℕ) (ds : List ℕ) : Type 0 where
  pub digits : AllDigits 10 ds
  pub some : 0 < length ds
  pub value : digits_value 10 ds ≡ n
  pub first : 0 < n → get_or ds 0 0 ≢ 48

digit_at : (d : ℕ) → d < 10 → digit_value (48 + d) ≡ d
digit_at d lt = grind arith

-- a digit is '0' and its value
pub digit : (c : ℕ) → digit_value c < 10 → 48 + digit_value c ≡ c
digit c lt = grind arith

digits_push : (ds : List ℕ) (d : ℕ) → AllDigits 10 ds → d < 10 → AllDigits 10 (ds ++ ((48 + d) ∷ []))
digits_push [] d h lt = (omega (arith, digit_at d lt), tt)
digits_push (c ∷ cs) d h lt = (h.0, digits_push cs d h.1 lt)

first_push : (ds : List ℕ) (d : ℕ) → 0 < length ds → get_or ds 0 0 ≢ 48 → get_or (ds ++ ((48 + d) ∷ [])) 0 0 ≢ 48
first_push [] d some h = absurd (omega arith)
first_push (c ∷ cs) d some h = h

spells_one : (n : ℕ) → n < 10 → Spells n (numeral n)
spells_one n small =
    let value = digit_at n small in
    subst (λ (ds : List ℕ). Spells n ds) (sym (one_digit n small)) (record {
      digits = (omega arith, tt);
      some = omega arith;
      value = omega arith;
      first = λ pos e. absurd (omega arith);
    })

spells_more : (n : ℕ) → 10 ≤ n → Spells (n / 10) (numeral (n / 10)) → Spells n (numeral n)
spells_more n large front =
    let value = digits_value_push 10 (numeral (n / 10)) (48 + n % 10) in
    let last = digit_at (n % 10) (omega arith) in
    subst (λ (ds : List ℕ). Spells n ds) (sym (last_digit n large)) (record {
      digits = digits_push (numeral (n / 10)) (n % 10) front.digits (omega arith);
      some = omega (arith, length-append (numeral (n / 10)) ((48 + n % 10) ∷ []));
      value = omega (arith, front.value);
      first = λ pos. first_push (numeral (n / 10)) (n % 10) front.some (front.first (omega arith));
    })

spells_within : (k n : ℕ) → n < k → Spells n (numeral n)
spells_within zero n lt = absurd (omega arith)
spells_within (suc k) n lt = elim (cases_lt n 10) [
  | inl small ↦ spells_one n small
  | inr large ↦ spells_more n large (spells_within k (n / 10) (omega arith))
]

-- a numeral has digits, some, without a leading zero, and their value is its number
pub spells : (n : ℕ) → Spells n (numeral n)
spells n = spells_within (suc n) n (omega arith)

pub numeral_once : (m n : ℕ) → numeral m ≡ numeral n → m ≡ n
numeral_once m n e = sym (spells m).value ∙ ap (digits_value 10) e ∙ (spells n).value

-- a number above 0 is written without a leading zero
pub positive : (n : ℕ) → IsPositive (numeral (suc n))
positive n = let s = spells (suc n) in record { digits = (s.some, s.digits); first = s.first (omega arith) }

-- a numeral is 0, or has no leading zero
pub unsigned : (n : ℕ) → IsUnsigned (numeral n)
unsigned zero = inl (one_digit 0 (omega arith))
unsigned (suc n) = inr (positive n)

-- ---- what spells a number is its numeral

follow : (n : ℕ) (ds : List ℕ) → 0 < n → AllDigits 10 ds → numeral (digits_value_after 10 n ds) ≡ numeral n ++ ds
follow n [] some h = sym (search rules)
follow n (c ∷ cs) some h =
    let is = digit c h.0 in
    follow (n * 10 + digit_value c) cs (omega arith) h.1
    ∙ ap (λ (x : List ℕ). x ++ cs) (push n (digit_value c) some h.0 ∙ ap (λ d. numeral n ++ (d ∷ [])) is)
    ∙ append_assoc (numeral n) (c ∷ []) cs

grows : (n : ℕ) (ds : List ℕ) → 0 < n → 0 < digits_value_after 10 n ds
grows n [] some = some
grows n (c ∷ cs) some = grows (n * 10 + digit_value c) cs (omega arith)

first_digit : (c : ℕ) (cs : List ℕ) → IsPositive (c ∷ cs) → (digit_value c < 10) × (0 < digit_value c)
first_digit c cs p = let is = digit c p.digits.1.0 in (p.digits.1.0, omega (arith, p.first))

-- digits without a leading zero are the numeral of their value, which is above 0
pub positive_is : (ds : List ℕ) → IsPositive ds → (numeral (digits_value 10 ds) ≡ ds) × (0 < digits_value 10 ds)
positive_is [] p = absurd (omega (arith, p.digits.0))
positive_is (c ∷ cs) p =
    let d = first_digit c cs p in
    let one : numeral (digit_value c) ≡ c ∷ [] = one_digit (digit_value c) d.0 ∙ ap (λ (x : ℕ). let l : List ℕ = x ∷ [] in l) (digit c d.0) in
    let same : 0 * 10 + digit_value c ≡ digit_value c = omega arith in
    let all = follow (digit_value c) cs d.1 p.digits.1.1 ∙ ap (λ (x : List ℕ). x ++ cs) one in
    let whole : digits_value 10 (c ∷ cs) ≡ digits_value_after 10 (digit_value c) cs = ap (λ m. digits_value_after 10 m cs) same in
    (ap numeral whole ∙ all, subst (λ (m : ℕ). 0 < m) (sym whole) (grows (digit_value c) cs d.1))

-- what spells a number without a sign is its numeral
pub unsigned_is : (ds : List ℕ) → IsUnsigned ds → numeral (digits_value 10 ds) ≡ ds
unsigned_is ds (inl zero_is) = subst (λ (x : List ℕ). numeral (digits_value 10 x) ≡ x) (sym zero_is) (one_digit 0 (omega arith))
unsigned_is ds (inr p) = (positive_is ds p).0

no_minus : (n : ℕ) (ds : List ℕ) → numeral n ≡ 45 ∷ ds → ⊥
no_minus n ds e =
    let digits : AllDigits 10 (45 ∷ ds) = subst (λ (x : List ℕ). AllDigits 10 x) e (spells n).digits in
    absurd (omega (arith, digit 45 digits.0))

unsigned_some : (ds : List ℕ) → IsUnsigned ds → IsNumber ds
unsigned_some [] (inl e) = absurd cc
unsigned_some [] (inr p) = absurd (omega (arith, p.digits.0))
unsigned_some (c ∷ cs) h = inr h

-- what is written of a number spells one
pub number_spelled : (z : ℤ) → IsNumber (number z)
number_spelled (pos n) = unsigned_some (numeral n) (unsigned n)
number_spelled (negsuc n) = inl (refl, positive n)

-- the text of a number with its sign spells one
pub signed_spelled : (z : ℤ) → IsSigned (with_sign z)
signed_spelled (pos n) = inl (refl, unsigned n)
signed_spelled (negsuc n) = inr (refl, positive n)

-- what spells a number without a sign has digits alone
pub unsigned_digits : (ds : List ℕ) → IsUnsigned ds → IsNumeral 10 ds
unsigned_digits ds (inl e) = subst (λ (x : List ℕ). IsNumeral 10 x) (sym e) (omega arith, (omega arith, tt))
unsigned_digits ds (inr p) = p.digits

-- what spells one begins with no byte below '0', so with no sign
pub above : (c : ℕ) (cs : List ℕ) → IsUnsigned (c ∷ cs) → 48 ≤ c
above c cs (inl e) = let is : c ≡ 48 = cc in omega arith
above c cs (inr p) = omega (arith, digit c p.digits.1.0)

plain : (c : ℕ) (cs : List ℕ) → 48 ≤ c → signed_digits_value 10 (c ∷ cs) ≡ pos (digits_value 10 (c ∷ cs))
plain c cs le = search (rules, nat_tests)

negated : (n : ℕ) → 0 < n → (number (neg_ℤ (pos n)) ≡ 45 ∷ numeral n) × (with_sign (neg_ℤ (pos n)) ≡ 45 ∷ numeral n)
negated zero some = absurd (omega arith)
negated (suc n) some = (refl, refl)

negative : (cs : List ℕ) → IsPositive cs → (number (neg_ℤ (pos (digits_value 10 cs))) ≡ 45 ∷ cs) × (with_sign (neg_ℤ (pos (digits_value 10 cs))) ≡ 45 ∷ cs)
negative cs p =
    let is = positive_is cs p in
    let both = negated (digits_value 10 cs) is.1 in
    (both.0 ∙ ap (λ (x : List ℕ). 45 ∷ x) is.0, both.1 ∙ ap (λ (x : List ℕ). 45 ∷ x) is.0)

-- what spells a number is what is written of it
pub number_is : (ds : List ℕ) → IsNumber ds → number (signed_digits_value 10 ds) ≡ ds
number_is [] h = absurd h
number_is (c ∷ cs) (inl h) = subst (λ (x : ℕ). number (signed_digits_value 10 (x ∷ cs)) ≡ x ∷ cs) (sym h.0) (negative cs h.1).0
number_is (c ∷ cs) (inr h) = ap number (plain c cs (above c cs h)) ∙ unsigned_is (c ∷ cs) h

-- the spelling of a number with its sign is the text that is written for it
pub signed_is : (ds : List ℕ) → IsSigned ds → with_sign (signed_digits_value 10 ds) ≡ ds
signed_is [] h = absurd h
signed_is (c ∷ cs) (inl h) = subst (λ (x : ℕ). with_sign (signed_digits_value 10 (x ∷ cs)) ≡ x ∷ cs) (sym h.0) (ap (λ (x : List ℕ). 43 ∷ x) (unsigned_is cs h.1))
signed_is (c ∷ cs) (inr h) = subst (λ (x : ℕ). with_sign (signed_digits_value 10 (x ∷ cs)) ≡ x ∷ cs) (sym h.0) (negative cs h.1).1

pub number_once : (y z : ℤ) → number y ≡ number z → y ≡ z
number_once (pos m) (pos n) e = ap (λ (k : ℕ). pos k) (numeral_once m n e)
number_once (pos m) (negsuc n) e = absurd (no_minus m (numeral (suc n)) e)
number_once (negsuc m) (pos n) e = absurd (no_minus n (numeral (suc m)) (sym e))
number_once (negsuc m) (negsuc n) e =
    let same : numeral (suc m) ≡ numeral (suc n) = cc in
    let once = numeral_once (suc m) (suc n) same in
    ap (λ (k : ℕ). negsuc k) (omega arith)

same_head : (a b : ℕ) (x y : List ℕ) → a ∷ x ≡ b ∷ y → a ≡ b
same_head a b x y e = cc

pub signed_once : (y z : ℤ) → with_sign y ≡ with_sign z → y ≡ z
signed_once (pos m) (pos n) e = let same : numeral m ≡ numeral n = cc in ap (λ (k : ℕ). pos k) (numeral_once m n same)
signed_once (pos m) (negsuc n) e = let other = same_head 43 45 (numeral m) (numeral (suc n)) e in absurd (omega arith)
signed_once (negsuc m) (pos n) e = let other = same_head 45 43 (numeral (suc m)) (numeral n) e in absurd (omega arith)
signed_once (negsuc m) (negsuc n) e =
    let same : numeral (suc m) ≡ numeral (suc n) = cc in
    let once = numeral_once (suc m) (suc n) same in
    ap (λ (k : ℕ). negsuc k) (omega arith)

-- ---- the bytes of numbers

-- a digit or a sign
abbrev pub IsPlain : List ℕ → Type 0
IsPlain [] = Unit {0}
IsPlain (c ∷ cs) = ((43 ≤ c) × (c ≢ 44) × (c ≤ 57)) × IsPlain cs

digits_plain : (ds : List ℕ) → AllDigits 10 ds → IsPlain ds
digits_plain [] h = tt
digits_plain (c ∷ cs) h = let is = digit c h.0 in ((omega arith, omega arith, omega arith), digits_plain cs h.1)

-- a numeral has such bytes alone
pub numeral_plain : (n : ℕ) → IsPlain (numeral n)
numeral_plain n = digits_plain (numeral n) (spells n).digits

pub number_plain : (z : ℤ) → IsPlain (number z)
number_plain (pos n) = numeral_plain n
number_plain (negsuc n) = ((omega arith, omega arith, omega arith), numeral_plain (suc n))

pub signed_plain : (z : ℤ) → IsPlain (with_sign z)
signed_plain (pos n) = ((omega arith, omega arith, omega arith), numeral_plain n)
signed_plain (negsuc n) = ((omega arith, omega arith, omega arith), numeral_plain (suc n))
