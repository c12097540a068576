-- What is written for an operand, and pairs of operands.
use Rattle.std.proofs.Common.{◌≡◌, ◌≢◌, ◌<◌, ◌≤◌, ℕ, ◌+◌, ℤ, pos, negsuc, List, [], ◌∷◌, ◌++◌, length, refl, sym, ap, subst, ◌∙◌, arith, inl, inr, rules, FitsSigned, append_assoc, Result, Ok, Err}
use Rattle.std.proofs.lemmas.Bool.{cases_lt}
use Rattle.std.proofs.lemmas.List.{length-append}
use Rattle.std.specs.Int.{w32}
use Rattle.std.specs.Str.Parse.{AllDigits}
use Rattle.decode.specs.Encoding.{OperandFits}
use Rattle.std.proofs.lemmas.Bool.Decides.{nat_tests}
use Rattle.std.specs.Prelude.{codes, ◌==◌, if◌then◌else◌}
use Rattle.decode.specs.declared.insn.Reg.{Reg}
use Rattle.decode.specs.declared.insn.Operand.{Operand}
use Rattle.decode.specs.declared.insn.Operand.TheVariants as operand
use Rattle.assemble.specs.declared.fault.TextFault.{TextFault}
use Rattle.assemble.specs.declared.fault.TextFault.TheVariants.{Shape, Range}
use Rattle.assemble.specs.Inside.Reads.{Reads, both_of}
use Rattle.assemble.specs.Number.{numeral, number, with_sign}
use Rattle.assemble.specs.Inside.Split.{IsSplit, LacksSign, BeginsWithSign, register_name}
use Rattle.assemble.specs.Text.{register, source, address}
use Rattle.assemble.proofs.Numerals.{IsPlain, one_digit, numeral_plain, number_plain, signed_plain, spells, digit}
use Rattle.assemble.proofs.Splits.{lacks, one_cut, absent, contains}

-- ---- registers

ten : codes "r10" ≡ codes "r" ++ numeral 10
unfolding numeral
ten = refl

below_ten : (n : ℕ) → n < 10 → (if n == 10 then codes "r10" else (114 ∷ (48 + n) ∷ [])) ≡ 114 ∷ (48 + n) ∷ []
below_ten n lt = search (rules, nat_tests)

name_is_by : (n : ℕ) → n ≤ 10 → (if n == 10 then codes "r10" else (114 ∷ (48 + n) ∷ [])) ≡ codes "r" ++ numeral n
name_is_by n le = elim (cases_lt n 10) [
  | inl lt ↦ below_ten n lt ∙ ap (λ (x : List ℕ). 114 ∷ x) (sym (one_digit n lt))
  | inr ge ↦
      let is : 10 ≡ n = omega arith in
      let P : ℕ → Type 0 = λ m. (if m == 10 then codes "r10" else (114 ∷ (48 + m) ∷ [])) ≡ codes "r" ++ numeral m in
      subst P is ten
]

-- what is written of a register is its name in lines
pub name_is : (r : Reg) → register_name r ≡ register r
name_is r = name_is_by r.number r.in_range

-- ---- no commas

plain_lacks : (ds : List ℕ) → IsPlain ds → lacks 44 ds
plain_lacks [] h = tt
plain_lacks (c ∷ cs) h = (h.0.1, plain_lacks cs h.1)

lacks_append : (byte : ℕ) (a b : List ℕ) → lacks byte a → lacks byte b → lacks byte (a ++ b)
lacks_append byte [] b la lb = lb
lacks_append byte (c ∷ cs) b la lb = (la.0, lacks_append byte cs b la.1 lb)

-- no comma, by which operands are split, is in a register
pub register_lacks : (r : Reg) → lacks 44 (register r)
register_lacks r = (λ e. absurd (omega arith), plain_lacks (numeral r.number) (numeral_plain r.number))

-- nor in a number or a register
pub source_lacks : (o : Operand) → lacks 44 (source o)
source_lacks (operand.Imm n) = plain_lacks (number n) (number_plain n)
source_lacks (operand.Reg r) = register_lacks r

-- nor in an address
pub address_lacks : (r : Reg) (z : ℤ) → lacks 44 (address r z)
address_lacks r z = (
  λ e. absurd (omega arith),
  lacks_append 44 (register r) (with_sign z ++ codes "]") (register_lacks r)
      (lacks_append 44 (with_sign z) (codes "]") (plain_lacks (with_sign z) (signed_plain z)) (λ e. absurd (omega arith), tt)),
)

-- ---- two readers, one after the other

module _ {A B : Type 0} (PA FitsA : A → Type 0) (PB FitsB : B → Type 0) (Whole : A × B → Type 0)
    (apart : (v : A × B) → Whole v → PA v.0 × PB v.1) (joined : (v : A × B) → PA v.0 → PB v.1 → Whole v) where
  abbrev FitsBoth : A × B → Type 0
  FitsBoth v = FitsA v.0 × FitsB v.1

  reads_all : (x : Result A TextFault) (y : Result B TextFault) → Reads PA FitsA x → Reads PB FitsB y → Reads Whole FitsBoth (both_of x y)
  reads_all (Ok a) (Ok b) h k = (joined (a, b) h.0 k.0, (h.1, k.1))
  reads_all (Ok a) (Err Shape) h k = λ v e. k v.1 (apart v e).1
  reads_all (Ok a) (Err Range) h k = ((a, k.0), joined (a, k.0) h.0 k.1, λ fits. k.2 fits.1)
  reads_all (Err Shape) y h k = λ v e. h v.0 (apart v e).0
  reads_all (Err Range) (Ok b) h k = ((h.0, b), joined (h.0, b) h.1 k.0, λ fits. h.2 fits.0)
  reads_all (Err Range) (Err Shape) h k = λ v e. k v.1 (apart v e).1
  reads_all (Err Range) (Err Range) h k = ((h.0, k.0), joined (h.0, k.0) h.1 k.1, λ fits. h.2 fits.0)

  -- both are read, or refused for the lesser fault
  pub reads_both : (x : Result A TextFault) (y : Result B TextFault) (out : Result (A × B) TextFault) → out ≡ both_of x y → Reads PA FitsA x → Reads PB FitsB y → Reads Whole FitsBoth out
  reads_both x y out e h k = subst (λ (o : Result (A × B) TextFault). Reads Whole FitsBoth o) (sym e) (reads_all x y h k)

-- ---- a comma and a space between them

module _ {A B : Type 0} (f : A → List ℕ) (FitsA : A → Type 0) (g : B → List ℕ) (FitsB : B → Type 0) (fine : (a : A) → lacks 44 (f a)) (text : List ℕ) where
  abbrev IsPair : A × B → Type 0
  IsPair v = text ≡ f v.0 ++ 44 ∷ 32 ∷ g v.1

  apart : (l r : List ℕ) → IsSplit 44 text l (32 ∷ r) → (v : A × B) → IsPair v → (l ≡ f v.0) × (r ≡ g v.1)
  apart l r cut v e =
      let once = one_cut 44 l (32 ∷ r) (f v.0) (32 ∷ g v.1) (absent 44 l cut.first) (fine v.0) (sym cut.whole ∙ e) in
      let back = once.1 in
      (once.0, cc)

  joined : (l r : List ℕ) → IsSplit 44 text l (32 ∷ r) → (v : A × B) → l ≡ f v.0 → r ≡ g v.1 → IsPair v
  joined l r cut v le re = cut.whole ∙ (λ i. le i ++ 44 ∷ 32 ∷ re i)

  -- a text is read as two at its first comma, with a space behind it
  pub reads_pair : (l r : List ℕ) → IsSplit 44 text l (32 ∷ r) → (x : Result A TextFault) (y : Result B TextFault) (out : Result (A × B) TextFault) → out ≡ both_of x y
      → Reads (λ a. l ≡ f a) FitsA x → Reads (λ b. r ≡ g b) FitsB y → Reads IsPair (λ v. FitsA v.0 × FitsB v.1) out
  reads_pair l r cut = reads_both (λ a. l ≡ f a) FitsA (λ b. r ≡ g b) FitsB IsPair (apart l r cut) (joined l r cut)

  -- a text without that isn't of two
  pub no_pair : ((l r : List ℕ) → IsSplit 44 text l (32 ∷ r) → ⊥) → (v : A × B) → IsPair v → ⊥
  no_pair none v e = none (f v.0) (g v.1) (record { whole = e; first = contains 44 (f v.0) (fine v.0) })

-- ---- an address

-- texts that are equal with a last byte each are equal without it
pub same_last : (a b : List ℕ) (x y : ℕ) → a ++ (x ∷ []) ≡ b ++ (y ∷ []) → a ≡ b
same_last [] [] x y e = refl
same_last [] (d ∷ ds) x y e = let rest : [] ≡ ds ++ (y ∷ []) = cc in absurd (omega (arith, ap length rest, length-append ds (y ∷ [])))
same_last (c ∷ cs) [] x y e = let rest : cs ++ (x ∷ []) ≡ [] = cc in absurd (omega (arith, ap length rest, length-append cs (x ∷ [])))
same_last (c ∷ cs) (d ∷ ds) x y e =
    let rest : cs ++ (x ∷ []) ≡ ds ++ (y ∷ []) = cc in
    let first : c ≡ d = cc in
    λ i. first i ∷ same_last cs ds x y rest i

head_is : (c d : ℕ) (x y : List ℕ) → c ∷ x ≡ d ∷ y → c ≡ d
head_is c d x y e = cc

no_sign : (c : ℕ) (b x : List ℕ) → BeginsWithSign b → b ≡ c ∷ x → (c ≡ 43 → ⊥) → (c ≡ 45 → ⊥) → ⊥
no_sign c [] x sign e n m = sign
no_sign c (d ∷ ds) x (inl plus) e n m = n (sym (head_is d c ds x e) ∙ plus)
no_sign c (d ∷ ds) x (inr minus) e n m = m (sym (head_is d c ds x e) ∙ minus)

-- a text is cut before its first sign in one way, as an address is between register and offset
pub sign_cut : (a b c d : List ℕ) → lacks 43 a → lacks 45 a → lacks 43 c → lacks 45 c → BeginsWithSign b → BeginsWithSign d → a ++ b ≡ c ++ d → (a ≡ c) × (b ≡ d)
sign_cut [] b [] d pa ma pc mc sb sd e = (refl, e)
sign_cut [] b (y ∷ ys) d pa ma pc mc sb sd e = absurd (no_sign y b (ys ++ d) sb e pc.0 mc.0)
sign_cut (x ∷ xs) b [] d pa ma pc mc sb sd e = absurd (no_sign x d (xs ++ b) sd (sym e) pa.0 ma.0)
sign_cut (x ∷ xs) b (y ∷ ys) d pa ma pc mc sb sd e =
    let rest : xs ++ b ≡ ys ++ d = cc in
    let more = sign_cut xs b ys d pa.1 ma.1 pc.1 mc.1 sb sd rest in
    let first : x ≡ y = cc in
    (λ i. first i ∷ more.0 i, more.1)

digits_lack : (byte : ℕ) (ds : List ℕ) → byte < 48 → AllDigits 10 ds → lacks byte ds
digits_lack byte [] lt h = tt
digits_lack byte (c ∷ cs) lt h = let is = digit c h.0 in (λ e. absurd (omega arith), digits_lack byte cs lt h.1)

-- no byte below '0', so no sign, is in a register
pub register_no_sign : (byte : ℕ) (r : Reg) → byte < 48 → lacks byte (register r)
register_no_sign byte r lt = (λ e. absurd (omega arith), digits_lack byte (numeral r.number) lt (spells r.number).digits)

-- an offset begins with its sign
pub signed_begins : (z : ℤ) → BeginsWithSign (with_sign z)
signed_begins (pos n) = inl refl
signed_begins (negsuc n) = inr refl

lacks_front : (byte : ℕ) (a b : List ℕ) → lacks byte (a ++ b) → lacks byte b
lacks_front byte [] b h = h
lacks_front byte (c ∷ cs) b h = lacks_front byte cs b h.1

regrouped : (r : Reg) (z : ℤ) → address r z ≡ 91 ∷ ((register r ++ with_sign z) ++ 93 ∷ [])
regrouped r z = ap (λ (x : List ℕ). 91 ∷ x) (sym (append_assoc (register r) (with_sign z) (93 ∷ [])))

module _ (text : List ℕ) where
  abbrev IsAddress : Reg × ℤ → Type 0
  IsAddress v = text ≡ address v.0 v.1

  inner_is : (inner : List ℕ) → text ≡ 91 ∷ (inner ++ 93 ∷ []) → (v : Reg × ℤ) → IsAddress v → inner ≡ register v.0 ++ with_sign v.1
  inner_is inner whole v e =
      let all : 91 ∷ (inner ++ 93 ∷ []) ≡ 91 ∷ ((register v.0 ++ with_sign v.1) ++ 93 ∷ []) = sym whole ∙ e ∙ regrouped v.0 v.1 in
      let tails : inner ++ 93 ∷ [] ≡ (register v.0 ++ with_sign v.1) ++ 93 ∷ [] = cc in
      same_last inner (register v.0 ++ with_sign v.1) 93 93 tails

  parts : (inner base off : List ℕ) → text ≡ 91 ∷ (inner ++ 93 ∷ []) → inner ≡ base ++ off → LacksSign base → BeginsWithSign off → (v : Reg × ℤ) → IsAddress v → (base ≡ register v.0) × (off ≡ with_sign v.1)
  parts inner base off whole cut none sign v e =
      sign_cut base off (register v.0) (with_sign v.1) (absent 43 base none.0) (absent 45 base none.1) (register_no_sign 43 v.0 (omega arith)) (register_no_sign 45 v.0 (omega arith)) sign (signed_begins v.1)
      (sym cut ∙ inner_is inner whole v e)

  whole_of : (inner base off : List ℕ) → text ≡ 91 ∷ (inner ++ 93 ∷ []) → inner ≡ base ++ off → (v : Reg × ℤ) → base ≡ register v.0 → off ≡ with_sign v.1 → IsAddress v
  whole_of inner base off whole cut v be oe = whole ∙ (λ i. 91 ∷ ((cut ∙ (λ j. be j ++ oe j)) i ++ 93 ∷ [])) ∙ sym (regrouped v.0 v.1)

  -- a text in brackets is read as a register up to the first sign, and an offset from there
  pub reads_address : (FitsA : Reg → Type 0) (FitsB : ℤ → Type 0) (inner base off : List ℕ) → text ≡ 91 ∷ (inner ++ 93 ∷ []) → inner ≡ base ++ off → LacksSign base → BeginsWithSign off
      → (x : Result Reg TextFault) (y : Result ℤ TextFault) (out : Result (Reg × ℤ) TextFault) → out ≡ both_of x y
      → Reads (λ r. base ≡ register r) FitsA x → Reads (λ z. off ≡ with_sign z) FitsB y → Reads IsAddress (λ v. FitsA v.0 × FitsB v.1) out
  reads_address FitsA FitsB inner base off whole cut none sign =
      reads_both (λ r. base ≡ register r) FitsA (λ z. off ≡ with_sign z) FitsB IsAddress (parts inner base off whole cut none sign) (whole_of inner base off whole cut)

  -- a text without brackets is no address
  pub no_brackets : ((x : List ℕ) → text ≢ 91 ∷ (x ++ 93 ∷ [])) → (v : Reg × ℤ) → IsAddress v → ⊥
  no_brackets none v e = none (register v.0 ++ with_sign v.1) (e ∙ regrouped v.0 v.1)

  -- nor is one without a sign
  pub no_offset : (inner : List ℕ) → text ≡ 91 ∷ (inner ++ 93 ∷ []) → LacksSign inner → (v : Reg × ℤ) → IsAddress v → ⊥
  no_offset inner whole none v e =
      let is = inner_is inner whole v e in
      let plus = lacks_front 43 (register v.0) (with_sign v.1) (subst (λ (x : List ℕ). lacks 43 x) is (absent 43 inner none.0)) in
      let minus = lacks_front 45 (register v.0) (with_sign v.1) (subst (λ (x : List ℕ). lacks 45 x) is (absent 45 inner none.1)) in
      not_signed v.1 plus minus
    where
      not_signed : (z : ℤ) → lacks 43 (with_sign z) → lacks 45 (with_sign z) → ⊥
      not_signed (pos n) p m = p.0 refl
      not_signed (negsuc n) p m = m.0 refl

-- ---- a register or a number

-- a number doesn't begin with 'r', as a register does
pub number_first : (z : ℤ) (x : List ℕ) → number z ≡ 114 ∷ x → ⊥
number_first z x e = let plain : IsPlain (114 ∷ x) = subst (λ (y : List ℕ). IsPlain y) e (number_plain z) in absurd (omega (arith, plain.0.2))

-- what is no register, and refused as a number, is refused as an operand
pub source_refused : (text : List ℕ) (fault : TextFault) → ((r : Reg) → text ≢ register_name r) → Reads (λ z. text ≡ number z) (λ z. FitsSigned w32 z) (Err fault) → Reads (λ (o : Operand). text ≡ source o) OperandFits (Err fault)
source_refused text Range none h = (operand.Imm h.0, h.1, h.2)
source_refused text Shape none h = λ o e. refuse o e
  where
    refuse : (o : Operand) → text ≡ source o → ⊥
    refuse (operand.Imm z) e = h z e
    refuse (operand.Reg r) e = none r (e ∙ sym (name_is r))
