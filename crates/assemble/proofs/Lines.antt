-- A line is of one instruction only.
use Rattle.std.proofs.Common.{◌≡◌, ◌≢◌, ◌≤◌, ◌+◌, ℕ, suc, ℤ, pos, Bool, true, false, cond, take, List, [], ◌∷◌, ◌++◌, Option, Some, None, refl, sym, ap, subst, ◌∙◌, arith, rules, Bor, append_assoc}
use Rattle.std.specs.Prelude.{if◌then◌else◌, ◌==◌, Contains, not}
use Rattle.std.specs.List.{before_first, position_or_len}
use Rattle.std.proofs.lemmas.Bool.Decides.{nat_tests}
use Rattle.std.proofs.lemmas.List.{append_cancel_left}
use Rattle.decode.specs.Encoding.{Fits, swap_imm}
use Rattle.decode.specs.declared.insn.Extension.{Extension}
use Rattle.decode.specs.declared.insn.Extension.TheVariants.{W32From8}
use Rattle.decode.specs.declared.insn.SwapBits.{SwapBits}
use Rattle.decode.specs.declared.insn.SwapBits.TheVariants.{Bits16}
use Rattle.decode.proofs.Firsts.{stops, passes}
use Rattle.decode.specs.declared.insn.Reg.{Reg}
use Rattle.decode.proofs.Forms.{same_reg}
use Rattle.decode.specs.declared.insn.Operand.{Operand}
use Rattle.decode.specs.declared.insn.Operand.TheVariants as operand
use Rattle.decode.specs.declared.insn.Insn.{Insn}
use Rattle.decode.specs.declared.insn.Insn.TheVariants as insn
use Rattle.assemble.specs.declared.fault.TextRule.TheVariants as rule
use Rattle.assemble.specs.declared.mnemonic.Mnemonic.{Mnemonic}
use Rattle.assemble.specs.declared.mnemonic.Mnemonic.TheVariants.{Alu, MovSx, Neg, End, Jump, JumpLong, JumpIf, Call, Exit, Load, LoadSx, StoreReg, StoreImm, Wide}
use Rattle.assemble.specs.Number.{numeral, number, with_sign}
use Rattle.assemble.specs.Inside.Words.{bits, extension_name, operands_of, tail, word_of}
use Rattle.assemble.specs.Text.{extension_word, line_of, order_word, register, source, address}
use Rattle.assemble.specs.Inside.Mnemonic.{mnemonic_of, word, IsInsn, behind}
use Rattle.assemble.specs.Refusal.{LineBreaks, LineBreaksFirst}
use Rattle.assemble.proofs.Numerals.{numeral_once, number_once, signed_once}
use Rattle.assemble.proofs.Splits.{lacks, one_cut, absent}
use Rattle.assemble.proofs.Pairs.{register_lacks, source_lacks, address_lacks, number_first, same_last, sign_cut, register_no_sign, signed_begins}
use Rattle.assemble.proofs.Words.{AreAbove, IsWord, each_word, one_mnemonic}
use Rattle.assemble.proofs.Insns.{IsOf, of_as}

-- ---- the word of a line

extension_is : (x : Extension) → extension_name x ≡ extension_word x
unfolding numeral
extension_is W32From8 = refl
extension_is x = refl

bits_are : (b : SwapBits) → bits b ≡ numeral (swap_imm b)
unfolding numeral
bits_are Bits16 = refl
bits_are b = refl

-- the word that is written of an instruction is that of its mnemonic
pub word_is : (i : Insn) → word (mnemonic_of i) ≡ word_of i
word_is (insn.MovSx x dst src) = extension_is x
word_is (insn.End order b dst) = ap (λ (t : List ℕ). order_word order ++ t) (bits_are b)
word_is insn.Exit = refl
word_is i = refl

-- a line is its word, and the operands behind it
pub line_is : (i : Insn) → line_of i ≡ word_of i ++ tail (operands_of i)
line_is insn.Exit = refl
line_is i = refl

-- the same with the mnemonic's word
pub line_by : (i : Insn) → line_of i ≡ word (mnemonic_of i) ++ tail (operands_of i)
line_by i = line_is i ∙ ap (λ (t : List ℕ). t ++ tail (operands_of i)) (sym (word_is i))

-- nothing, or a space and more
abbrev pub IsBehind : List ℕ → Type 0
IsBehind [] = Unit {0}
IsBehind (c ∷ cs) = c ≡ 32

tail_behind : (i : Insn) → IsBehind (tail (operands_of i))
tail_behind insn.Exit = tt
tail_behind i = refl

-- what `split_once` leaves behind a word is nothing, or a space and more
pub rest_behind : (o : Option (Bor (List ℕ))) → IsBehind (behind o)
rest_behind None = tt
rest_behind (Some x) = refl

skip : (c : ℕ) (xs : List ℕ) → (c ≡ 32 → ⊥) → (if c == 32 then [] else xs) ≡ xs
skip c xs h = search (rules, nat_tests)

stop : (c : ℕ) (xs : List ℕ) → c ≡ 32 → (if c == 32 then [] else xs) ≡ []
stop c xs h = search (rules, nat_tests)

-- the text up to the first space or the end
abbrev leading_word : List ℕ → List ℕ
leading_word [] = []
leading_word (c ∷ cs) = if c == 32 then [] else c ∷ leading_word cs

leading_step : (b : Bool) (c : ℕ) (n : ℕ) (cs : List ℕ) → take (cond (not b) (1 + n) 0) (c ∷ cs) ≡ (if b then [] else c ∷ take n cs)
leading_step true c n cs = refl
leading_step false c n cs = let one : 1 + n ≡ suc n = omega arith in ap (λ (m : ℕ). take m (c ∷ cs)) one

-- what is before the first space is the leading word
pub leading_is : (t : List ℕ) → before_first (λ c. c == 32) t ≡ leading_word t
leading_is [] = refl
leading_is (c ∷ cs) = leading_step (c == 32) c (position_or_len (λ d. d == 32) cs) cs ∙ ap (λ (x : List ℕ). if c == 32 then [] else c ∷ x) (leading_is cs)

-- a word without a space is the first word of a line if nothing or a space follows it
pub first_of : (w rest : List ℕ) → lacks 32 w → IsBehind rest → leading_word (w ++ rest) ≡ w
first_of [] [] lw b = refl
first_of [] (c ∷ cs) lw b = stop c (c ∷ leading_word cs) b
first_of (c ∷ cs) rest lw b = skip c (c ∷ leading_word (cs ++ rest)) lw.0 ∙ ap (λ (x : List ℕ). c ∷ x) (first_of cs rest lw.1 b)

above_lacks : (k byte : ℕ) (cs : List ℕ) → byte ≤ k → AreAbove k cs → lacks byte cs
above_lacks k byte [] le h = tt
above_lacks k byte (c ∷ cs) le h = (λ e. absurd (omega (arith, h.0)), above_lacks k byte cs le h.1)

word_lacks_so : (t : List ℕ) → IsWord t → lacks 32 t
word_lacks_so [] h = tt
word_lacks_so (c ∷ cs) h = (λ e. absurd (omega (arith, h.0)), above_lacks 32 32 cs (omega arith) h.1)

word_lacks : (i : Insn) → lacks 32 (word_of i)
word_lacks i = subst (λ (t : List ℕ). lacks 32 t) (word_is i) (word_lacks_so (word (mnemonic_of i)) (each_word (mnemonic_of i)))

-- the leading word of an instruction's line is its own
pub leading_word_is : (i : Insn) → leading_word (line_of i) ≡ word_of i
leading_word_is i = ap leading_word (line_is i) ∙ first_of (word_of i) (tail (operands_of i)) (word_lacks i) (tail_behind i)

-- a word and what is behind it, and the line of an instruction
pub both_parts : (w rest : List ℕ) (i : Insn) → lacks 32 w → IsBehind rest → w ++ rest ≡ line_of i → (w ≡ word_of i) × (rest ≡ tail (operands_of i))
both_parts w rest i lw b e =
    let first : w ≡ word_of i = sym (first_of w rest lw b) ∙ ap leading_word e ∙ leading_word_is i in
    let more : word_of i ++ rest ≡ line_of i = ap (λ (x : List ℕ). x ++ rest) (sym first) ∙ e in
    (first, append_cancel_left (word_of i) rest (tail (operands_of i)) (more ∙ line_is i))

-- ---- operands are written in one way

register_once : (r s : Reg) → register r ≡ register s → r ≡ s
register_once r s e = let digits : numeral r.number ≡ numeral s.number = cc in same_reg r s (numeral_once r.number s.number digits)

source_once : (a b : Operand) → source a ≡ source b → a ≡ b
source_once (operand.Imm m) (operand.Imm n) e = ap (λ (z : ℤ). operand.Imm z) (number_once m n e)
source_once (operand.Imm m) (operand.Reg r) e = absurd (number_first m (numeral r.number) e)
source_once (operand.Reg r) (operand.Imm n) e = absurd (number_first n (numeral r.number) (sym e))
source_once (operand.Reg r) (operand.Reg s) e = ap (λ (x : Reg). operand.Reg x) (register_once r s e)

address_once : (v w : Reg × ℤ) → address v.0 v.1 ≡ address w.0 w.1 → v ≡ w
address_once v w e =
    let inner : (register v.0 ++ with_sign v.1) ++ 93 ∷ [] ≡ (register w.0 ++ with_sign w.1) ++ 93 ∷ [] = simp append_assoc cc in
    let cut = sign_cut (register v.0) (with_sign v.1) (register w.0) (with_sign w.1) (register_no_sign 43 v.0 (omega arith)) (register_no_sign 45 v.0 (omega arith)) (register_no_sign 43 w.0 (omega arith)) (register_no_sign 45 w.0 (omega arith)) (signed_begins v.1) (signed_begins w.1)
    (same_last (register v.0 ++ with_sign v.1) (register w.0 ++ with_sign w.1) 93 93 inner) in
    let base = register_once v.0 w.0 cut.0 in
    let offset = signed_once v.1 w.1 cut.1 in
    λ i. (base i, offset i)

module _ {A B : Type 0} (f : A → List ℕ) (g : B → List ℕ) (fine : (a : A) → lacks 44 (f a)) (once_f : (a b : A) → f a ≡ f b → a ≡ b) (once_g : (a b : B) → g a ≡ g b → a ≡ b) where
  pair_once : (v w : A × B) → f v.0 ++ 44 ∷ 32 ∷ g v.1 ≡ f w.0 ++ 44 ∷ 32 ∷ g w.1 → v ≡ w
  pair_once v w e =
      let cut = one_cut 44 (f v.0) (32 ∷ g v.1) (f w.0) (32 ∷ g w.1) (fine v.0) (fine w.0) e in
      let back = cut.1 in
      let right : g v.1 ≡ g w.1 = cc in
      let a = once_f v.0 w.0 cut.0 in
      let b = once_g v.1 w.1 right in
      λ i. (a i, b i)

-- ---- instructions are written in one way

module _ {V : Type 0} (made : V → Insn) (written : V → List ℕ) (opens : (v : V) → tail (operands_of (made v)) ≡ 32 ∷ written v) (once : (v w : V) → written v ≡ written w → v ≡ w) where
  same_made : (i j : Insn) → (v : V) × (i ≡ made v) → (v : V) × (j ≡ made v) → tail (operands_of i) ≡ tail (operands_of j) → i ≡ j
  same_made i j a b e =
      let all : 32 ∷ written a.0 ≡ 32 ∷ written b.0 = sym (opens a.0) ∙ ap (λ (k : Insn). tail (operands_of k)) (sym a.1) ∙ e ∙ ap (λ (k : Insn). tail (operands_of k)) b.1 ∙ opens b.0 in
      let same : written a.0 ≡ written b.0 = cc in
      a.1 ∙ ap made (once a.0 b.0 same) ∙ sym b.1

abbrev base_offset : Reg × ℤ → List ℕ
base_offset v = address v.0 v.1

base_lacks : (v : Reg × ℤ) → lacks 44 (base_offset v)
base_lacks v = address_lacks v.0 v.1

abbrev source_offset : Operand × ℤ → List ℕ
source_offset v = source v.0 ++ 44 ∷ 32 ∷ with_sign v.1

once_of : (m : Mnemonic) (i j : Insn) → IsOf m i → IsOf m j → tail (operands_of i) ≡ tail (operands_of j) → i ≡ j
once_of (Alu op width) i j a b e = same_made (λ (v : Reg × Operand). insn.Alu op width v.0 v.1) (λ v. register v.0 ++ 44 ∷ 32 ∷ source v.1) (λ _. refl) (pair_once register source register_lacks register_once source_once) i j a b e
once_of (MovSx x) i j a b e = same_made (λ (v : Reg × Reg). insn.MovSx x v.0 v.1) (λ v. register v.0 ++ 44 ∷ 32 ∷ register v.1) (λ _. refl) (pair_once register register register_lacks register_once register_once) i j a b e
once_of (Neg width) i j a b e = same_made (λ (v : Reg). insn.Neg width v) register (λ _. refl) register_once i j a b e
once_of (End order c) i j a b e = same_made (λ (v : Reg). insn.End order c v) register (λ _. refl) register_once i j a b e
once_of Jump i j a b e = same_made (λ (v : ℤ). insn.Jump v) with_sign (λ _. refl) signed_once i j a b e
once_of JumpLong i j a b e = same_made (λ (v : ℤ). insn.JumpLong v) with_sign (λ _. refl) signed_once i j a b e
once_of (JumpIf c width) i j a b e = same_made (λ (v : Reg × (Operand × ℤ)). insn.JumpIf c width v.0 (v.1).0 (v.1).1) (λ v. register v.0 ++ 44 ∷ 32 ∷ source_offset v.1) (λ _. refl) (pair_once register source_offset register_lacks register_once (pair_once source with_sign source_lacks source_once signed_once)) i j a b e
once_of Call i j a b e = same_made (λ (v : ℤ). insn.Call v) number (λ _. refl) number_once i j a b e
once_of Exit i j a b e = a ∙ sym b
once_of (Load s) i j a b e = same_made (λ (v : Reg × (Reg × ℤ)). insn.Load s v.0 (v.1).0 (v.1).1) (λ v. register v.0 ++ 44 ∷ 32 ∷ base_offset v.1) (λ _. refl) (pair_once register base_offset register_lacks register_once address_once) i j a b e
once_of (LoadSx s) i j a b e = same_made (λ (v : Reg × (Reg × ℤ)). insn.LoadSx s v.0 (v.1).0 (v.1).1) (λ v. register v.0 ++ 44 ∷ 32 ∷ base_offset v.1) (λ _. refl) (pair_once register base_offset register_lacks register_once address_once) i j a b e
once_of (StoreReg s) i j a b e = same_made (λ (v : (Reg × ℤ) × Reg). insn.StoreReg s (v.0).0 v.1 (v.0).1) (λ v. base_offset v.0 ++ 44 ∷ 32 ∷ register v.1) (λ _. refl) (pair_once base_offset register base_lacks address_once register_once) i j a b e
once_of (StoreImm s) i j a b e = same_made (λ (v : (Reg × ℤ) × ℤ). insn.StoreImm s (v.0).0 (v.0).1 v.1) (λ v. base_offset v.0 ++ 44 ∷ 32 ∷ number v.1) (λ _. refl) (pair_once base_offset number base_lacks address_once number_once) i j a b e
once_of Wide i j a b e = same_made (λ (v : Reg × ℕ). insn.Wide v.0 v.1) (λ v. register v.0 ++ 44 ∷ 32 ∷ numeral v.1) (λ _. refl) (pair_once register numeral register_lacks register_once numeral_once) i j a b e

pub line_once : (i j : Insn) → line_of i ≡ line_of j → i ≡ j
line_once i j e =
    let parts = both_parts (word_of i) (tail (operands_of i)) j (word_lacks i) (tail_behind i) (sym (line_is i) ∙ e) in
    let same = one_mnemonic (mnemonic_of j) (mnemonic_of i) (word_is j ∙ sym parts.0 ∙ sym (word_is i)) in
    once_of (mnemonic_of i) i j (of_as (mnemonic_of i) i refl) (of_as (mnemonic_of i) j same) parts.1

-- ---- the rules

zero_register : Reg
zero_register = record { number = 0; in_range = omega arith }

abbrev sample : Mnemonic → Insn
sample (Alu op width) = insn.Alu op width zero_register (operand.Imm (pos 0))
sample (MovSx x) = insn.MovSx x zero_register zero_register
sample (Neg width) = insn.Neg width zero_register
sample (End order b) = insn.End order b zero_register
sample Jump = insn.Jump (pos 0)
sample JumpLong = insn.JumpLong (pos 0)
sample (JumpIf c width) = insn.JumpIf c width zero_register (operand.Imm (pos 0)) (pos 0)
sample Call = insn.Call (pos 0)
sample Exit = insn.Exit
sample (Load s) = insn.Load s zero_register zero_register (pos 0)
sample (LoadSx s) = insn.LoadSx s zero_register zero_register (pos 0)
sample (StoreReg s) = insn.StoreReg s zero_register zero_register (pos 0)
sample (StoreImm s) = insn.StoreImm s zero_register (pos 0) (pos 0)
sample Wide = insn.Wide zero_register 0

sample_is : (m : Mnemonic) → mnemonic_of (sample m) ≡ m
sample_is Exit = refl
sample_is m = refl

-- a rule breaks first where the one before it doesn't break
module _ (n : ℕ) (line : List ℕ) where
  -- a line with an unknown word is no instruction's line
  pub word_shape : LineBreaks n rule.Word line → LineBreaks n rule.Shape line
  word_shape h i e = h i (sym (leading_word_is i) ∙ sym (leading_is (line_of i)) ∙ ap (before_first (λ c. c == 32)) (sym e))

  shape_range : LineBreaks n rule.Shape line → LineBreaks n rule.Range line
  shape_range h i fits e = h i e

  pub first_shape : (¬ LineBreaks n rule.Word line) → LineBreaks n rule.Shape line → LineBreaksFirst n rule.Shape line
  first_shape fine broken = passes rule.Word _ _ _ fine (stops _ _ _ broken)

  pub first_range : (¬ LineBreaks n rule.Shape line) → LineBreaks n rule.Range line → LineBreaksFirst n rule.Range line
  first_range fine broken = passes rule.Word _ _ _ (λ w. fine (word_shape w)) (passes rule.Shape _ _ _ fine (stops _ _ _ broken))

  pub first_limit : (¬ LineBreaks n rule.Range line) → LineBreaks n rule.Limit line → LineBreaksFirst n rule.Limit line
  first_limit fine broken =
      passes rule.Word _ _ _ (λ w. fine (shape_range (word_shape w))) (passes rule.Shape _ _ _ (λ s. fine (shape_range s)) (passes rule.Range _ _ _ fine (stops _ _ _ broken)))

-- the line is a word and what is behind it
module _ (line w : List ℕ) (o : Option (Bor (List ℕ))) (whole : line ≡ w ++ behind o) (first : ¬ Contains w 32) where
  starts : before_first (λ c. c == 32) line ≡ w
  starts = leading_is line ∙ ap leading_word whole ∙ first_of w (behind o) (absent 32 w first) (rest_behind o)

  -- a word that is no mnemonic's is the line's first fault
  pub no_word : ((m : Mnemonic) → w ≢ word m) → (n : ℕ) → LineBreaksFirst n rule.Word line
  no_word none n = stops _ _ _ (λ i e. none (mnemonic_of i) (sym starts ∙ sym e ∙ sym (word_is i)))

  module _ (m : Mnemonic) (is : w ≡ word m) where
    insn_is : (i : Insn) → line ≡ line_of i → IsInsn m (behind o) i
    insn_is i e =
        let parts = both_parts w (behind o) i (absent 32 w first) (rest_behind o) (sym whole ∙ e) in
        (one_mnemonic (mnemonic_of i) m (word_is i ∙ sym parts.0 ∙ is), parts.1)

    -- the mnemonic and what is behind it are the instruction's line
    pub has_line : (i : Insn) → IsInsn m (behind o) i → line ≡ line_of i
    has_line i h = whole ∙ (λ k. (is ∙ ap word (sym h.0) ∙ word_is i) k ++ h.1 k) ∙ sym (line_is i)

    -- if no instruction with the mnemonic has the text after it, the shape is the first fault
    pub no_shape : ((i : Insn) → ¬ IsInsn m (behind o) i) → (n : ℕ) → LineBreaksFirst n rule.Shape line
    no_shape none n = first_shape n line
        (λ unknown. unknown (sample m) (sym (word_is (sample m)) ∙ ap word (sample_is m) ∙ sym is ∙ sym starts)) (λ i e. none i (insn_is i e))

    -- where it is of one that doesn't fit, the range is
    pub no_range : (i : Insn) × IsInsn m (behind o) i × (¬ Fits i) → (n : ℕ) → LineBreaksFirst n rule.Range line
    no_range h n = first_range n line
        (λ shape. shape h.0 (has_line h.0 h.1)) (λ j fits e. h.2 (subst (λ (k : Insn). Fits k) (line_once j h.0 (sym e ∙ has_line h.0 h.1)) fits))
