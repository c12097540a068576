-- What is written for a list is read back.
use Rattle.std.proofs.Common.{◌≡◌, ◌<◌, ◌+◌, ℕ, ℤ, false, List, [], ◌∷◌, ◌++◌, length, take, get_or, refl, sym, ap, subst, ◌∙◌, arith, rules, append_assoc}
use Rattle.std.specs.Prelude.{codes}
use Rattle.std.specs.List.{AllByRecursion}
use Rattle.std.proofs.lemmas.List.{flat_map_more, take_more}
use Rattle.std.proofs.lemmas.List.Concat.{flat_map-cons}
use Rattle.decode.specs.Encoding.{Fits}
use Rattle.decode.proofs.Faults.{all_append}
use Rattle.std.proofs.lemmas.Bool.Decides.{nat_tests}
use Rattle.decode.specs.declared.insn.Reg.{Reg}
use Rattle.decode.specs.declared.insn.Operand.{Operand}
use Rattle.decode.specs.declared.insn.Operand.TheVariants as operand
use Rattle.decode.specs.declared.insn.Insn.{Insn}
use Rattle.decode.specs.declared.insn.Insn.TheVariants as insn
use Rattle.assemble.specs.Number.{numeral, number, with_sign}
use Rattle.assemble.specs.Inside.Words.{operands_of, tail, commas, word_of}
use Rattle.assemble.specs.Text.{line_of, lines_of, text_of, spoken, is_silent, register, source, address, IsText}
use Rattle.assemble.specs.Inside.Mnemonic.{mnemonic_of, word}
use Rattle.assemble.proofs.Numerals.{IsPlain, numeral_plain, number_plain, signed_plain}
use Rattle.assemble.proofs.Splits.{lacks}
use Rattle.assemble.proofs.Words.{AreAbove, IsWord, each_word}
use Rattle.assemble.proofs.Lines.{word_is, line_is, line_by}
use Rattle.assemble.proofs.Texts.{lines_cut, spoken_line}

above_append : (k : ℕ) (a b : List ℕ) → AreAbove k a → AreAbove k b → AreAbove k (a ++ b)
above_append k [] b fa fb = fb
above_append k (c ∷ cs) b fa fb = (fa.0, above_append k cs b fa.1 fb)

plain_above : (ds : List ℕ) → IsPlain ds → AreAbove 10 ds
plain_above [] h = tt
plain_above (c ∷ cs) h = (omega (arith, h.0.0), plain_above cs h.1)

register_above : (r : Reg) → AreAbove 10 (register r)
register_above r = (omega arith, plain_above (numeral r.number) (numeral_plain r.number))

source_above : (o : Operand) → AreAbove 10 (source o)
source_above (operand.Imm n) = plain_above (number n) (number_plain n)
source_above (operand.Reg r) = register_above r

signed_above : (z : ℤ) → AreAbove 10 (with_sign z)
signed_above z = plain_above (with_sign z) (signed_plain z)

address_above : (r : Reg) (z : ℤ) → AreAbove 10 (address r z)
address_above r z = (omega arith, above_append 10 (register r) (with_sign z ++ 93 ∷ []) (register_above r) (above_append 10 (with_sign z) (93 ∷ []) (signed_above z) (omega arith, tt)))

abbrev EachAbove : List (List ℕ) → Type 0
EachAbove [] = Unit {0}
EachAbove (x ∷ xs) = AreAbove 10 x × EachAbove xs

commas_above : (x : List ℕ) (xs : List (List ℕ)) → AreAbove 10 x → EachAbove xs → AreAbove 10 (commas x xs)
commas_above x [] h hs = h
commas_above x (y ∷ ys) h hs = above_append 10 x (44 ∷ 32 ∷ commas y ys) h (omega arith, (omega arith, commas_above y ys hs.0 hs.1))

tail_above : (xs : List (List ℕ)) → EachAbove xs → AreAbove 10 (tail xs)
tail_above [] h = tt
tail_above (x ∷ xs) h = (omega arith, commas_above x xs h.0 h.1)

operands_above : (i : Insn) → EachAbove (operands_of i)
operands_above (insn.Alu op width dst src) = (register_above dst, (source_above src, tt))
operands_above (insn.MovSx x dst src) = (register_above dst, (register_above src, tt))
operands_above (insn.Neg width dst) = (register_above dst, tt)
operands_above (insn.End order b dst) = (register_above dst, tt)
operands_above (insn.Jump offset) = (signed_above offset, tt)
operands_above (insn.JumpLong distance) = (signed_above distance, tt)
operands_above (insn.JumpIf c width dst src offset) = (register_above dst, (source_above src, (signed_above offset, tt)))
operands_above (insn.Call helper) = (plain_above (number helper) (number_plain helper), tt)
operands_above insn.Exit = tt
operands_above (insn.Load s dst src offset) = (register_above dst, (address_above src offset, tt))
operands_above (insn.LoadSx s dst src offset) = (register_above dst, (address_above src offset, tt))
operands_above (insn.StoreReg s dst src offset) = (address_above dst offset, (register_above src, tt))
operands_above (insn.StoreImm s dst offset imm) = (address_above dst offset, (plain_above (number imm) (number_plain imm), tt))
operands_above (insn.Wide dst value) = (register_above dst, (plain_above (numeral value) (numeral_plain value), tt))

above_less : (cs : List ℕ) → AreAbove 32 cs → AreAbove 10 cs
above_less [] h = tt
above_less (c ∷ cs) h = (omega (arith, h.0), above_less cs h.1)

word_above : (t : List ℕ) → IsWord t → AreAbove 10 t
word_above [] h = tt
word_above (c ∷ cs) h = (omega (arith, h.0), above_less cs h.1)

above_lacks : (cs : List ℕ) → AreAbove 10 cs → lacks 10 cs
above_lacks [] h = tt
above_lacks (c ∷ cs) h = (λ e. absurd (omega (arith, h.0)), above_lacks cs h.1)

is_word : (i : Insn) → IsWord (word_of i)
is_word i = subst (λ (t : List ℕ). IsWord t) (word_is i) (each_word (mnemonic_of i))

line_lacks : (i : Insn) → lacks 10 (line_of i)
line_lacks i = subst (λ (t : List ℕ). lacks 10 t) (sym (line_is i)) (above_lacks (word_of i ++ tail (operands_of i)) (above_append 10 (word_of i) (tail (operands_of i)) (word_above (word_of i) (is_word i)) (tail_above (operands_of i) (operands_above i))))

speaks_so : (w rest : List ℕ) → IsWord w → is_silent (w ++ rest) ≡ false
speaks_so [] rest h = absurd h
speaks_so (c ∷ cs) rest h = let above = h.0 in search (rules, nat_tests)

line_speaks : (i : Insn) → is_silent (line_of i) ≡ false
line_speaks i = ap is_silent (line_is i) ∙ speaks_so (word_of i) (tail (operands_of i)) (is_word i)

text_cons : (i : Insn) (is : List Insn) → text_of (i ∷ is) ≡ line_of i ++ 10 ∷ text_of is
text_cons i is = flat_map-cons (λ (j : Insn). line_of j ++ codes "\n") i is ∙ append_assoc (line_of i) (10 ∷ []) (text_of is)

-- one line more is written
pub text_more : (is : List Insn) (n : ℕ) (i d : Insn) (old new : List ℕ) → n < length is → i ≡ get_or is n d → old ≡ text_of (take n is) → new ≡ ((old ++ word (mnemonic_of i)) ++ tail (operands_of i)) ++ 10 ∷ [] → new ≡ text_of (take (n + 1) is)
text_more is n i d old new lt ei written e =
    let line : List ℕ = word (mnemonic_of i) ++ tail (operands_of i) in
    let one : (line ++ 10 ∷ []) ≡ line_of i ++ 10 ∷ [] = ap (λ (t : List ℕ). t ++ 10 ∷ []) (sym (line_by i)) in
    let more : take (n + 1) is ≡ take n is ++ i ∷ [] = take_more is n d lt ∙ ap (λ (j : Insn). take n is ++ j ∷ []) (sym ei) in
    e ∙ ap (λ (t : List ℕ). t ++ 10 ∷ []) (append_assoc old (word (mnemonic_of i)) (tail (operands_of i))) ∙ append_assoc old line (10 ∷ [])
    ∙ (λ k. written k ++ one k) ∙ flat_map_more (λ (j : Insn). line_of j ++ 10 ∷ []) [] (take n is) i ∙ ap text_of (sym more)

-- where the instructions so far fit, and the next one does, so do those with it
pub fits_more : (is : List Insn) (n : ℕ) (i d : Insn) → n < length is → i ≡ get_or is n d → AllByRecursion Fits (take n is) → Fits i → AllByRecursion Fits (take (n + 1) is)
fits_more is n i d lt ei all fits =
    let more : take (n + 1) is ≡ take n is ++ i ∷ [] = take_more is n d lt ∙ ap (λ (j : Insn). take n is ++ j ∷ []) (sym ei) in
    subst (λ (js : List Insn). AllByRecursion Fits js) (sym more) (all_append (take n is) (i ∷ []) all (fits, tt))

-- the text that is written for a list is its text
pub read_back : (is : List Insn) → IsText (text_of is) is
read_back [] = refl
read_back (i ∷ is) =
    ap (λ (t : List ℕ). spoken (lines_of t)) (text_cons i is) ∙ ap spoken (lines_cut (line_of i) (text_of is) (line_lacks i)) ∙ spoken_line (line_of i) (lines_of (text_of is)) (line_speaks i) ∙ ap (λ (x : List (List ℕ)). line_of i ∷ x) (read_back is)
