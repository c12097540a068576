-- The slots of a list of instructions.
use Rattle.std.proofs.Common.{◌≡◌, ◌≤◌, ◌+◌, ◌*◌, Bool, true, false, List, [], ◌∷◌, ◌++◌, length, Option, Some, None, refl, sym, ap, ◌∙◌, inl, inr, arith}
use Rattle.std.specs.Prelude.{◌⊎◌, ◌-◌, if◌then◌else◌, is_some, replicate}
use Rattle.std.specs.Option.{option_map_or}
use Rattle.std.proofs.lemmas.Grind.{flat_map-append}
use Rattle.std.proofs.lemmas.List.{length-append}
use Rattle.std.proofs.lemmas.List.Sums.{sum_by-cons, sum_by-append}
use Rattle.std.proofs.lemmas.List.Concat.{flat_map-cons}
use Rattle.decode.specs.declared.insn.Insn.{Insn}
use Rattle.decode.specs.declared.insn.Insn.TheVariants as insn
use Rattle.decode.specs.declared.word.Word.{Word}
use Rattle.decode.specs.Layout.{word_bytes}
use Rattle.decode.specs.Encoding.{encoding, insn_bytes, first_word, second_word}
use Rattle.decode.specs.Slots.{size_of, slots, slots_of}

pub slots_of-append : (is js : List Insn) → slots_of (is ++ js) ≡ slots_of is ++ slots_of js
slots_of-append is js = flat_map-append (λ i. Some i ∷ replicate (size_of i - 1) None) is js

-- a wide instruction takes two slots, each other one
pub one_or_two : (i : Insn) (is : List Insn) → ((size_of i ≡ 1) × (slots_of (i ∷ is) ≡ Some i ∷ slots_of is)) ⊎ ((size_of i ≡ 2) × (slots_of (i ∷ is) ≡ Some i ∷ None ∷ slots_of is))
one_or_two (insn.Wide dst value) is = inr (refl, refl)
one_or_two (insn.Alu op width dst o) is = inl (refl, refl)
one_or_two i is = inl (refl, refl)

pub slots-cons : (i : Insn) (is : List Insn) → slots (i ∷ is) ≡ size_of i + slots is
slots-cons i is = sum_by-cons size_of i is

pub slots-append : (is js : List Insn) → slots (is ++ js) ≡ slots is + slots js
slots-append is js = sum_by-append size_of is js

pub length-slots_of : (is : List Insn) → length (slots_of is) ≡ slots is
length-slots_of [] = refl
length-slots_of (i ∷ is) = elim (one_or_two i is) [
  | inl one ↦ ap length one.1 ∙ omega (arith, one.0, length-slots_of is, slots-cons i is)
  | inr two ↦ ap length two.1 ∙ omega (arith, two.0, length-slots_of is, slots-cons i is)
]

size_bound : (i : Insn) → size_of i ≤ 2
size_bound (insn.Wide dst value) = omega arith
size_bound i = omega arith

pub slots_bound : (is : List Insn) → slots is ≤ 2 * length is
slots_bound [] = omega arith
slots_bound (i ∷ is) = let a = slots-cons i is in let b = size_bound i in let c = slots_bound is in omega arith

size_is : (i : Insn) → (if is_some (second_word i) then 2 else 1) ≡ size_of i
size_is (insn.Wide dst value) = refl
size_is i = refl

length-words : (o : Option Word) (w : Word) → length (word_bytes w ++ option_map_or word_bytes o []) ≡ 8 * (if is_some o then 2 else 1)
length-words None w = omega arith
length-words (Some s) w = omega arith

length-insn_bytes : (i : Insn) → length (insn_bytes i) ≡ 8 * size_of i
length-insn_bytes i = length-words (second_word i) (first_word i) ∙ ap (λ n. 8 * n) (size_is i)

pub length_encoding : (is : List Insn) → length (encoding is) ≡ 8 * slots is
length_encoding [] = refl
length_encoding (i ∷ is) =
    let a : length (encoding (i ∷ is)) ≡ length (insn_bytes i) + length (encoding is) = ap length (flat_map-cons insn_bytes i is) ∙ length-append (insn_bytes i) (encoding is) in
    let b = length-insn_bytes i in
    let c = length_encoding is in
    let d = slots-cons i is in
    omega arith
