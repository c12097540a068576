-- The code by slots.
use Rattle.std.proofs.Common.{◌≡◌, ℕ, zero, suc, ◌+◌, ◌<◌, ◌==◌, true, false, inl, inr, List, [], ◌∷◌, ◌++◌, length, take, Option, Some, None, refl, sym, ap, ◌∙◌, get_or, subst, arith}
use Rattle.std.proofs.lemmas.Bool.{false≢true}
use Rattle.std.proofs.lemmas.List.{take_more}
use Rattle.decode.specs.declared.insn.Insn.{Insn}
use Rattle.decode.specs.Slots.{Follows, slots_of, size_of, insn_at}
use Rattle.decode.proofs.SlotLemmas.{slots_of-append, one_or_two}

-- an instruction begins at the first slot
abbrev Begin : List (Option Insn) → Type 0
Begin slots = (n : ℕ) → n ≡ 0 → n < length slots → (j : Insn) × (insn_at slots n ≡ Some j)

begin : (code : List Insn) → Begin (slots_of code)
begin [] n e h = absurd (omega arith)
begin (i ∷ is) n e h = (i, ap (insn_at (slots_of (i ∷ is))) e ∙ first)
  where
    first : insn_at (slots_of (i ∷ is)) 0 ≡ Some i
    first = elim (one_or_two i is) [
      | inl one ↦ ap (λ s. insn_at s 0) one.1
      | inr two ↦ ap (λ s. insn_at s 0) two.1
    ]

size_there : (i j : Insn) (k : ℕ) → size_of i ≡ k → insn_at (Some i ∷ []) 0 ≡ Some j → size_of j ≡ k
size_there i j k w h = let e : i ≡ j = cc in ap size_of (sym e) ∙ w

follows_one : (i : Insn) (rest : List (Option Insn)) → size_of i ≡ 1 → Begin rest → Follows rest → Follows (Some i ∷ rest)
follows_one i rest w begin next zero zero j h e lt = absurd (let z = size_there i j 1 w h in omega arith)
follows_one i rest w begin next zero (suc n) j h e lt = begin n (let z = size_there i j 1 w h in omega arith) (omega arith)
follows_one i rest w begin next (suc s) zero j h e lt = absurd (omega arith)
follows_one i rest w begin next (suc s) (suc n) j h e lt = next s n j h (omega arith) (omega arith)

follows_two : (i : Insn) (rest : List (Option Insn)) → size_of i ≡ 2 → Begin rest → Follows rest → Follows (Some i ∷ None ∷ rest)
follows_two i rest w begin next zero zero j h e lt = absurd (let z = size_there i j 2 w h in omega arith)
follows_two i rest w begin next zero (suc zero) j h e lt = absurd (let z = size_there i j 2 w h in omega arith)
follows_two i rest w begin next zero (suc (suc n)) j h e lt = begin n (let z = size_there i j 2 w h in omega arith) (omega arith)
follows_two i rest w begin next (suc zero) n j h e lt = cc
follows_two i rest w begin next (suc (suc s)) zero j h e lt = absurd (omega arith)
follows_two i rest w begin next (suc (suc s)) (suc zero) j h e lt = absurd (omega arith)
follows_two i rest w begin next (suc (suc s)) (suc (suc n)) j h e lt = next s n j h (omega arith) (omega arith)

-- in the slots of code, behind each instruction that isn't the last another begins
pub follows : (code : List Insn) → Follows (slots_of code)
follows [] = λ s n i h e lt. absurd (omega arith)
follows (i ∷ is) = elim (one_or_two i is) [
  | inl one ↦ subst Follows (sym one.1) (follows_one i (slots_of is) one.0 (begin is) (follows is))
  | inr two ↦ subst Follows (sym two.1) (follows_two i (slots_of is) two.0 (begin is) (follows is))
]

-- where code has a slot, an instruction begins at the first
pub first_begins : (code : List Insn) → 0 < length (slots_of code) → (j : Insn) × (insn_at (slots_of code) 0 ≡ Some j)
first_begins code h = begin code 0 refl h

-- the same of the slots of the first n instructions
pub follows_taken : (code : List Insn) (slots : List (Option Insn)) (n : ℕ) → slots ≡ slots_of (take n code) → Follows slots
follows_taken code slots n e = subst Follows (sym e) (follows (take n code))

-- one instruction more is laid out
pub laid_more : (code : List Insn) (slots slots' : List (Option Insn)) (n : ℕ) (i d : Insn) → n < length code → i ≡ get_or code n d → slots ≡ slots_of (take n code) → slots' ≡ slots ++ slots_of (i ∷ []) → slots' ≡ slots_of (take (n + 1) code)
laid_more code slots slots' n i d lt ei es e =
    let t : take (n + 1) code ≡ take n code ++ i ∷ [] = take_more code n d lt ∙ ap (λ x. take n code ++ x ∷ []) (sym ei) in
    let a : slots_of (take n code ++ i ∷ []) ≡ slots_of (take n code) ++ slots_of (i ∷ []) = slots_of-append (take n code) (i ∷ []) in
    e ∙ ap (λ x. x ++ slots_of (i ∷ [])) es ∙ sym a ∙ ap slots_of (sym t)

-- a wide instruction is laid out as its slot and one at which none begins
pub laid_wide : (i : Insn) → true ≡ (size_of i == 2) → Some i ∷ None ∷ [] ≡ slots_of (i ∷ [])
laid_wide i w = elim (one_or_two i []) [
  | inl one ↦ absurd (false≢true (sym (w ∙ ap (λ n. n == 2) one.0)))
  | inr two ↦ sym two.1
]

-- any other is laid out as one slot
pub laid_narrow : (i : Insn) → false ≡ (size_of i == 2) → Some i ∷ [] ≡ slots_of (i ∷ [])
laid_narrow i w = elim (one_or_two i []) [
  | inl one ↦ sym one.1
  | inr two ↦ absurd (false≢true (w ∙ ap (λ n. n == 2) two.0))
]

-- `first_begins` of slots that are known to be the code's
pub first_begins_at : (code : List Insn) (slots : List (Option Insn)) → slots ≡ slots_of code → 0 < length slots → (j : Insn) × (insn_at slots 0 ≡ Some j)
first_begins_at code slots e n = subst (λ s. (j : Insn) × (insn_at s 0 ≡ Some j)) (sym e) (first_begins code (let k = ap length e in omega arith))

-- code is laid out in some slot
pub laid_some : (code : List Insn) → 0 < length code → 0 < length (slots_of code)
laid_some [] h = absurd (omega arith)
laid_some (i ∷ is) h = elim (one_or_two i is) [
  | inl one ↦ let k = ap length one.1 in omega arith
  | inr two ↦ let k = ap length two.1 in omega arith
]
