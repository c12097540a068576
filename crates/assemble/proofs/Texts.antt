-- Lines of a text.
use Rattle.std.proofs.Common.{◌≡◌, ◌≤◌, ◌+◌, ℕ, Bool, true, false, List, [], ◌∷◌, ◌++◌, length, map, Option, Some, Result, Ok, Err, refl, sym, ap, subst, ◌∙◌, arith, rules, cond, append_assoc, inl, inr, ◌⊎◌}
use Rattle.std.specs.Prelude.{◌==◌, not}
use Rattle.std.specs.Global.{Vec}
use Rattle.std.specs.List.{AllByRecursion, onto_first}
use Rattle.std.proofs.lemmas.Bool.Decides.{nat_tests}
use Rattle.decode.specs.Encoding.{Fits}
use Rattle.decode.specs.Slots.{slots, size_of}
use Rattle.decode.proofs.SlotLemmas.{slots-append, slots-cons}
use Rattle.decode.specs.declared.insn.Insn.{Insn}
use Rattle.assemble.specs.declared.fault.TextRule.{TextRule}
use Rattle.assemble.specs.declared.fault.TextRule.TheVariants as rule
use Rattle.assemble.specs.declared.fault.AsmError.{AsmError}
use Rattle.assemble.specs.declared.fault.AsmError.TheVariants.{Memory, Fault}
use Rattle.assemble.specs.Text.{line_of, lines_of, spoken, is_silent}
use Rattle.std.proofs.lemmas.List.{append-nil, length-append}
use Rattle.std.specs.Borrow.{Bor}
use Rattle.std.specs.Result.{IfOk, IfErr}
use Rattle.assemble.specs.Inside.Loop.{HaveRead, lines_left}
use Rattle.assemble.specs.Refusal.{LineBreaks, LineBreaksFirst, AreLines, IsFault, IsRefusal}
use Rattle.assemble.proofs.Splits.{lacks}
use Rattle.decode.proofs.Firsts.{first_holds, first_once}
use Rattle.assemble.proofs.Lines.{line_once, word_shape}

-- ---- cutting

cut_yes : (c : ℕ) (x : List (List ℕ)) (y : List (List ℕ)) → c ≡ 10 → cond (c == 10) x y ≡ x
cut_yes c x y e = search (rules, nat_tests)

cut_no : (c : ℕ) (x : List (List ℕ)) (y : List (List ℕ)) → (c ≡ 10 → ⊥) → cond (c == 10) x y ≡ y
cut_no c x y e = search (rules, nat_tests)

-- the first line ends at the first line feed
pub lines_cut : (a b : List ℕ) → lacks 10 a → lines_of (a ++ 10 ∷ b) ≡ a ∷ lines_of b
lines_cut [] b la = refl
lines_cut (c ∷ cs) b la =
    cut_no c ([] ∷ lines_of (cs ++ 10 ∷ b)) (onto_first c (lines_of (cs ++ 10 ∷ b))) la.0 ∙ ap (λ (x : List (List ℕ)). onto_first c x) (lines_cut cs b la.1)

-- a text without a line feed is one line
pub lines_end : (a : List ℕ) → lacks 10 a → lines_of a ≡ a ∷ []
lines_end [] la = refl
lines_end (c ∷ cs) la = cut_no c ([] ∷ lines_of cs) (onto_first c (lines_of cs)) la.0 ∙ ap (λ (x : List (List ℕ)). onto_first c x) (lines_end cs la.1)

-- ---- lines that speak

silent_step : (b : Bool) (l : List ℕ) (ls : List (List ℕ)) → b ≡ true → cond (not b) (l ∷ ls) ls ≡ ls
silent_step true l ls e = refl
silent_step false l ls e = absurd cc

spoken_step : (b : Bool) (l : List ℕ) (ls : List (List ℕ)) → b ≡ false → cond (not b) (l ∷ ls) ls ≡ l ∷ ls
spoken_step false l ls e = refl
spoken_step true l ls e = absurd cc

cond_append : (b : Bool) (l : List ℕ) (x y : List (List ℕ)) → cond b (l ∷ x) x ++ y ≡ cond b (l ∷ (x ++ y)) (x ++ y)
cond_append true l x y = refl
cond_append false l x y = refl

-- the lines that speak in two lists, one after the other, are those of each
pub spoken_append : (a b : List (List ℕ)) → spoken (a ++ b) ≡ spoken a ++ spoken b
spoken_append [] b = refl
spoken_append (l ∷ ls) b =
    ap (λ (x : List (List ℕ)). cond (not (is_silent l)) (l ∷ x) x) (spoken_append ls b) ∙ sym (cond_append (not (is_silent l)) l (spoken ls) (spoken b))

-- an empty line or a comment doesn't speak
pub spoken_silent : (l : List ℕ) (ls : List (List ℕ)) → is_silent l ≡ true → spoken (l ∷ ls) ≡ spoken ls
spoken_silent l ls e = silent_step (is_silent l) l (spoken ls) e

-- any other line does
pub spoken_line : (l : List ℕ) (ls : List (List ℕ)) → is_silent l ≡ false → spoken (l ∷ ls) ≡ l ∷ spoken ls
spoken_line l ls e = spoken_step (is_silent l) l (spoken ls) e

map_append : (a b : List Insn) → map line_of (a ++ b) ≡ map line_of a ++ map line_of b
map_append [] b = refl
map_append (i ∷ is) b = ap (λ (x : List (List ℕ)). line_of i ∷ x) (map_append is b)

all_append : (a b : List Insn) → AllByRecursion Fits a → AllByRecursion Fits b → AllByRecursion Fits (a ++ b)
all_append [] b fa fb = fb
all_append (i ∷ is) b fa fb = (fa.0, all_append is b fa.1 fb)

all_back : (a b : List Insn) → AllByRecursion Fits (a ++ b) → AllByRecursion Fits b
all_back [] b f = f
all_back (i ∷ is) b f = all_back is b f.1

-- one more line
pub silent_more : (before : List (List ℕ)) (line : List ℕ) (is : List Insn) → AreLines before is → is_silent line ≡ true → AreLines (before ++ line ∷ []) is
silent_more before line is h e = record {
  fits = h.fits;
  written = spoken_append before (line ∷ []) ∙ ap (λ (x : List (List ℕ)). spoken before ++ x) (spoken_silent line [] e) ∙ append-nil (spoken before) ∙ h.written;
  limit = h.limit;
}

-- the line of one instruction more, which there is room for
pub insn_more : (before : List (List ℕ)) (line : List ℕ) (is : List Insn) (i : Insn) → AreLines before is → is_silent line ≡ false → Fits i → line ≡ line_of i → slots is + size_of i ≤ 1024 → AreLines (before ++ line ∷ []) (is ++ i ∷ [])
insn_more before line is i h e fits written room = record {
  fits = all_append is (i ∷ []) h.fits (fits, tt);
  written = spoken_append before (line ∷ []) ∙ ap (λ (x : List (List ℕ)). spoken before ++ x) (spoken_line line [] e) ∙ (λ k. h.written k ++ written k ∷ []) ∙ sym (map_append is (i ∷ []));
  limit = omega (arith, slots-append is (i ∷ []), slots-cons i [], h.limit);
}

-- one line more is read, with its instruction
pub read_more : (text : List ℕ) (here : Bor (List ℕ)) (line : List ℕ) (rest : Option (Bor (List ℕ))) (n : ℕ) (is : List Insn) (i : Insn) (so_far : HaveRead text (Some here) n is) → lines_of here.now ≡ line ∷ lines_left rest
    → is_silent line ≡ false → Fits i → line ≡ line_of i → slots is + size_of i ≤ 1024 → HaveRead text rest (n + 1) (is ++ i ∷ [])
read_more text here line rest n is i h cut speaks fits written room = record {
  before = h.before ++ line ∷ [];
  whole = h.whole ∙ ap (λ (x : List (List ℕ)). h.before ++ x) cut ∙ sym (append_assoc h.before (line ∷ []) (lines_left rest));
  number_is = omega (arith, length-append h.before (line ∷ []), h.number_is);
  fine = insn_more h.before line is i h.fine speaks fits written room;
}

-- ---- one list

-- lines are those of one list of instructions
pub one_list : (is js : List Insn) → map line_of is ≡ map line_of js → is ≡ js
one_list [] [] e = refl
one_list [] (j ∷ js) e = absurd cc
one_list (i ∷ is) [] e = absurd cc
one_list (i ∷ is) (j ∷ js) e =
    let first : line_of i ≡ line_of j = cc in
    let rest : map line_of is ≡ map line_of js = cc in
    let a = line_once i j first in
    let b = one_list is js rest in
    λ k. a k ∷ b k

-- ---- faults

-- the list goes on where the lines do
goes_on : (js is : List Insn) (line : List ℕ) (more : List (List ℕ)) → map line_of is ≡ map line_of js ++ line ∷ more → (i : Insn) × (ks : List Insn) × (is ≡ js ++ i ∷ ks) × (line ≡ line_of i)
goes_on [] [] line more e = absurd cc
goes_on [] (i ∷ is) line more e = let first : line ≡ line_of i = cc in (i, is, refl, first)
goes_on (j ∷ js) [] line more e = absurd cc
goes_on (j ∷ js) (i ∷ is) line more e =
    let first : line_of i ≡ line_of j = cc in
    let rest : map line_of is ≡ map line_of js ++ line ∷ more = cc in
    let on = goes_on js is line more rest in
    let same = line_once i j first in
    (on.0, on.1, (λ k. same k ∷ on.2 k), on.3)

-- a line that is written for an instruction, with room for it, breaks no rule
fine_line : (n : ℕ) (i : Insn) (line : List ℕ) (r : TextRule) → Fits i → line ≡ line_of i → n + size_of i ≤ 1024 → LineBreaksFirst n r line → ⊥
fine_line n i line r fits e room broken = breaks r (first_holds (λ q. LineBreaks n q line) _ r broken)
  where
    breaks : (r : TextRule) → LineBreaks n r line → ⊥
    breaks rule.Word h = word_shape n line h i e
    breaks rule.Shape h = h i e
    breaks rule.Range h = h i fits e
    breaks rule.Limit h = absurd (omega (arith, h i fits e))

never : (lines before : List (List ℕ)) (line : List ℕ) (after : List (List ℕ)) (js is : List Insn) (r : TextRule) → lines ≡ before ++ line ∷ after → AreLines before js → is_silent line ≡ false → LineBreaksFirst (slots js) r line → AreLines lines is → ⊥
never lines before line after js is r whole fine speaks broken h =
    let e : map line_of is ≡ map line_of js ++ line ∷ spoken after =
    sym h.written ∙ ap spoken whole ∙ spoken_append before (line ∷ after) ∙ (λ k. fine.written k ++ spoken_line line after speaks k) in
    let on = goes_on js is line (spoken after) e in
    let fits = all_back js (on.0 ∷ on.1) (subst (λ (x : List Insn). AllByRecursion Fits x) on.2 h.fits) in
    let count = ap slots on.2 ∙ slots-append js (on.0 ∷ on.1) in
    let first = slots-cons on.0 on.1 in
    fine_line (slots js) on.0 line r fits.0 on.3 (omega (arith, h.limit)) broken

-- lines of a list of instructions have no fault
pub no_fault : (text : List ℕ) (is : List Insn) (r : TextRule) (n : ℕ) → AreLines (lines_of text) is → IsFault text r n → ⊥
no_fault text is r n h f = never (lines_of text) f.before f.line f.after f.insns is r f.whole f.fine f.speaks f.broken h

-- two places in one list of lines are one, or the first stands before the second, or the second before the first
record Same (a b : List (List ℕ)) (x y : List ℕ) : Type 0 where
  fronts : a ≡ b
  items : x ≡ y

places : (a b c d : List (List ℕ)) (x y : List ℕ) → a ++ x ∷ c ≡ b ++ y ∷ d → Same a b x y ⊎ (((more : List (List ℕ)) × (b ≡ a ++ x ∷ more)) ⊎ ((more : List (List ℕ)) × (a ≡ b ++ y ∷ more)))
places [] [] c d x y e = inl (record { fronts = refl; items = cc })
places [] (z ∷ zs) c d x y e = let first : x ≡ z = cc in inr (inl (zs, λ k. sym first k ∷ zs))
places (w ∷ ws) [] c d x y e = let first : w ≡ y = cc in inr (inr (ws, λ k. first k ∷ ws))
places (w ∷ ws) (z ∷ zs) c d x y e =
    let first : w ≡ z = cc in
    let rest : ws ++ x ∷ c ≡ zs ++ y ∷ d = cc in
    elim (places ws zs c d x y rest) [
      | inl same ↦ inl (record { fronts = λ k. first k ∷ same.fronts k; items = same.items })
      | inr (inl m) ↦ inr (inl (m.0, (λ k. sym first k ∷ m.1 k)))
      | inr (inr m) ↦ inr (inr (m.0, (λ k. first k ∷ m.1 k)))
    ]

-- a text has one fault at most
pub one_fault : (text : List ℕ) (q r : TextRule) (m n : ℕ) → IsFault text q m → IsFault text r n → (q ≡ r) × (m ≡ n)
one_fault text q r m n a b = elim (places a.before b.before a.after b.after a.line b.line (sym a.whole ∙ b.whole)) [
  | inl same ↦
      let insns = one_list a.insns b.insns (sym a.fine.written ∙ ap spoken same.fronts ∙ b.fine.written) in
      let P : List Insn → List ℕ → Type 0 = λ is l. LineBreaksFirst (slots is) q l in
      let moved : P b.insns b.line = subst (λ (l : List ℕ). P b.insns l) same.items (subst (λ (is : List Insn). P is a.line) insns a.broken) in
      (first_once (λ s. LineBreaks (slots b.insns) s b.line) _ q r moved b.broken, a.number_is ∙ ap (λ (x : List (List ℕ)). length x + 1) same.fronts ∙ sym b.number_is)
  | inr (inl m) ↦ absurd (never b.before a.before a.line m.0 a.insns b.insns q m.1 a.fine a.speaks a.broken b.fine)
  | inr (inr m) ↦ absurd (never a.before b.before b.line m.0 b.insns a.insns r m.1 b.fine b.speaks b.broken a.fine)
]

-- a refusal is of no list
pub only_these : (text : List ℕ) (result : Result (Vec Insn) AsmError) → IfOk result (λ v. AreLines (lines_of text) v.items) → IfErr result (IsRefusal text) → (is : List Insn) → AreLines (lines_of text) is → IfOk result (λ v. v.items ≡ is) × IfErr result (λ e. e ≡ Memory)
only_these text (Ok v) h k is fine = (one_list v.items is (sym h.written ∙ fine.written), tt)
only_these text (Err Memory) h k is fine = (tt, refl)
only_these text (Err (Fault r n)) h k is fine = absurd (no_fault text is r n fine k)
