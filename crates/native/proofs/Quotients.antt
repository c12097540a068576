-- The division itself, and unsigned quotients and remainders.
use Rattle.std.proofs.Common.{◌≡◌, ◌≢◌, ℕ, ◌+◌, ◌/◌, ◌%◌, ◌^◌, ◌<◌, ◌≤◌, true, false, cond, List, [], ◌∷◌, ◌++◌, length, refl, sym, ap, ◌∙◌, subst, ⊎_elim, arith, length-append}
use Rattle.std.specs.Prelude.{◌==◌, ◌||◌, not, slice_set, slice_index, slice_index_or}
use Rattle.std.proofs.lemmas.List.{length-set}
use Rattle.std.proofs.lemmas.Bool.{cases_eq}
use Rattle.decode.specs.declared.insn.Width.{Width}
use Rattle.decode.specs.declared.insn.Width.TheVariants.{W32, W64}
use Rattle.decode.specs.declared.insn.Operand.{Operand}
use Rattle.decode.specs.declared.insn.Operand.TheVariants as operand
use Rattle.operations.specs.Words.{bits_of, low_of}
use Rattle.helpers.specs.declared.effects.Who.{Who}
use Rattle.helpers.specs.Effects.{Emitted}
use Rattle.x86.specs.declared.instruction.Alu.TheVariants as alu
use Rattle.x86.specs.declared.instruction.ConditionCode.TheVariants as met
use Rattle.x86.specs.declared.instruction.Instr.{Instr}
use Rattle.x86.specs.declared.instruction.Instr.TheVariants as instr
use Rattle.x86.specs.Encoding.{bytes_of}
use Rattle.x86.specs.Machine.{Value, Word, Flags, Unknown, State, Goes, Stuck, value, with_word, word_or_stuck, put, computed, compared, operated, and_on, divides, act, HasAt}
use Rattle.native.specs.Tasks.{is_word, operand_of}
use Rattle.native.specs.Code.{gpr, codes, IsShort}
use Rattle.native.specs.Quotient.{width_size, divisor_code, quotient_code}
use Rattle.native.proofs.Registers.{named}
use Rattle.native.proofs.Runs.{has_front, has_back, codes-append}
use Rattle.native.proofs.Agreement.{Agrees, after, same, other, put_word, put_rcx, put_scratch, put_flags, puts, reads, reads_word}
use Rattle.native.proofs.Computations.{Gives, on_then, low_twice, word_register}
use Rattle.native.proofs.Helpers.{Comes, comes_on, comes_short, comes_here, section, moved, goes_one}

-- the division itself, between rax, rdx and rcx
pub record Divides (i j : Instr) (from x y b res : ℕ) : Type 0 where
  pub first : (s : State) → length s.regs ≡ 16 → value s 0 ≡ Word x → act i s ≡ Goes (after s s.flags 2 (Word y))
  pub q : ℕ
  pub r : ℕ
  pub then_it : (s : State) → length s.regs ≡ 16 → value s 0 ≡ Word x → value s 2 ≡ Word y → value s 1 ≡ Word b → act j s ≡ Goes (after (after s Unknown 0 (Word q)) Unknown 2 (Word r))
  pub takes : (s : State) → value s 0 ≡ Word q → value s 2 ≡ Word r → act (instr.Mov W64 1 from) s ≡ Goes (after s s.flags 1 (Word res))

-- what is done where the divisor is none of the exceptions
abbrev pub main_code : ℕ → Instr → Instr → ℕ → List Instr
main_code d i j from = instr.Push 0 ∷ instr.Mov W64 0 d ∷ i ∷ j ∷ instr.Mov W64 1 from ∷ instr.Pop 0 ∷ instr.Mov W64 d 1 ∷ []

-- how long it is
main_size : (w : Width) (d from : ℕ) → length (codes (main_code d (instr.MovImm 2 0) (instr.Div w 1) from)) ≡ 18 + width_size w
main_size W32 d from = refl
main_size W64 d from = refl

pub width_few : (w : Width) → width_size w ≤ 1
width_few W32 = omega arith
width_few W64 = omega arith

module _ {who : Who} {saved : List Value} {c : State} {words mem : List ℕ} {e : Emitted} {count : ℕ} (a : Agrees who saved c words mem e count) where
  -- the main code gives its result to the register
  pub main_gives : (d : ℕ) → d < 10 → (i j : Instr) (from y b res : ℕ) → value c 1 ≡ Word b → Divides i j from (slice_index words d) y b res → Gives who saved c words mem e count (main_code (gpr d) i j from) d res
  main_gives d h i j from y b res rcx v =
      let x = slice_index words d in
      let s1 : State = record c { pushed = value c 0 ∷ c.pushed } in
      let s2 = after s1 c.flags 0 (Word x) in
      let s3 = after s2 c.flags 2 (Word y) in
      let s4 = after s3 Unknown 0 (Word v.q) in
      let s5 = after s4 Unknown 2 (Word v.r) in
      let s6 = after s5 Unknown 1 (Word res) in
      let s7 : State = record s6 { pushed = c.pushed } in
      let s8 = after s7 Unknown 0 (value c 0) in
      let s9 = after s8 Unknown (gpr d) (Word res) in
      let l1 = a.sixteen in
      let l2 : length s2.regs ≡ 16 = length-set s1.regs 0 (Word x) ∙ l1 in
      let l3 : length s3.regs ≡ 16 = length-set s2.regs 2 (Word y) ∙ l2 in
      let l4 : length s4.regs ≡ 16 = length-set s3.regs 0 (Word v.q) ∙ l3 in
      let l5 : length s5.regs ≡ 16 = length-set s4.regs 2 (Word v.r) ∙ l4 in
      let l6 : length s6.regs ≡ 16 = length-set s5.regs 1 (Word res) ∙ l5 in
      let l8 : length s8.regs ≡ 16 = length-set s7.regs 0 (value c 0) ∙ l6 in
      let rax2 : value s2 0 ≡ Word x = same s1 c.flags 0 (Word x) l1 (omega arith) in
      let o2 : act (instr.Mov W64 0 (gpr d)) s1 ≡ Goes s2 = reads_at s1 d h refl in
      let o3 : act i s2 ≡ Goes s3 = v.first s2 l2 rax2 in
      let rax3 : value s3 0 ≡ Word x = other s2 c.flags 2 0 (Word y) (omega arith) ∙ rax2 in
      let rdx3 : value s3 2 ≡ Word y = same s2 c.flags 2 (Word y) l2 (omega arith) in
      let rcx3 : value s3 1 ≡ Word b = other s2 c.flags 2 1 (Word y) (omega arith) ∙ other s1 c.flags 0 1 (Word x) (omega arith) ∙ rcx in
      let o4 : act j s3 ≡ Goes s5 = v.then_it s3 l3 rax3 rdx3 rcx3 in
      let rax5 : value s5 0 ≡ Word v.q = other s4 Unknown 2 0 (Word v.r) (omega arith) ∙ same s3 Unknown 0 (Word v.q) l3 (omega arith) in
      let rdx5 : value s5 2 ≡ Word v.r = same s4 Unknown 2 (Word v.r) l4 (omega arith) in
      let o5 : act (instr.Mov W64 1 from) s5 ≡ Goes s6 = v.takes s5 rax5 rdx5 in
      let rcx8 : value s8 1 ≡ Word res = other s7 Unknown 0 1 (value c 0) (omega arith) ∙ same s5 Unknown 1 (Word res) l5 (omega arith) in
      let back : (q : ℕ) → q ≢ 1 → q ≢ 2 → value s8 q ≡ value c q =
      λ q n1 n2. ⊎_elim
      (λ (z : q ≡ 0). ap (value s8) z ∙ same s7 Unknown 0 (value c 0) l6 (omega arith) ∙ ap (value c) (sym z))
      (λ (z : q ≢ 0).
      other s7 Unknown 0 q (value c 0) z ∙ other s5 Unknown 1 q (Word res) n1 ∙ other s4 Unknown 2 q (Word v.r) n2
      ∙ other s3 Unknown 0 q (Word v.q) z ∙ other s2 c.flags 2 q (Word y) n2 ∙ other s1 c.flags 0 q (Word x) z)
      (cases_eq q 0) in
      let a8 : Agrees who saved s8 words mem e count = put_scratch a e s8 l8 back refl a.keeps refl in
      let o9 : act (instr.Mov W64 (gpr d) 1) s8 ≡ Goes s9 = ap (put s8 (gpr d)) rcx8 ∙ puts a8 Unknown d (Word res) h in
      record {
        c' = s9;
        goes =
            on_then (instr.Push 0) (instr.Mov W64 0 (gpr d) ∷ i ∷ j ∷ instr.Mov W64 1 from ∷ instr.Pop 0 ∷ instr.Mov W64 (gpr d) 1 ∷ []) c s1 s9 refl
            (on_then (instr.Mov W64 0 (gpr d)) (i ∷ j ∷ instr.Mov W64 1 from ∷ instr.Pop 0 ∷ instr.Mov W64 (gpr d) 1 ∷ []) s1 s2 s9 o2
            (on_then i (j ∷ instr.Mov W64 1 from ∷ instr.Pop 0 ∷ instr.Mov W64 (gpr d) 1 ∷ []) s2 s3 s9 o3
            (on_then j (instr.Mov W64 1 from ∷ instr.Pop 0 ∷ instr.Mov W64 (gpr d) 1 ∷ []) s3 s5 s9 o4
            (on_then (instr.Mov W64 1 from) (instr.Pop 0 ∷ instr.Mov W64 (gpr d) 1 ∷ []) s5 s6 s9 o5
            (on_then (instr.Pop 0) (instr.Mov W64 (gpr d) 1 ∷ []) s6 s8 s9 refl
            (goes_one (instr.Mov W64 (gpr d) 1) s8 s9 o9))))));
        agrees = put_word a8 Unknown d res h;
      }
    where
      reads_at : (s : State) (d : ℕ) → d < 10 → s.regs ≡ c.regs → act (instr.Mov W64 0 (gpr d)) s ≡ Goes (after s s.flags 0 (Word (slice_index words d)))
      reads_at s d h e =
          ap (λ b. cond b (put s 0 (value s (gpr d))) Stuck) (named d h)
          ∙ ap (λ v. put s 0 v) (ap (λ rs. slice_index_or rs (gpr d) (Word 0)) e ∙ a.each d h)

  -- the divisor is put into rcx
  pub divisor_acts : (w : Width) (o : Operand) → IsShort o → is_word o ≡ true → act (divisor_code w o) c ≡ Goes (after c c.flags 1 (Word (low_of w (operand_of words o))))
  divisor_acts W64 (operand.Imm z) s k = ap (λ q. put c 1 (Word q)) s
  divisor_acts W32 (operand.Imm z) s k = refl
  divisor_acts W64 (operand.Reg r) s k = reads a r.number (put c 1) (word_register r.number k)
  divisor_acts W32 (operand.Reg r) s k = reads_word a r.number (λ q. put c 1 (Word (q % 2 ^ 32))) (word_register r.number k)

-- the test finds a divisor of 0
pub zero_is : (w : Width) (q : ℕ) → (low_of w (low_of w q) == low_of w 0) ≡ (low_of w q == 0)
zero_is W32 q = ap (λ x. x == 0) (low_twice W32 q)
zero_is W64 q = refl

-- a division is not stuck where the test found none
zero_divisor : (w : Width) (b : ℕ) → (low_of w b == 0) ≡ false → (low_of w b == 0 || not (low_of w 0 == 0)) ≡ false
zero_divisor W32 b e = ap (λ x. x || false) e
zero_divisor W64 b e = ap (λ x. x || false) e

-- rdx is 0, and rcx is not
pub div_divides : (w : Width) (x q : ℕ) (from res : ℕ) → (low_of w q == 0) ≡ false → ((s : State) → value s 0 ≡ Word (low_of w x / low_of w q) → value s 2 ≡ Word (low_of w x % low_of w q) → act (instr.Mov W64 1 from) s ≡ Goes (after s s.flags 1 (Word res))) → Divides (instr.MovImm 2 0) (instr.Div w 1) from x 0 (low_of w q) res
div_divides w x q from res z t =
    let b = low_of w q in
    let z' : (low_of w b == 0) ≡ false = ap (λ y. y == 0) (low_twice w q) ∙ z in
    record {
      first = λ s l r. refl;
      q = low_of w x / b;
      r = low_of w x % b;
      then_it = λ s l r0 r2 r1.
          ap (λ v. word_or_stuck v (λ a. with_word s 2 (λ d. with_word s 1 (λ b. divides s w a d b)))) r0
          ∙ ap (λ v. word_or_stuck v (λ d. with_word s 1 (λ b. divides s w x d b))) r2
          ∙ ap (λ v. word_or_stuck v (λ b. divides s w x 0 b)) r1
          ∙ ap (λ t. cond t Stuck (and_on (computed s 0 (low_of w x / low_of w b)) (λ c. put c 2 (Word (low_of w x % low_of w b))))) (zero_divisor w b z')
          ∙ ap (λ y. and_on (computed s 0 (low_of w x / y)) (λ c. put c 2 (Word (low_of w x % y)))) (low_twice w q);
      takes = t;
    }

-- the quotient is taken from rax
pub takes_0 : (s : State) (q r : ℕ) → value s 0 ≡ Word q → value s 2 ≡ Word r → act (instr.Mov W64 1 0) s ≡ Goes (after s s.flags 1 (Word q))
takes_0 s q r a b = ap (put s 1) a

-- the remainder is taken from rdx
pub takes_2 : (s : State) (q r : ℕ) → value s 0 ≡ Word q → value s 2 ≡ Word r → act (instr.Mov W64 1 2) s ≡ Goes (after s s.flags 1 (Word r))
takes_2 s q r a b = ap (put s 1) b

module _ {who : Who} {saved : List Value} {c : State} {words mem : List ℕ} {e : Emitted} {count : ℕ} (a : Agrees who saved c words mem e count) (code : List ℕ) (w : Width) (d : ℕ) (h : d < 10) (o : Operand) (s : IsShort o) (k : is_word o ≡ true) where
  abbrev x : ℕ
  x = slice_index words d

  abbrev y : ℕ
  y = operand_of words o

  -- both ways behind the test
  pub quotient_at : (p to : ℕ) (first none : Instr) (n from nothing res result : ℕ) → divisor_code w o ≡ first → HasAt code p (codes (quotient_code first w (gpr d) from none n)) → length (bytes_of none) ≡ n → n ≤ 3 → p + length (codes (quotient_code first w (gpr d) from none n)) ≡ to → to < 2 ^ 64
      → ((c' : State) → Agrees who saved c' words mem e count → (f : Flags) × (act none c' ≡ Goes (after c' f (gpr d) (Word nothing))))
      → ((low_of w y == 0) ≡ true → result ≡ nothing)
      → ((low_of w y == 0) ≡ false → (result ≡ res) × Divides (instr.MovImm 2 0) (instr.Div w 1) from x 0 (low_of w y) res)
      → Comes who saved count code p to c (slice_set words d result) mem e
  quotient_at p to first none n from nothing res result f at long few t fits acts zero_case other_case =
      let b = low_of w y in
      let c1 = after c c.flags 1 (Word b) in
      let a1 : Agrees who saved c1 words mem e count = put_rcx a c.flags (Word b) in
      let rcx1 : value c1 1 ≡ Word b = same c c.flags 1 (Word b) a.sixteen (omega arith) in
      let fl = compared (bits_of w) (low_of w b) (low_of w 0) in
      let c2 : State = record c1 { flags = fl } in
      let a2 : Agrees who saved c2 words mem e count = put_flags a1 fl in
      let cmp = instr.AluImm alu.Cmp w 1 0 in
      let is0 = first ∷ cmp ∷ [] in
      let past = 20 + width_size w in
      let part0 = is0 ++ instr.JumpIfShort met.Equal past ∷ [] in
      let part1 = main_code (gpr d) (instr.MovImm 2 0) (instr.Div w 1) from in
      let part2 = instr.JumpShort n ∷ [] in
      let part3 = none ∷ [] in
      let e0 = codes-append part0 (part1 ++ (part2 ++ part3)) in
      let at' : HasAt code p (codes part0 ++ codes (part1 ++ (part2 ++ part3))) = subst (HasAt code p) e0 at in
      let h0 = has_front code p (codes part0) (codes (part1 ++ (part2 ++ part3))) at' in
      let next = p + length (codes is0) + 2 in
      let n0 : length (codes part0) ≡ length (codes is0) + 2 = ap length (codes-append is0 (instr.JumpIfShort met.Equal past ∷ [])) ∙ length-append (codes is0) (codes (instr.JumpIfShort met.Equal past ∷ [])) in
      let q0 : p + length (codes part0) ≡ next = omega arith in
      let h1 : HasAt code next (codes part1 ++ (codes part2 ++ codes part3)) = subst (HasAt code next) (codes-append part1 (part2 ++ part3)) (moved code (codes (part1 ++ (part2 ++ part3))) (p + length (codes part0)) next q0 (has_back code p (codes part0) (codes (part1 ++ (part2 ++ part3))) at')) in
      let hm = has_front code next (codes part1) (codes part2 ++ codes part3) h1 in
      let main : length (codes part1) ≡ 18 + width_size w = main_size w (gpr d) from in
      let there = next + length (codes part1) in
      let h2 : HasAt code there (codes part2 ++ codes part3) = has_back code next (codes part1) (codes part2 ++ codes part3) h1 in
      let hj = has_front code there (codes part2) (codes part3) h2 in
      let hn0 : HasAt code (there + 2) (codes part3) = has_back code there (codes part2) (codes part3) h2 in
      let q1 : there + 2 ≡ next + past = omega arith in
      let hn : HasAt code (next + past) (codes part3) = moved code (codes part3) (there + 2) (next + past) q1 hn0 in
      let l3 : length (codes part3) ≡ n = length-append (bytes_of none) [] ∙ (let z : length (bytes_of none) + 0 ≡ n = omega arith in z) in
      let m1 = ap length (codes-append part1 (part2 ++ part3)) ∙ length-append (codes part1) (codes (part2 ++ part3)) in
      let m2 = ap length (codes-append part2 part3) ∙ length-append (codes part2) (codes part3) in
      let m3 = ap length e0 ∙ length-append (codes part0) (codes (part1 ++ (part2 ++ part3))) in
      let q2 : next + past + n ≡ to = omega arith in
      let wide : width_size w ≤ 1 = width_few w in
      let o1 : act first c ≡ Goes c1 = subst (λ y. act y c ≡ Goes c1) f (divisor_acts a w o s k) in
      let o2 : act cmp c1 ≡ Goes c2 = ap (λ v. word_or_stuck v (λ a. operated alu.Cmp c1 w 1 a 0)) rcx1 in
      section is0 met.Equal p past (next + past) next to (low_of w b == low_of w 0) c c2 h0 (on_then first (cmp ∷ []) c c1 c2 o1 (goes_one cmp c1 c2 o2)) refl (omega arith) refl refl (omega arith)
      (λ z.
      let z' : (low_of w y == 0) ≡ true = sym (zero_is w y) ∙ z in
      let k = acts c2 a2 in
      let c3 = after c2 k.0 (gpr d) (Word nothing) in
      subst (λ r. Comes who saved count code (next + past) to c2 (slice_set words d r) mem e) (sym (zero_case z'))
      (comes_on part3 (next + past) to to c2 c3 hn (goes_one none c2 c3 k.1) (omega arith) (comes_here to c3 (put_word a2 k.0 d nothing h))))
      (λ z.
      let z' : (low_of w y == 0) ≡ false = sym (zero_is w y) ∙ z in
      let k = other_case z' in
      let g = main_gives a2 d h (instr.MovImm 2 0) (instr.Div w 1) from 0 b res rcx1 k.1 in
      subst (λ r. Comes who saved count code next to c2 (slice_set words d r) mem e) (sym k.0)
      (comes_on part1 next there to c2 g.c' hm g.goes refl
      (comes_short there n to to g.c' hj (omega arith) (omega arith) fits (comes_here to g.c' g.agrees))))
