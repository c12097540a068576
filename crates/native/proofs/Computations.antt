-- Tasks that compute without jumps: a register gets their result.
use Rattle.std.proofs.Common.{◌≡◌, ℕ, zero, suc, ◌*◌, ◌/◌, ◌%◌, ◌^◌, ◌<◌, ◌≤◌, Bool, true, false, cond, List, [], ◌∷◌, refl, sym, ap, ◌∙◌, subst, arith}
use Rattle.std.specs.Prelude.{◌==◌, ◌&&◌, nat_lt, nat_le, slice_set, slice_index}
use Rattle.std.proofs.Math.Nat.{mod-eq_of_lt, mod-mod}
use Rattle.std.proofs.lemmas.Nat.{mod_below}
use Rattle.std.proofs.lemmas.Bool.Decides.{nat_tests}
use Rattle.std.proofs.lemmas.List.{get_or-set_same}
use Rattle.decode.specs.declared.insn.AluOp.{AluOp}
use Rattle.decode.specs.declared.insn.AluOp.TheVariants as op
use Rattle.decode.specs.declared.insn.Width.{Width}
use Rattle.decode.specs.declared.insn.Width.TheVariants.{W32, W64}
use Rattle.decode.specs.declared.insn.ByteOrder.{ByteOrder}
use Rattle.decode.specs.declared.insn.ByteOrder.TheVariants as order
use Rattle.decode.specs.declared.insn.SwapBits.{SwapBits}
use Rattle.decode.specs.declared.insn.SwapBits.TheVariants as bits
use Rattle.decode.specs.declared.insn.Operand.{Operand}
use Rattle.decode.specs.declared.insn.Operand.TheVariants as operand
use Rattle.decode.specs.declared.insn.Reg.{Reg}
use Rattle.operations.specs.Operations.{result_of, reorder_of, word_of}
use Rattle.operations.specs.Words.{bits_of, low_of}
use Rattle.operations.specs.ByteSwap.{reversed}
use Rattle.helpers.specs.declared.effects.Who.{Who}
use Rattle.helpers.specs.Effects.{Emitted}
use Rattle.x86.specs.declared.instruction.Alu.{Alu}
use Rattle.x86.specs.declared.instruction.Alu.TheVariants as alu
use Rattle.x86.specs.declared.instruction.Shift.{Shift}
use Rattle.x86.specs.declared.instruction.Shift.TheVariants as shift
use Rattle.x86.specs.declared.instruction.Instr.{Instr}
use Rattle.x86.specs.declared.instruction.Instr.TheVariants as instr
use Rattle.x86.specs.Machine.{Value, Word, Flags, Unknown, State, Goes, Stuck, by_outcome, value, with_word, word_or_stuck, put, extended, computed, operated, shifted, shifts, low_swapped, act}
use Rattle.native.specs.declared.body.Body.TheVariants.{One, Two}
use Rattle.native.specs.Tasks.{operand_of, is_word, is_read}
use Rattle.native.specs.Code.{gpr, clear, alu_code, mul_code, shift_code, number_code, move_code, compute_code, reorder_code, IsBody, IsShort}
use Rattle.native.proofs.Registers.{below_sixteen, another}
use Rattle.native.proofs.Runs.{GoesAll}
use Rattle.native.proofs.Agreement.{Agrees, after, same, other, put_word, put_rcx, puts, reads, reads_word, clears}

-- quotients and remainders have jumps
abbrev pub HasBody : AluOp → Type 0
HasBody op.Div = ⊥
HasBody op.Mod = ⊥
HasBody op.Sdiv = ⊥
HasBody op.Smod = ⊥
HasBody o = Unit {0}

-- a register that may hold a word is one of r0 to r9
pub word_register : (r : ℕ) → nat_lt r 10 ≡ true → r < 10
word_register r h = grind (arith, nat_tests)

-- an instruction that goes on, and then others
pub on_then : (i : Instr) (is : List Instr) (c c1 c' : State) → act i c ≡ Goes c1 → GoesAll is c1 c' → GoesAll (i ∷ is) c c'
on_then i is c c1 c' e g = subst (λ o. by_outcome o (λ d. GoesAll is d c') (λ d. ⊥) ⊥ ⊥) (sym e) g

-- of two values that a register gets the second stays
set_twice : (xs : List ℕ) (d v w : ℕ) → slice_set (slice_set xs d v) d w ≡ slice_set xs d w
set_twice [] d v w = refl
set_twice (x ∷ xs) zero v w = refl
set_twice (x ∷ xs) (suc d) v w = ap (λ l. x ∷ l) (set_twice xs d v w)

-- from these words the instructions go on to where a register has this word
pub record Gives (who : Who) (saved : List Value) (c : State) (words mem : List ℕ) (e : Emitted) (count : ℕ) (is : List Instr) (d w : ℕ) : Type 0 where
  pub c' : State
  pub goes : GoesAll is c c'
  pub agrees : Agrees who saved c' (slice_set words d w) mem e count

pub mod_small : (a n : ℕ) → 0 < n → a % n < n
mod_small a n h = mod_below a n h

module _ {who : Who} {saved : List Value} {c : State} {words mem : List ℕ} {e : Emitted} {count : ℕ} (a : Agrees who saved c words mem e count) where
  -- one instruction does it
  pub by_one : (i : Instr) (is : List Instr) (f : Flags) (d w : ℕ) → d < 10 → is ≡ i ∷ [] → act i c ≡ Goes (after c f (gpr d) (Word w)) → Gives who saved c words mem e count is d w
  by_one i is f d w h b g = record {
    c' = after c f (gpr d) (Word w);
    goes = subst (λ l. GoesAll l c (after c f (gpr d) (Word w))) (sym b) (on_then i [] c (after c f (gpr d) (Word w)) (after c f (gpr d) (Word w)) g refl);
    agrees = put_word a f d w h;
  }

  -- the register's own word after a move, and then an instruction
  by_move : (w : Width) (i : Instr) (is : List Instr) (d v : ℕ) → d < 10 → is ≡ instr.Mov w (gpr d) (gpr d) ∷ i ∷ [] → ((f : Flags) → (c1 : State) → c1 ≡ after c f (gpr d) (Word (low_of w (slice_index words d))) → Agrees who saved c1 (slice_set words d (low_of w (slice_index words d))) mem e count → (g : Flags) × (act i c1 ≡ Goes (after c1 g (gpr d) (Word v)))) → Gives who saved c words mem e count is d v
  by_move w i is d v h b k =
      let x = low_of w (slice_index words d) in
      let c1 = after c c.flags (gpr d) (Word x) in
      let a1 : Agrees who saved c1 (slice_set words d x) mem e count = put_word a c.flags d x h in
      let y = k c.flags c1 refl a1 in
      let c2 = after c1 y.0 (gpr d) (Word v) in
      let a2 : Agrees who saved c2 (slice_set (slice_set words d x) d v) mem e count = put_word a1 y.0 d v h in
      record {
        c' = c2;
        goes = subst (λ l. GoesAll l c c2) (sym b) (on_then (instr.Mov w (gpr d) (gpr d)) (i ∷ []) c c1 c2 (moves w) (on_then i [] c1 c2 c2 y.1 refl));
        agrees = subst (λ ws. Agrees who saved c2 ws mem e count) (set_twice words d x v) a2;
      }
    where
      moves : (w : Width) → act (instr.Mov w (gpr d) (gpr d)) c ≡ Goes (after c c.flags (gpr d) (Word (low_of w (slice_index words d))))
      moves W64 = reads a d (put c (gpr d)) h ∙ puts a c.flags d _ h
      moves W32 = reads_word a d (λ q. put c (gpr d) (Word (q % 2 ^ 32))) h ∙ puts a c.flags d _ h

  module _ (w : Width) (d : ℕ) (h : d < 10) where
    abbrev mine : ℕ
    mine = slice_index words d

    abbrev Result : AluOp → Operand → List Instr → Type 0
    Result o b is = Gives who saved c words mem e count is d (result_of o w mine (operand_of words b))

    alu_case : (o : AluOp) (x : Alu) (b : Operand) (is : List Instr) → ((p q : ℕ) → operated x c w (gpr d) p q ≡ computed c (gpr d) (result_of o w p q)) → IsBody (alu_code x w (gpr d) b) is → IsShort b → is_word b ≡ true → Result o b is
    alu_case o x (operand.Imm z) is f j s k =
        by_one _ is Unknown d _ h j (reads_word a d (λ p. operated x c w (gpr d) p (extended (word_of z))) h
        ∙ ap (λ q. operated x c w (gpr d) mine q) s
        ∙ f mine (word_of z)
        ∙ puts a Unknown d _ h)
    alu_case o x (operand.Reg r) is f j s k =
        by_one _ is Unknown d _ h j (reads_word a d (λ p. with_word c (gpr r.number) (λ q. operated x c w (gpr d) p q)) h
        ∙ reads_word a r.number (λ q. operated x c w (gpr d) mine q) (word_register r.number k)
        ∙ f mine (slice_index words r.number)
        ∙ puts a Unknown d _ h)

    mul_case : (b : Operand) (is : List Instr) → IsBody (mul_code w (gpr d) b) is → IsShort b → is_word b ≡ true → Result op.Mul b is
    mul_case (operand.Imm z) is j s k =
        by_one _ is Unknown d _ h j (reads_word a d (λ p. computed c (gpr d) (low_of w p * low_of w (extended (word_of z)) % 2 ^ bits_of w)) h
        ∙ ap (λ q. computed c (gpr d) (low_of w mine * low_of w q % 2 ^ bits_of w)) s
        ∙ puts a Unknown d _ h)
    mul_case (operand.Reg r) is j s k =
        by_one _ is Unknown d _ h j (reads_word a d (λ p. with_word c (gpr r.number) (λ q. computed c (gpr d) (low_of w p * low_of w q % 2 ^ bits_of w))) h
        ∙ reads_word a r.number (λ q. computed c (gpr d) (low_of w mine * low_of w q % 2 ^ bits_of w)) (word_register r.number k)
        ∙ puts a Unknown d _ h)

  -- moves
  move_case : (w : Width) (d : ℕ) (b : Operand) (is : List Instr) → d < 10 → IsBody (move_code w (gpr d) b) is → IsShort b → Gives who saved c words mem e count is d (low_of w (operand_of words b))
  move_case w d (operand.Imm z) is h j s = by_zero (word_of z == 0) refl j
    where
      low_zero : (w : Width) (n : ℕ) → n ≡ 0 → 0 ≡ low_of w n
      low_zero W32 n e = ap (λ k. k % 2 ^ 32) (sym e)
      low_zero W64 n e = sym e

      by_number : (w : Width) → IsBody (number_code w (gpr d) (word_of z)) is → Gives who saved c words mem e count is d (low_of w (word_of z))
      by_number W64 j = by_test (nat_lt (word_of z) (2 ^ 31)) refl j
        where
          by_test : (t : Bool) → nat_lt (word_of z) (2 ^ 31) ≡ t → IsBody (cond t (One (instr.MovImm (gpr d) (word_of z))) (One (instr.MovSigned (gpr d) (word_of z)))) is → Gives who saved c words mem e count is d (word_of z)
          by_test true t j =
              let l : word_of z < 2 ^ 32 = grind (arith, nat_tests) in
              by_one _ is c.flags d _ h j (ap (λ q. put c (gpr d) (Word q)) (mod-eq_of_lt l) ∙ puts a c.flags d (Word (word_of z)) h)
          by_test false t j = by_one _ is c.flags d _ h j (ap (λ q. put c (gpr d) (Word q)) s ∙ puts a c.flags d (Word (word_of z)) h)
      by_number W32 j = by_one _ is c.flags d _ h j (puts a c.flags d (Word (word_of z % 2 ^ 32)) h)

      by_zero : (t : Bool) → (word_of z == 0) ≡ t → IsBody (cond t (One (clear (gpr d))) (number_code w (gpr d) (word_of z))) is → Gives who saved c words mem e count is d (low_of w (word_of z))
      by_zero true t j =
          let n : word_of z ≡ 0 = grind (arith, nat_tests) in
          by_one _ is Unknown d _ h j (clears a d h ∙ ap (λ q. Goes (after c Unknown (gpr d) (Word q))) (low_zero w (word_of z) n))
      by_zero false t j = by_number w j
  move_case w d (operand.Reg r) is h j s = by_test w (nat_lt r.number 10) refl j
    where
      ten : (b : nat_lt r.number 10 ≡ false) → slice_index words r.number ≡ 0
      ten b = let l : 10 ≤ r.number = grind (arith, nat_tests) in let k = r.in_range in let n : r.number ≡ 10 = omega arith in ap (slice_index words) n ∙ a.ten

      by_test : (w : Width) (b : Bool) → nat_lt r.number 10 ≡ b → IsBody (cond b (One (instr.Mov w (gpr d) (gpr r.number))) (One (clear (gpr d)))) is → Gives who saved c words mem e count is d (low_of w (slice_index words r.number))
      by_test W64 true t j =
          let l : r.number < 10 = grind (arith, nat_tests) in
          by_one _ is c.flags d _ h j (reads a r.number (put c (gpr d)) l ∙ puts a c.flags d _ h)
      by_test W32 true t j =
          let l : r.number < 10 = grind (arith, nat_tests) in
          by_one _ is c.flags d _ h j (reads_word a r.number (λ q. put c (gpr d) (Word (q % 2 ^ 32))) l ∙ puts a c.flags d _ h)
      by_test W64 false t j =
          by_one _ is Unknown d _ h j (clears a d h ∙ ap (λ q. Goes (after c Unknown (gpr d) (Word q))) (sym (ten t)))
      by_test W32 false t j =
          by_one _ is Unknown d _ h j (clears a d h ∙ ap (λ q. Goes (after c Unknown (gpr d) (Word (q % 2 ^ 32)))) (sym (ten t)))

-- ---- shifts

-- the operation that a shift is
abbrev pub op_of : Shift → AluOp
op_of shift.Left = op.Lsh
op_of shift.Right = op.Rsh
op_of shift.RightSigned = op.Arsh

-- the result, by the count modulo the width
result_is : (x : Shift) (w : Width) (p q k : ℕ) → low_of w q % bits_of w ≡ k → shifted x (bits_of w) (low_of w p) k ≡ result_of (op_of x) w p q
result_is shift.Left w p q k e = ap (λ j. low_of w p * 2 ^ j % 2 ^ bits_of w) (sym e)
result_is shift.Right w p q k e = ap (λ j. low_of w p / 2 ^ j) (sym e)
result_is shift.RightSigned w p q k e = ap (shifted shift.RightSigned (bits_of w) (low_of w p)) (sym e)

-- cl masks as a shift of 32 bits does
low_mod : (q : ℕ) → q % 2 ^ 32 % 32 ≡ q % 32
low_mod q = omega arith

-- cl masks as a shift of 64 bits does
low_mod64 : (q : ℕ) → q % 2 ^ 32 % 64 ≡ q % 64
low_mod64 q = omega arith

-- a count of an operand, as the code has it
counted : (w : Width) (q : ℕ) → low_of w q % bits_of w ≡ q % bits_of w
counted W32 q = low_mod q
counted W64 q = refl

-- a shift that is not by 0, or of a word with a clear upper half
shifts_are : (x : Shift) (c : State) (w : Width) (d p k : ℕ) → ((k == 0 && nat_le (2 ^ 32) p) ≡ false) → shifts x c w d p k ≡ computed c d (shifted x (bits_of w) (low_of w p) k)
shifts_are x c W32 d p k e = ap (λ b. cond b Stuck (computed c d (shifted x 32 (p % 2 ^ 32) k))) e
shifts_are x c W64 d p k e = refl

-- taking the low half twice is taking it once
pub low_twice : (w : Width) (p : ℕ) → low_of w (low_of w p) ≡ low_of w p
low_twice W32 p = mod-mod p (2 ^ 32)
low_twice W64 p = refl

-- a word of 32 bits that was moved has a clear upper half
clear_half : (k p : ℕ) → (k == 0 && nat_le (2 ^ 32) (p % 2 ^ 32)) ≡ false
clear_half k p = let l : p % 2 ^ 32 < 2 ^ 32 = mod_small p (2 ^ 32) (omega arith) in grind (arith, nat_tests)

-- behind `mov r, r` of the same width a shift is never stuck
shifts_moved : (x : Shift) (c : State) (w : Width) (d p k : ℕ) → shifts x c w d (low_of w p) k ≡ computed c d (shifted x (bits_of w) (low_of w p) k)
shifts_moved x c W32 d p k = shifts_are x c W32 d (p % 2 ^ 32) k (clear_half k p) ∙ ap (λ q. computed c d (shifted x 32 q k)) (low_twice W32 p)
shifts_moved x c W64 d p k = refl

module _ {who : Who} {saved : List Value} {c : State} {words mem : List ℕ} {e : Emitted} {count : ℕ} (a : Agrees who saved c words mem e count) where
  module _ (x : Shift) (w : Width) (d : ℕ) (h : d < 10) where
    abbrev my : ℕ
    my = slice_index words d

    abbrev Shifts : Operand → List Instr → Type 0
    Shifts b is = Gives who saved c words mem e count is d (result_of (op_of x) w my (operand_of words b))

    shift_imm : (z : _) (is : List Instr) → IsBody (shift_code x w (gpr d) (operand.Imm z)) is → Shifts (operand.Imm z) is
    shift_imm z is j = by_test (word_of z % bits_of w == 0) refl j
      where
        again : (w : Width) → word_of z % bits_of w % bits_of w ≡ word_of z % bits_of w
        again W32 = mod-mod (word_of z) 32
        again W64 = mod-mod (word_of z) 64

        none : (w : Width) → 0 % bits_of w ≡ 0
        none W32 = refl
        none W64 = refl

        by_test : (t : Bool) → (word_of z % bits_of w == 0) ≡ t → IsBody (cond t (Two (instr.Mov w (gpr d) (gpr d)) (instr.Shift x w (gpr d) 0)) (One (instr.Shift x w (gpr d) (word_of z % bits_of w)))) is → Shifts (operand.Imm z) is
        by_test true t j =
            by_move a w (instr.Shift x w (gpr d) 0) is d _ h j (λ f c1 e1 a1.
            let zero_is : word_of z % bits_of w ≡ 0 = grind (arith, nat_tests) in
            let y = same c f (gpr d) (Word (low_of w my)) a.sixteen (below_sixteen d h) in (
              Unknown,
              reads_word a1 d (λ p. shifts x c1 w (gpr d) p (0 % bits_of w)) h
                  ∙ ap (λ p. shifts x c1 w (gpr d) p (0 % bits_of w)) (get_or-set_same words d (low_of w my) 0 (let l = a.eleven in omega arith))
                  ∙ ap (λ q. shifts x c1 w (gpr d) (low_of w my) q) (none w)
                  ∙ shifts_moved x c1 w (gpr d) my 0
                  ∙ ap (computed c1 (gpr d)) (result_is x w my (word_of z) 0 (counted w (word_of z) ∙ zero_is))
                  ∙ puts a1 Unknown d _ h,
            ))
        by_test false t j =
            let k = word_of z % bits_of w in
            by_one a _ is Unknown d _ h j (reads_word a d (λ p. shifts x c w (gpr d) p (k % bits_of w)) h
            ∙ ap (λ q. shifts x c w (gpr d) my q) (again w)
            ∙ shifts_are x c w (gpr d) my k (ap (λ b. b && nat_le (2 ^ 32) my) t)
            ∙ ap (computed c (gpr d)) (result_is x w my (word_of z) k (counted w (word_of z)))
            ∙ puts a Unknown d _ h)

  -- the count is copied to rcx
  module _ (r : Reg) (l : r.number < 10) where
    abbrev its : ℕ
    its = slice_index words r.number

    abbrev c1 : State
    c1 = after c c.flags 1 (Word (its % 2 ^ 32))

    count_moves : act (instr.Mov W32 1 (gpr r.number)) c ≡ Goes c1
    count_moves = reads_word a r.number (λ q. put c 1 (Word (q % 2 ^ 32))) l

    abbrev a1 : Agrees who saved c1 words mem e count
    a1 = put_rcx a c.flags (Word (its % 2 ^ 32))

    rcx_is : value c1 1 ≡ Word (its % 2 ^ 32)
    rcx_is = same c c.flags 1 (Word (its % 2 ^ 32)) a.sixteen (omega arith)

    shift_by_64 : (x : Shift) (d : ℕ) (is : List Instr) → d < 10 → is ≡ instr.Mov W32 1 (gpr r.number) ∷ instr.ShiftBy x W64 (gpr d) ∷ [] → Gives who saved c words mem e count is d (result_of (op_of x) W64 (slice_index words d) its)
    shift_by_64 x d is h j =
        let p = slice_index words d in
        let g = by_one a1 (instr.ShiftBy x W64 (gpr d)) _ Unknown d _ h refl (reads_word a1 d (λ p. with_word c1 1 (λ k. shifts x c1 W64 (gpr d) p (k % 64))) h
        ∙ ap (λ v. word_or_stuck v (λ k. shifts x c1 W64 (gpr d) p (k % 64))) rcx_is
        ∙ ap (computed c1 (gpr d)) (result_is x W64 p its (its % 2 ^ 32 % 64) (sym (low_mod64 its)))
        ∙ puts a1 Unknown d _ h) in
        record {
          c' = g.c';
          goes = subst (λ q. GoesAll q c g.c') (sym j) (on_then (instr.Mov W32 1 (gpr r.number)) (instr.ShiftBy x W64 (gpr d) ∷ []) c c1 g.c' count_moves g.goes);
          agrees = g.agrees;
        }

    shift_by_32 : (x : Shift) (d : ℕ) (is : List Instr) → d < 10 → is ≡ instr.Mov W32 1 (gpr r.number) ∷ instr.Mov W32 (gpr d) (gpr d) ∷ instr.ShiftBy x W32 (gpr d) ∷ [] → Gives who saved c words mem e count is d (result_of (op_of x) W32 (slice_index words d) its)
    shift_by_32 x d is h j =
        let p = slice_index words d in
        let g = by_move a1 W32 (instr.ShiftBy x W32 (gpr d)) (instr.Mov W32 (gpr d) (gpr d) ∷ instr.ShiftBy x W32 (gpr d) ∷ []) d (result_of (op_of x) W32 p its) h refl (λ f c2 e2 a2.
        let there : value c2 1 ≡ Word (its % 2 ^ 32) = ap (λ y. value y 1) e2 ∙ other c1 f (gpr d) 1 (Word (p % 2 ^ 32)) (λ q. another d 1 h refl (sym q)) ∙ rcx_is in (
          Unknown,
          reads_word a2 d (λ p. with_word c2 1 (λ k. shifts x c2 W32 (gpr d) p (k % 32))) h
              ∙ ap (λ q. with_word c2 1 (λ k. shifts x c2 W32 (gpr d) q (k % 32))) (get_or-set_same words d (p % 2 ^ 32) 0 (let l = a.eleven in omega arith))
              ∙ ap (λ v. word_or_stuck v (λ k. shifts x c2 W32 (gpr d) (p % 2 ^ 32) (k % 32))) there
              ∙ shifts_moved x c2 W32 (gpr d) p (its % 2 ^ 32 % 32)
              ∙ ap (computed c2 (gpr d)) (result_is x W32 p its (its % 2 ^ 32 % 32) refl)
              ∙ puts a2 Unknown d _ h,
        )) in
        record {
          c' = g.c';
          goes = subst (λ q. GoesAll q c g.c') (sym j) (on_then (instr.Mov W32 1 (gpr r.number)) (instr.Mov W32 (gpr d) (gpr d) ∷ instr.ShiftBy x W32 (gpr d) ∷ []) c c1 g.c' count_moves g.goes);
          agrees = g.agrees;
        }

  shift_case : (x : Shift) (w : Width) (d : ℕ) (b : Operand) (is : List Instr) → d < 10 → IsBody (shift_code x w (gpr d) b) is → is_word b ≡ true → Gives who saved c words mem e count is d (result_of (op_of x) w (slice_index words d) (operand_of words b))
  shift_case x w d (operand.Imm z) is h j k = shift_imm x w d h z is j
  shift_case x W64 d (operand.Reg r) is h j k = shift_by_64 r (word_register r.number k) x d is h j
  shift_case x W32 d (operand.Reg r) is h j k = shift_by_32 r (word_register r.number k) x d is h j

  pub compute_case : (o : AluOp) (w : Width) (d : ℕ) (b : Operand) (is : List Instr) → d < 10 → HasBody o → IsBody (compute_code o w (gpr d) b) is → IsShort b → is_read o b ≡ true → Gives who saved c words mem e count is d (result_of o w (slice_index words d) (operand_of words b))
  compute_case op.Mov w d b is h v j s k = move_case a w d b is h j s
  compute_case op.Add w d b is h v j s k = alu_case a w d h op.Add alu.Add b is (λ p q. refl) j s k
  compute_case op.Sub w d b is h v j s k = alu_case a w d h op.Sub alu.Sub b is (λ p q. refl) j s k
  compute_case op.Or w d b is h v j s k = alu_case a w d h op.Or alu.Or b is (λ p q. refl) j s k
  compute_case op.And w d b is h v j s k = alu_case a w d h op.And alu.And b is (λ p q. refl) j s k
  compute_case op.Xor w d b is h v j s k = alu_case a w d h op.Xor alu.Xor b is (λ p q. refl) j s k
  compute_case op.Mul w d b is h v j s k = mul_case a w d h b is j s k
  compute_case op.Lsh w d b is h v j s k = shift_case shift.Left w d b is h j k
  compute_case op.Rsh w d b is h v j s k = shift_case shift.Right w d b is h j k
  compute_case op.Arsh w d b is h v j s k = shift_case shift.RightSigned w d b is h j k
  compute_case o w d b is h v j s k = absurd v

  -- ---- byte orders

  swap16 : (p : ℕ) → low_swapped p % 2 ^ 16 ≡ reversed 2 p
  swap16 p = omega arith

  swap_case : (o : ByteOrder) (d : ℕ) (is : List Instr) → d < 10 → reorder_of o bits.Bits16 (slice_index words d) ≡ reversed 2 (slice_index words d) → is ≡ instr.SwapLow (gpr d) ∷ instr.MovZx (gpr d) (gpr d) ∷ [] → Gives who saved c words mem e count is d (reorder_of o bits.Bits16 (slice_index words d))
  swap_case o d is h r j =
      let p = slice_index words d in
      let x = low_swapped p in
      let c1 = after c Unknown (gpr d) (Word x) in
      let a1 : Agrees who saved c1 (slice_set words d x) mem e count = put_word a Unknown d x h in
      let v = reorder_of o bits.Bits16 p in
      let c2 = after c1 Unknown (gpr d) (Word v) in
      let a2 : Agrees who saved c2 (slice_set (slice_set words d x) d v) mem e count = put_word a1 Unknown d v h in
      record {
        c' = c2;
        goes = subst (λ l. GoesAll l c c2) (sym j) (on_then (instr.SwapLow (gpr d)) (instr.MovZx (gpr d) (gpr d) ∷ []) c c1 c2
            (reads_word a d (λ q. computed c (gpr d) (low_swapped q)) h ∙ puts a Unknown d _ h)
            (on_then (instr.MovZx (gpr d) (gpr d)) [] c1 c2 c2
            (reads_word a1 d (λ n. put c1 (gpr d) (Word (n % 2 ^ 16))) h
            ∙ ap (λ q. put c1 (gpr d) (Word (q % 2 ^ 16))) (get_or-set_same words d x 0 (let l = a.eleven in omega arith))
            ∙ ap (λ q. put c1 (gpr d) (Word q)) (swap16 p ∙ sym r)
            ∙ puts a1 Unknown d _ h) refl));
        agrees = subst (λ ws. Agrees who saved c2 ws mem e count) (set_twice words d x v) a2;
      }

  pub reorder_case : (o : ByteOrder) (b : SwapBits) (d : ℕ) (is : List Instr) → d < 10 → slice_index words d < 2 ^ 64 → IsBody (reorder_code o b (gpr d)) is → Gives who saved c words mem e count is d (reorder_of o b (slice_index words d))
  reorder_case order.Little bits.Bits16 d is h m j = by_one a _ is c.flags d _ h j (reads_word a d (λ n. put c (gpr d) (Word (n % 2 ^ 16))) h ∙ puts a c.flags d _ h)
  reorder_case order.Little bits.Bits32 d is h m j = by_one a _ is c.flags d _ h j (reads_word a d (λ n. put c (gpr d) (Word (n % 2 ^ 32))) h ∙ puts a c.flags d _ h)
  reorder_case order.Little bits.Bits64 d is h m j = by_one a _ is c.flags d _ h j (reads a d (put c (gpr d)) h ∙ ap (λ q. put c (gpr d) (Word q)) (sym (mod-eq_of_lt m)) ∙ puts a c.flags d _ h)
  reorder_case order.Big bits.Bits16 d is h m j = swap_case order.Big d is h refl j
  reorder_case order.Swap bits.Bits16 d is h m j = swap_case order.Swap d is h refl j
  reorder_case order.Big bits.Bits32 d is h m j = by_one a _ is c.flags d _ h j (reads_word a d (λ n. put c (gpr d) (Word (reversed 4 n))) h ∙ puts a c.flags d _ h)
  reorder_case order.Swap bits.Bits32 d is h m j = by_one a _ is c.flags d _ h j (reads_word a d (λ n. put c (gpr d) (Word (reversed 4 n))) h ∙ puts a c.flags d _ h)
  reorder_case order.Big bits.Bits64 d is h m j = by_one a _ is c.flags d _ h j (reads_word a d (λ n. put c (gpr d) (Word (reversed 8 n))) h ∙ puts a c.flags d _ h)
  reorder_case order.Swap bits.Bits64 d is h m j = by_one a _ is c.flags d _ h j (reads_word a d (λ n. put c (gpr d) (Word (reversed 8 n))) h ∙ puts a c.flags d _ h)
