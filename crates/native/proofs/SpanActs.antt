-- A task does what its instruction does.
use Rattle.std.proofs.Common.{◌≡◌, ◌≢◌, ℕ, zero, suc, ◌+◌, ◌%◌, ◌^◌, ◌<◌, ◌≤◌, ℤ, pos, negsuc, Bool, true, false, cond, List, [], Some, refl, sym, ap, ◌∙◌, arith}
use Rattle.std.specs.Prelude.{◌==◌, ◌&&◌, nat_lt, slice_index, slice_range, if◌then◌else◌}
use Rattle.std.proofs.Math.Nat.{mod-eq_of_lt}
use Rattle.std.proofs.lemmas.Bool.{and_parts}
use Rattle.std.proofs.lemmas.Bool.Decides.{nat_tests}
use Rattle.decode.specs.declared.insn.Operand.{Operand}
use Rattle.decode.specs.declared.insn.Operand.TheVariants as operand
use Rattle.decode.specs.declared.insn.Reg.{Reg}
use Rattle.decode.specs.declared.insn.Insn.{Insn}
use Rattle.decode.specs.declared.insn.Insn.TheVariants.{Alu, MovSx, Neg, End, Jump, JumpLong, JumpIf, Call, Exit, Load, LoadSx, StoreReg, StoreImm, Wide}
use Rattle.decode.specs.declared.insn.Size.{Size}
use Rattle.decode.specs.Encoding.{bytes_in, loaded}
use Rattle.operations.specs.Operations.{result_of, negation_of, extension_of, reorder_of, holds, word_of, sign_extension_of}
use Rattle.operations.specs.Bytes.{le_value, le_bytes}
use Rattle.helpers.specs.declared.effects.Who.{Who}
use Rattle.helpers.specs.Effects.{Emitted}
use Rattle.helpers.specs.Helpers.{send, output}
use Rattle.dense.specs.Acts.{Act, Puts, Writes, Leaps, Answers}
use Rattle.spans.specs.Concrete.{array_size, operand_word, address}
use Rattle.spans.specs.Typing.{target}
use Rattle.dense.specs.SpanActs.{insn_act, IsReached}
use Rattle.dense.specs.Machine.{machine}
use Rattle.native.specs.declared.task.SlotTask.TheVariants as task
use Rattle.native.specs.Tasks.{operand_of, position_by, sized_at, task_act, holds_word, is_word, is_read, is_eligible}
use Rattle.native.specs.SpanTasks.{operand_in, stack_at, slot_of, store_imm_task, store_task, helper_task, task_in}
use Rattle.native.proofs.Blind.{blind, blind_is}

pub below_ten : (r : ℕ) → holds_word r ≡ true → r < 10
below_ten r h = grind (arith, nat_tests)

-- a register that isn't r10
pub not_ten : (r : Reg) → (r.number == 10) ≡ false → r.number < 10
not_ten r h = let k = r.in_range in let n : r.number ≢ 10 = λ e. grind (arith, nat_tests) in omega (arith, k, n)

pub is_ten : (r : Reg) → (r.number == 10) ≡ true → r.number ≡ 10
is_ten r h = grind (arith, nat_tests)

-- where an instruction jumps
abbrev pub Lands : ℕ → Insn → Type 0
Lands slot (Jump d) = target slot (Jump d) < 2 ^ 16
Lands slot (JumpLong d) = target slot (JumpLong d) < 2 ^ 16
Lands slot (JumpIf x w dst o d) = target slot (Jump d) < 2 ^ 16
Lands slot i = Unit {0}

module _ (who : Who) (slot len : ℕ) (ws mem : List ℕ) (e : Emitted) (ten : slice_index ws 10 ≡ array_size len) where
  abbrev bs : List ℕ
  bs = blind ws

  word : (r : ℕ) → r < 10 → slice_index ws r ≡ slice_index bs r
  word r h = sym (blind_is ws r h)

  held : (r : ℕ) → holds_word r ≡ true → slice_index ws r ≡ slice_index bs r
  held r h = word r (below_ten r h)

  -- an operand has the same word
  operand_is : (o : Operand) → operand_word (machine ws []) o ≡ operand_of bs (operand_in len o)
  operand_is (operand.Imm z) = refl
  operand_is (operand.Reg r) = by_test (r.number == 10) refl
    where
      by_test : (b : Bool) → (r.number == 10) ≡ b → slice_index ws r.number ≡ operand_of bs (cond b (operand.Imm (pos (array_size len))) (operand.Reg r))
      by_test true t = ap (slice_index ws) (is_ten r t) ∙ ten
      by_test false t = word r.number (not_ten r t)

  abbrev Same : Insn → Type 0
  Same i = insn_act who slot ws mem e i ≡ task_act who slot bs mem e (task_in len slot i)

  -- ---- memory

  -- where a base and an offset lead
  abbrev at : Reg → ℤ → ℕ
  at r d = address (slice_index ws r.number) d

  -- r10 and an offset lead to a constant position
  end_is : (r : Reg) (d : ℤ) (n : ℕ) → r.number ≡ 10 → at r d + n ≤ 2048 → at r d ≡ stack_at len d
  end_is r d n h l =
      let a = ap (λ k. position_by (slice_index ws k) d) h ∙ ap (λ w. position_by w d) ten in
      let m : position_by (array_size len) d % 2 ^ 16 ≡ position_by (array_size len) d = mod-eq_of_lt (omega (arith, a, l)) in
      a ∙ sym m

  by_is : (r : Reg) (d : ℤ) → r.number < 10 → at r d ≡ position_by (slice_index bs r.number) d
  by_is r d h = ap (λ w. position_by w d) (word r.number h)

  load_is : (z : Size) (dst src : Reg) (d : ℤ) → at src d + bytes_in z ≤ 2048 → Same (Load z dst src d)
  load_is z dst src d l = by_test (src.number == 10) refl
    where
      f : ℕ → Act
      f a = Puts dst (le_value (slice_range mem a (a + bytes_in z))) 1

      by_test : (b : Bool) → (src.number == 10) ≡ b → f (at src d) ≡ task_act who slot bs mem e (cond b (task.Load z dst (stack_at len d)) (task.LoadBy z dst src d))
      by_test true t = ap f (end_is src d (bytes_in z) (is_ten src t) l)
      by_test false t = ap f (by_is src d (not_ten src t))

  load_sx_is : (z : _) (dst src : Reg) (d : ℤ) → at src d + bytes_in (loaded z) ≤ 2048 → Same (LoadSx z dst src d)
  load_sx_is z dst src d l = by_test (src.number == 10) refl
    where
      f : ℕ → Act
      f a = Puts dst (sign_extension_of z (le_value (slice_range mem a (a + bytes_in (loaded z))))) 1

      by_test : (b : Bool) → (src.number == 10) ≡ b → f (at src d) ≡ task_act who slot bs mem e (cond b (task.LoadSx z dst (stack_at len d)) (task.LoadSxBy z dst src d))
      by_test true t = ap f (end_is src d (bytes_in (loaded z)) (is_ten src t) l)
      by_test false t = ap f (by_is src d (not_ten src t))

  store_imm_is : (z : Size) (base : Reg) (d imm : ℤ) → at base d + bytes_in z ≤ 2048 → Writes (at base d) (le_bytes (bytes_in z) (word_of imm)) ≡ task_act who slot bs mem e (store_imm_task len z base d imm)
  store_imm_is z base d imm l = by_test (base.number == 10) refl
    where
      f : ℕ → Act
      f a = Writes a (le_bytes (bytes_in z) (word_of imm))

      by_test : (b : Bool) → (base.number == 10) ≡ b → f (at base d) ≡ task_act who slot bs mem e (cond b (task.StoreImm z (stack_at len d) imm) (task.StoreImmBy z base d imm))
      by_test true t = ap f (end_is base d (bytes_in z) (is_ten base t) l)
      by_test false t = ap f (by_is base d (not_ten base t))

  store_is : (z : Size) (base src : Reg) (d : ℤ) → at base d + bytes_in z ≤ 2048 → src.number < 10 → Writes (at base d) (le_bytes (bytes_in z) (slice_index ws src.number)) ≡ task_act who slot bs mem e (store_task len z base src d)
  store_is z base src d l h = by_test (base.number == 10) refl
    where
      f : ℕ → ℕ → Act
      f a w = Writes a (le_bytes (bytes_in z) w)

      by_test : (b : Bool) → (base.number == 10) ≡ b → f (at base d) (slice_index ws src.number) ≡ task_act who slot bs mem e (cond b (task.Store z src (stack_at len d)) (task.StoreBy z src base d))
      by_test true t = ap (λ a. f a (slice_index ws src.number)) (end_is base d (bytes_in z) (is_ten base t) l) ∙ ap (f (stack_at len d)) (word src.number h)
      by_test false t = ap (λ a. f a (slice_index ws src.number)) (by_is base d (not_ten base t)) ∙ ap (f (position_by (slice_index bs base.number) d)) (word src.number h)

  store_reg_is : (z : Size) (base src : Reg) (d : ℤ) → at base d + bytes_in z ≤ 2048 → Same (StoreReg z base src d)
  store_reg_is z base src d l = by_test (src.number == 10) refl
    where
      by_test : (b : Bool) → (src.number == 10) ≡ b → Writes (at base d) (le_bytes (bytes_in z) (slice_index ws src.number)) ≡ task_act who slot bs mem e (cond b (store_imm_task len z base d (pos (array_size len))) (store_task len z base src d))
      by_test true t = ap (λ w. Writes (at base d) (le_bytes (bytes_in z) w)) (ap (slice_index ws) (is_ten src t) ∙ ten) ∙ store_imm_is z base d (pos (array_size len)) l
      by_test false t = store_is z base src d l (not_ten src t)

  -- ---- helpers

  call_is : (z : ℤ) → is_eligible slot (helper_task z) ≡ true → Same (Call z)
  call_is (pos zero) h = cc
  call_is (pos (suc zero)) h =
      let f : ℕ → ℕ → Act = λ a b. Answers (send who a (Some (slice_range mem b (b + 64))) e).0 (send who a (Some (slice_range mem b (b + 64))) e).1 in
      ap (λ a. f a (slice_index ws 2)) (word 1 (omega arith)) ∙ ap (f (slice_index bs 1)) (word 2 (omega arith))
  call_is (pos (suc (suc zero))) h =
      ap (λ b. Answers (output (Some (slice_range mem b (b + 64))) e).0 (output (Some (slice_range mem b (b + 64))) e).1) (word 1 (omega arith))
  call_is (pos (suc (suc (suc zero)))) h = refl
  call_is (pos (suc (suc (suc (suc zero))))) h = refl
  call_is (pos (suc (suc (suc (suc (suc zero)))))) h =
      let f : ℕ → ℕ → ℕ → Act = λ a b n. Answers (send who a (sized_at mem b n) e).0 (send who a (sized_at mem b n) e).1 in
      ap (λ a. f a (slice_index ws 2) (slice_index ws 3)) (word 1 (omega arith))
      ∙ ap (λ b. f (slice_index bs 1) b (slice_index ws 3)) (word 2 (omega arith))
      ∙ ap (f (slice_index bs 1) (slice_index bs 2)) (word 3 (omega arith))
  call_is (pos (suc (suc (suc (suc (suc (suc zero))))))) h =
      let f : ℕ → ℕ → Act = λ b n. Answers (output (sized_at mem b n) e).0 (output (sized_at mem b n) e).1 in
      ap (λ b. f b (slice_index ws 2)) (word 1 (omega arith)) ∙ ap (f (slice_index bs 1)) (word 2 (omega arith))
  call_is (pos (suc (suc (suc (suc (suc (suc (suc n)))))))) h = cc
  call_is (negsuc n) h = cc

  -- ---- each instruction

  -- what the instruction does, its task does to the words without r10
  pub acts : (i : Insn) → is_eligible slot (task_in len slot i) ≡ true → Lands slot i → IsReached ws i → Same i
  acts (Alu a w dst o) eligible t l =
      let x = and_parts (holds_word dst.number) (is_read a (operand_in len o)) eligible in
      ap (λ p. Puts dst (result_of a w p (operand_word (machine ws []) o)) 1) (held dst.number x.0)
      ∙ ap (λ q. Puts dst (result_of a w (slice_index bs dst.number) q) 1) (operand_is o)
  acts (MovSx x dst src) eligible t l =
      let y = and_parts (holds_word dst.number) (holds_word src.number) eligible in
      ap (λ p. Puts dst (extension_of x p) 1) (held src.number y.1)
  acts (Neg w dst) eligible t l = ap (λ p. Puts dst (negation_of w p) 1) (held dst.number eligible)
  acts (End o b dst) eligible t l = ap (λ p. Puts dst (reorder_of o b p) 1) (held dst.number eligible)
  acts (Jump d) eligible t l = ap Leaps (sym (mod-eq_of_lt t))
  acts (JumpLong d) eligible t l = ap Leaps (sym (mod-eq_of_lt t))
  acts (JumpIf x w dst o d) eligible t l =
      let y = and_parts (holds_word dst.number) (is_word (operand_in len o) && nat_lt slot (slot_of slot (Jump d))) eligible in
      ap (λ p. Leaps (if holds x w p (operand_word (machine ws []) o) then target slot (Jump d) else slot + 1)) (held dst.number y.0)
      ∙ ap (λ q. Leaps (if holds x w (slice_index bs dst.number) q then target slot (Jump d) else slot + 1)) (operand_is o)
      ∙ ap (λ to. Leaps (if holds x w (slice_index bs dst.number) (operand_of bs (operand_in len o)) then to else slot + 1)) (sym (mod-eq_of_lt t))
  acts (Call z) eligible t l = call_is z eligible
  acts Exit eligible t l = refl
  acts (Load z dst src d) eligible t l = load_is z dst src d l
  acts (LoadSx z dst src d) eligible t l = load_sx_is z dst src d l
  acts (StoreReg z dst src d) eligible t l = store_reg_is z dst src d l
  acts (StoreImm z dst d imm) eligible t l = store_imm_is z dst d imm l
  acts (Wide dst value) eligible t l = refl
