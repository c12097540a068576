-- Where a call may come to, there is code.
use Rattle.std.proofs.Common.{◌≡◌, ℕ, zero, suc, ◌+◌, ◌%◌, ◌^◌, ◌<◌, ◌≤◌, ℤ, pos, negsuc, ◌+ℤ◌, Bool, true, false, cond, List, Option, Some, None, length, refl, sym, ap, ◌∙◌, arith}
use Rattle.std.specs.Prelude.{◌==◌, ◌&&◌, not, is_some, nat_lt, unsigned_abs, Ok}
use Rattle.std.specs.Option.{option_map_or}
use Rattle.std.proofs.Math.Nat.{mod-eq_of_lt}
use Rattle.std.proofs.lemmas.Bool.{and_parts, false≢true}
use Rattle.std.proofs.lemmas.Bool.Decides.{nat_tests}
use Rattle.decode.specs.declared.insn.AluOp.{AluOp}
use Rattle.decode.specs.declared.insn.AluOp.TheVariants as alu
use Rattle.decode.specs.declared.insn.Operand.{Operand}
use Rattle.decode.specs.declared.insn.Operand.TheVariants as operand
use Rattle.decode.specs.declared.insn.Reg.{Reg}
use Rattle.decode.specs.declared.insn.Insn.{Insn}
use Rattle.decode.specs.declared.insn.Insn.TheVariants.{Alu, MovSx, Neg, End, Jump, JumpLong, JumpIf, Call, Exit, Load, LoadSx, StoreReg, StoreImm, Wide}
use Rattle.decode.specs.Slots.{insn_at}
use Rattle.decode.specs.AluForm.{form_of}
use Rattle.decode.specs.Flow.{flow_of}
use Rattle.regtypes.specs.Rules.{first_broken, is_frame_pointer}
use Rattle.regtypes.specs.Typing.{flow_tests, is_target}
use Rattle.regtypes.proofs.Monotone.{none_holds}
use Rattle.verifier.proofs.LeastTypings.{within_some}
use Rattle.spans.specs.declared.kind.SpanKind.{SpanKind}
use Rattle.spans.specs.declared.kind.SpanKind.TheVariants.{Unset, Num, Place}
use Rattle.spans.specs.declared.span.Span.{Span}
use Rattle.spans.specs.Frame.{Frame, is_num}
use Rattle.spans.specs.Ways.{Leaves, Ways, from_span}
use Rattle.verifier.specs.Span.Rules.{frame_pointer_rule}
use Rattle.native.specs.declared.task.SlotTask.TheVariants as task
use Rattle.native.specs.Tasks.{holds_word, is_word, is_read, is_eligible}
use Rattle.native.specs.SpanTasks.{operand_in, stack_at, store_imm_task, store_task, task_in}
use Rattle.native.proofs.Reached.{alu_written, both_true}
use Rattle.native.proofs.SpanActs.{Lands, not_ten}

-- ---- registers

pub some_none : {A : Type 0} (b : Bool) (x : A) → cond b (Some x) None ≡ None → b ≡ false
some_none true x h = cc
some_none false x h = refl

-- a register that isn't r10 holds a word
holds : (r : Reg) → (r.number == 10) ≡ false → holds_word r.number ≡ true
holds r h = let k = not_ten r h in grind (arith, nat_tests)

-- an operand is an immediate or such a register
operand_word : (len : ℕ) (o : Operand) → is_word (operand_in len o) ≡ true
operand_word len (operand.Imm z) = refl
operand_word len (operand.Reg r) = by_test (r.number == 10) refl
  where
    by_test : (b : Bool) → (r.number == 10) ≡ b → is_word (cond b (operand.Imm (pos (512 + len + 512))) (operand.Reg r)) ≡ true
    by_test true t = refl
    by_test false t = holds r t

operand_read : (len : ℕ) (a : AluOp) (o : Operand) → is_read a (operand_in len o) ≡ true
operand_read len alu.Mov o = refl
operand_read len a o = operand_word len o

-- what makes a number of a kind asks a number
from_span-num : (make : Span → Span) (k h : SpanKind) → from_span make k ≡ Ok h → is_num k ≡ true
from_span-num make Unset h e = cc
from_span-num make (Num s) h e = refl
from_span-num make (Place r s) h e = cc

-- ---- jumps

-- a jump that is allowed goes forward, to a slot of the code
forward : (slots : List (Option Insn)) (s : ℕ) (z : ℤ) → not (is_target slots s z) ≡ false → (s < unsigned_abs z) × (unsigned_abs z < length slots)
forward slots s (pos t) h =
    let x = and_parts (nat_lt s t) (is_some (insn_at slots t)) (not_false (nat_lt s t && is_some (insn_at slots t)) h) in
    (grind (arith, nat_tests, x.0), within_some slots t x.1)
  where
    not_false : (b : Bool) → not b ≡ false → b ≡ true
    not_false true h = refl
    not_false false h = cc
forward slots s (negsuc t) h = cc

module _ (slots : List (Option Insn)) (len s : ℕ) (few : length slots ≤ 1024) (f : Frame) (ten : is_num (f 10) ≡ false) where
  jumps_to : (z : ℤ) → not (is_target slots s z) ≡ false → (nat_lt s (unsigned_abs z % 2 ^ 16) ≡ true) × (unsigned_abs z < 2 ^ 16)
  jumps_to z h =
      let x = forward slots s z h in
      let m : unsigned_abs z % 2 ^ 16 ≡ unsigned_abs z = mod-eq_of_lt (omega (arith, x.1, few)) in
      (grind (arith, nat_tests, x.0, m), omega (arith, x.1, few))

  -- a register of which a number is known isn't r10
  number_word : (r : Reg) → is_num (f r.number) ≡ true → holds_word r.number ≡ true
  number_word r n = by_test (r.number == 10) refl
    where
      by_test : (b : Bool) → (r.number == 10) ≡ b → holds_word r.number ≡ true
      by_test true t = let e : r.number ≡ 10 = grind (arith, nat_tests) in absurd (false≢true (sym ten ∙ ap (λ k. is_num (f k)) (sym e) ∙ n))
      by_test false t = holds r t

  -- each instruction that breaks no rule
  pub eligible : (i : Insn) (w : Ways) → first_broken (flow_tests slots s (flow_of i)) ≡ None → frame_pointer_rule i ≡ None → Leaves len i f w → (is_eligible s (task_in len s i) ≡ true) × Lands s i
  eligible (Alu a w dst o) ways j k l =
      let x = some_none _ _ k in
      let y : (dst.number == 10) ≡ false = ap (λ r. option_map_or is_frame_pointer r false) (sym (alu_written (form_of a w o) dst o)) ∙ x in
      (both_true _ _ (holds dst y) (operand_read len a o), tt)
  eligible (MovSx x dst src) ways j k l = (both_true _ _ (holds dst (some_none _ _ k)) (number_word src (from_span-num _ (f src.number) l.0 l.1)), tt)
  eligible (Neg w dst) ways j k l = (holds dst (some_none _ _ k), tt)
  eligible (End o b dst) ways j k l = (holds dst (some_none _ _ k), tt)
  eligible (Jump d) ways j k l = jumps_to (pos (s + 1) +ℤ d) (none_holds (flow_tests slots s (flow_of (Jump d))) j).0
  eligible (JumpLong d) ways j k l = jumps_to (pos (s + 1) +ℤ d) (none_holds (flow_tests slots s (flow_of (JumpLong d))) j).0
  eligible (JumpIf x w dst o d) ways j k l =
      let y = jumps_to (pos (s + 1) +ℤ d) (none_holds (flow_tests slots s (flow_of (JumpIf x w dst o d))) j).0 in
      (both_true _ _ (number_word dst (ap is_num l.2)) (both_true _ _ (operand_word len o) y.0), y.1)
  eligible (Call (pos zero)) ways j k l = absurd l.0
  eligible (Call (pos (suc zero))) ways j k l = (refl, tt)
  eligible (Call (pos (suc (suc zero)))) ways j k l = (refl, tt)
  eligible (Call (pos (suc (suc (suc zero))))) ways j k l = (refl, tt)
  eligible (Call (pos (suc (suc (suc (suc zero)))))) ways j k l = (refl, tt)
  eligible (Call (pos (suc (suc (suc (suc (suc zero))))))) ways j k l = (refl, tt)
  eligible (Call (pos (suc (suc (suc (suc (suc (suc zero)))))))) ways j k l = (refl, tt)
  eligible (Call (pos (suc (suc (suc (suc (suc (suc (suc n))))))))) ways j k l = absurd l.0
  eligible (Call (negsuc n)) ways j k l = absurd l.0
  eligible Exit ways j k l = (refl, tt)
  eligible (Load z dst src d) ways j k l = (by_test (src.number == 10) refl, tt)
    where
      by_test : (b : Bool) → (src.number == 10) ≡ b → is_eligible s (cond b (task.Load z dst (stack_at len d)) (task.LoadBy z dst src d)) ≡ true
      by_test true t = holds dst (some_none _ _ k)
      by_test false t = both_true _ _ (holds dst (some_none _ _ k)) (holds src t)
  eligible (LoadSx z dst src d) ways j k l = (by_test (src.number == 10) refl, tt)
    where
      by_test : (b : Bool) → (src.number == 10) ≡ b → is_eligible s (cond b (task.LoadSx z dst (stack_at len d)) (task.LoadSxBy z dst src d)) ≡ true
      by_test true t = holds dst (some_none _ _ k)
      by_test false t = both_true _ _ (holds dst (some_none _ _ k)) (holds src t)
  eligible (StoreReg z dst src d) ways j k l = (by_source (src.number == 10) refl, tt)
    where
      imm_eligible : (v : ℤ) (b : Bool) → (dst.number == 10) ≡ b → is_eligible s (cond b (task.StoreImm z (stack_at len d) v) (task.StoreImmBy z dst d v)) ≡ true
      imm_eligible v true t = refl
      imm_eligible v false t = holds dst t

      reg_eligible : (src.number == 10) ≡ false → (b : Bool) → (dst.number == 10) ≡ b → is_eligible s (cond b (task.Store z src (stack_at len d)) (task.StoreBy z src dst d)) ≡ true
      reg_eligible u true t = holds src u
      reg_eligible u false t = both_true _ _ (holds src u) (holds dst t)

      by_source : (b : Bool) → (src.number == 10) ≡ b → is_eligible s (cond b (store_imm_task len z dst d (pos (512 + len + 512))) (store_task len z dst src d)) ≡ true
      by_source true t = imm_eligible (pos (512 + len + 512)) (dst.number == 10) refl
      by_source false t = reg_eligible t (dst.number == 10) refl
  eligible (StoreImm z dst d imm) ways j k l = (by_test (dst.number == 10) refl, tt)
    where
      by_test : (b : Bool) → (dst.number == 10) ≡ b → is_eligible s (cond b (task.StoreImm z (stack_at len d) imm) (task.StoreImmBy z dst d imm)) ≡ true
      by_test true t = refl
      by_test false t = holds dst t
  eligible (Wide dst value) ways j k l = (holds dst (some_none _ _ k), tt)
