-- What a task reaches and leaves.
use Rattle.std.proofs.Common.{◌≡◌, ℕ, zero, suc, ◌+◌, ◌%◌, ◌^◌, ◌<◌, ◌≤◌, ℤ, pos, negsuc, Bool, true, false, cond, List, refl, sym, ap, ◌∙◌, subst, arith}
use Rattle.std.specs.Prelude.{◌==◌, min, slice_index}
use Rattle.std.proofs.Math.Nat.{mod-eq_of_lt}
use Rattle.std.proofs.lemmas.Bool.{and_parts}
use Rattle.decode.specs.declared.insn.Reg.{Reg}
use Rattle.decode.specs.declared.insn.Insn.{Insn}
use Rattle.decode.specs.declared.insn.Insn.TheVariants.{Alu, MovSx, Neg, End, Jump, JumpLong, JumpIf, Call, Exit, Load, LoadSx, StoreReg, StoreImm, Wide}
use Rattle.decode.specs.declared.insn.Size.{Size}
use Rattle.decode.specs.Encoding.{Fits, bytes_in, loaded}
use Rattle.helpers.specs.declared.effects.Who.{Who}
use Rattle.helpers.specs.Effects.{Emitted}
use Rattle.spans.specs.Concrete.{array_size, address}
use Rattle.dense.specs.SpanActs.{IsReached}
use Rattle.native.specs.declared.task.SlotTask.{SlotTask}
use Rattle.native.specs.declared.task.SlotTask.TheVariants as task
use Rattle.native.specs.Tasks.{position_by, task_act, holds_word, is_read, is_eligible, TaskFits, TaskReaches}
use Rattle.native.specs.SpanTasks.{stack_at, store_imm_task, store_task, helper_task, task_in}
use Rattle.native.proofs.Blind.{blind, blind_is, SparesTen}
use Rattle.native.proofs.SpanActs.{below_ten, is_ten, not_ten}

-- a task for which there is code leaves r10
pub task_spares : (who : Who) (slot : ℕ) (ws mem : List ℕ) (e : Emitted) (t : SlotTask) → is_eligible slot t ≡ true → SparesTen (task_act who slot ws mem e t)
task_spares who slot ws mem e (task.Compute o w dst b) h = below_ten dst.number (and_parts (holds_word dst.number) (is_read o b) h).0
task_spares who slot ws mem e (task.Extend x dst src) h = below_ten dst.number (and_parts (holds_word dst.number) (holds_word src.number) h).0
task_spares who slot ws mem e (task.Negate w dst) h = below_ten dst.number h
task_spares who slot ws mem e (task.Reorder o b dst) h = below_ten dst.number h
task_spares who slot ws mem e (task.Load z dst at) h = below_ten dst.number h
task_spares who slot ws mem e (task.LoadSx z dst at) h = below_ten dst.number h
task_spares who slot ws mem e (task.LoadBy z dst base d) h = below_ten dst.number (and_parts (holds_word dst.number) (holds_word base.number) h).0
task_spares who slot ws mem e (task.LoadSxBy z dst base d) h = below_ten dst.number (and_parts (holds_word dst.number) (holds_word base.number) h).0
task_spares who slot ws mem e (task.Wide dst v) h = below_ten dst.number h
task_spares who slot ws mem e (task.Store z src at) h = tt
task_spares who slot ws mem e (task.StoreImm z at imm) h = tt
task_spares who slot ws mem e (task.StoreBy z src base d) h = tt
task_spares who slot ws mem e (task.StoreImmBy z base d imm) h = tt
task_spares who slot ws mem e (task.Branch x w dst o to) h = tt
task_spares who slot ws mem e (task.Leap to) h = tt
task_spares who slot ws mem e task.Me h = tt
task_spares who slot ws mem e task.From h = tt
task_spares who slot ws mem e (task.Send at) h = tt
task_spares who slot ws mem e (task.Output at) h = tt
task_spares who slot ws mem e (task.SendSized at) h = tt
task_spares who slot ws mem e (task.OutputSized at) h = tt
task_spares who slot ws mem e task.SendBy h = tt
task_spares who slot ws mem e task.OutputBy h = tt
task_spares who slot ws mem e task.SendSizedBy h = tt
task_spares who slot ws mem e task.OutputSizedBy h = tt
task_spares who slot ws mem e task.Exit h = tt
task_spares who slot ws mem e task.Dead h = cc

module _ (slot len : ℕ) (ws : List ℕ) (ten : slice_index ws 10 ≡ array_size len) where
  abbrev bs : List ℕ
  bs = blind ws

  abbrev at : Reg → ℤ → ℕ
  at r d = address (slice_index ws r.number) d

  end_within : (r : Reg) (d : ℤ) (n : ℕ) → r.number ≡ 10 → at r d + n ≤ 2048 → stack_at len d + n ≤ 2048
  end_within r d n h l =
      let a = ap (λ k. position_by (slice_index ws k) d) h ∙ ap (λ w. position_by w d) ten in
      let m : position_by (array_size len) d % 2 ^ 16 ≡ position_by (array_size len) d = mod-eq_of_lt (omega (arith, a, l)) in
      omega (arith, a, m, l)

  by_within : (r : Reg) (d : ℤ) (n : ℕ) → r.number < 10 → at r d + n ≤ 2048 → position_by (slice_index bs r.number) d + n ≤ 2048
  by_within r d n h l = subst (λ w. position_by w d + n ≤ 2048) (sym (blind_is ws r.number h)) l

  abbrev Reaches : SlotTask → Type 0
  Reaches t = TaskReaches 2048 bs t

  store_imm_within : (z : Size) (base : Reg) (d imm : ℤ) → at base d + bytes_in z ≤ 2048 → Reaches (store_imm_task len z base d imm)
  store_imm_within z base d imm l = by_test (base.number == 10) refl
    where
      by_test : (b : Bool) → (base.number == 10) ≡ b → Reaches (cond b (task.StoreImm z (stack_at len d) imm) (task.StoreImmBy z base d imm))
      by_test true t = end_within base d (bytes_in z) (is_ten base t) l
      by_test false t = by_within base d (bytes_in z) (not_ten base t) l

  store_within : (z : Size) (base src : Reg) (d : ℤ) → at base d + bytes_in z ≤ 2048 → Reaches (store_task len z base src d)
  store_within z base src d l = by_test (base.number == 10) refl
    where
      by_test : (b : Bool) → (base.number == 10) ≡ b → Reaches (cond b (task.Store z src (stack_at len d)) (task.StoreBy z src base d))
      by_test true t = end_within base d (bytes_in z) (is_ten base t) l
      by_test false t = by_within base d (bytes_in z) (not_ten base t) l

  call_within : (z : ℤ) → IsReached ws (Call z) → Reaches (helper_task z)
  call_within (pos zero) l = absurd l
  call_within (pos (suc zero)) l = subst (λ w. w + 64 ≤ 2048) (sym (blind_is ws 2 (omega arith))) l
  call_within (pos (suc (suc zero))) l = subst (λ w. w + 64 ≤ 2048) (sym (blind_is ws 1 (omega arith))) l
  call_within (pos (suc (suc (suc zero)))) l = tt
  call_within (pos (suc (suc (suc (suc zero))))) l = tt
  call_within (pos (suc (suc (suc (suc (suc zero)))))) l =
      subst (λ w. w + min (slice_index bs 3) 256 ≤ 2048) (sym (blind_is ws 2 (omega arith))) (subst (λ n. slice_index ws 2 + min n 256 ≤ 2048) (sym (blind_is ws 3 (omega arith))) l)
  call_within (pos (suc (suc (suc (suc (suc (suc zero))))))) l =
      subst (λ w. w + min (slice_index bs 2) 256 ≤ 2048) (sym (blind_is ws 1 (omega arith))) (subst (λ n. slice_index ws 1 + min n 256 ≤ 2048) (sym (blind_is ws 2 (omega arith))) l)
  call_within (pos (suc (suc (suc (suc (suc (suc (suc n)))))))) l = absurd l
  call_within (negsuc n) l = absurd l

  -- what an instruction reaches, its task does
  pub reaches : (i : Insn) → IsReached ws i → Reaches (task_in len slot i)
  reaches (Alu a w dst o) l = tt
  reaches (MovSx x dst src) l = tt
  reaches (Neg w dst) l = tt
  reaches (End o b dst) l = tt
  reaches (Jump d) l = tt
  reaches (JumpLong d) l = tt
  reaches (JumpIf x w dst o d) l = tt
  reaches (Call z) l = call_within z l
  reaches Exit l = tt
  reaches (Load z dst src d) l = by_test (src.number == 10) refl
    where
      by_test : (b : Bool) → (src.number == 10) ≡ b → Reaches (cond b (task.Load z dst (stack_at len d)) (task.LoadBy z dst src d))
      by_test true t = end_within src d (bytes_in z) (is_ten src t) l
      by_test false t = by_within src d (bytes_in z) (not_ten src t) l
  reaches (LoadSx z dst src d) l = by_test (src.number == 10) refl
    where
      by_test : (b : Bool) → (src.number == 10) ≡ b → Reaches (cond b (task.LoadSx z dst (stack_at len d)) (task.LoadSxBy z dst src d))
      by_test true t = end_within src d (bytes_in (loaded z)) (is_ten src t) l
      by_test false t = by_within src d (bytes_in (loaded z)) (not_ten src t) l
  reaches (StoreReg z dst src d) l = by_source (src.number == 10)
    where
      by_source : (b : Bool) → Reaches (cond b (store_imm_task len z dst d (pos (array_size len))) (store_task len z dst src d))
      by_source true = store_imm_within z dst d (pos (array_size len)) l
      by_source false = store_within z dst src d l
  reaches (StoreImm z dst d imm) l = store_imm_within z dst d imm l
  reaches (Wide dst v) l = tt

-- its numbers are words
pub fits_in : (slot len : ℕ) (i : Insn) → Fits i → TaskFits (task_in len slot i)
fits_in slot len (Alu a w dst o) h = tt
fits_in slot len (MovSx x dst src) h = tt
fits_in slot len (Neg w dst) h = tt
fits_in slot len (End o b dst) h = tt
fits_in slot len (Jump d) h = tt
fits_in slot len (JumpLong d) h = tt
fits_in slot len (JumpIf x w dst o d) h = tt
fits_in slot len (Call z) h = of_helper z
  where
    of_helper : (z : ℤ) → TaskFits (helper_task z)
    of_helper (pos zero) = tt
    of_helper (pos (suc zero)) = tt
    of_helper (pos (suc (suc zero))) = tt
    of_helper (pos (suc (suc (suc zero)))) = tt
    of_helper (pos (suc (suc (suc (suc zero))))) = tt
    of_helper (pos (suc (suc (suc (suc (suc zero)))))) = tt
    of_helper (pos (suc (suc (suc (suc (suc (suc zero))))))) = tt
    of_helper (pos (suc (suc (suc (suc (suc (suc (suc n)))))))) = tt
    of_helper (negsuc n) = tt
fits_in slot len Exit h = tt
fits_in slot len (Load z dst src d) h = by_test (src.number == 10)
  where
    by_test : (b : Bool) → TaskFits (cond b (task.Load z dst (stack_at len d)) (task.LoadBy z dst src d))
    by_test true = tt
    by_test false = tt
fits_in slot len (LoadSx z dst src d) h = by_test (src.number == 10)
  where
    by_test : (b : Bool) → TaskFits (cond b (task.LoadSx z dst (stack_at len d)) (task.LoadSxBy z dst src d))
    by_test true = tt
    by_test false = tt
fits_in slot len (StoreReg z dst src d) h = by_tests (src.number == 10) (dst.number == 10)
  where
    by_tests : (b t : Bool) → TaskFits (cond b (cond t (task.StoreImm z (stack_at len d) (pos (array_size len))) (task.StoreImmBy z dst d (pos (array_size len)))) (cond t (task.Store z src (stack_at len d)) (task.StoreBy z src dst d)))
    by_tests true true = tt
    by_tests true false = tt
    by_tests false true = tt
    by_tests false false = tt
fits_in slot len (StoreImm z dst d imm) h = by_test (dst.number == 10)
  where
    by_test : (b : Bool) → TaskFits (cond b (task.StoreImm z (stack_at len d) imm) (task.StoreImmBy z dst d imm))
    by_test true = tt
    by_test false = tt
fits_in slot len (Wide dst v) h = h
