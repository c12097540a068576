-- The task of each slot is its operation's.
use Rattle.std.proofs.Common.{◌≡◌, ℕ, zero, suc, ◌+◌, ◌<◌, ◌≤◌, Bool, true, cond, List, [], ◌∷◌, ◌++◌, length, Option, Some, None, ℤ, pos, negsuc, refl, sym, ap, ◌∙◌, subst, ⊎_elim, arith, length-append}
use Rattle.std.specs.Prelude.{nat_lt, is_some, slice_get, slice_index}
use Rattle.std.proofs.lemmas.Bool.{cases_lt}
use Rattle.std.proofs.lemmas.Bool.Decides.{nat_tests}
use Rattle.std.proofs.lemmas.List.{get_or_append_left}
use Rattle.std.proofs.Math.Seq.{get_or-append_seam}
use Rattle.decode.specs.declared.insn.Operand.TheVariants as operand
use Rattle.decode.specs.declared.insn.Insn.{Insn}
use Rattle.decode.specs.declared.insn.Insn.TheVariants.{Alu, MovSx, Neg, End, Jump, JumpLong, JumpIf, Call, Exit, Load, LoadSx, StoreReg, StoreImm, Wide}
use Rattle.decode.specs.Slots.{insn_at}
use Rattle.dense.specs.declared.op.Op.{Op}
use Rattle.dense.specs.Acts.{IsWithin}
use Rattle.regtypes.specs.declared.image_form.ImageForm.{ImageForm}
use Rattle.regtypes.specs.declared.frame.Frame.{Frame}
use Rattle.regtypes.specs.declared.frame.Kind.{Kind}
use Rattle.regtypes.specs.Frame.{kind_at}
use Rattle.regtypes.specs.Typing.{Table, frame_at}
use Rattle.verifier.specs.Least.{IsLeastTyping}
use Rattle.verifier.specs.Places.{target_of}
use Rattle.verifier.specs.Dense.{position, dense_of, helper_op, IsPooled, IsDense}
use Rattle.native.specs.declared.task.SlotTask.{SlotTask}
use Rattle.native.specs.declared.task.SlotTask.TheVariants as task
use Rattle.native.specs.Inside.Operations.{task_for, IsTaskOf}
use Rattle.native.specs.SlotTasks.{helper_task, task_in, task_there, tasks_in, task_at}
use Rattle.native.specs.Inside.Operations.{IsTold, AreTold}
use Rattle.native.proofs.FormTasks.{alu_imm_task, alu_reg_task, movsx_task, neg_task, swap_task, jump_imm_task, jump_reg_task, load_task, load_sx_task, store_reg_task, store_imm_task}

-- ---- the task of an instruction's operation is the instruction's

module _ (len : ℕ) (kinds : List Kind) (pool : List ℕ) (slot at : ℕ) where
  helper_is : (z : ℤ) → IsWithin (length pool) (helper_op len kinds z) → task_for pool (helper_op len kinds z) ≡ Some (helper_task len kinds z)
  helper_is (pos zero) w = absurd w
  helper_is (pos (suc zero)) w = refl
  helper_is (pos (suc (suc zero))) w = refl
  helper_is (pos (suc (suc (suc zero)))) w = refl
  helper_is (pos (suc (suc (suc (suc zero))))) w = refl
  helper_is (pos (suc (suc (suc (suc (suc zero)))))) w = refl
  helper_is (pos (suc (suc (suc (suc (suc (suc zero))))))) w = refl
  helper_is (pos (suc (suc (suc (suc (suc (suc (suc m)))))))) w = absurd w
  helper_is (negsuc m) w = absurd w

  insn_is : (i : Insn) → IsWithin (length pool) (dense_of len kinds slot at i) → IsPooled i pool at → task_for pool (dense_of len kinds slot at i) ≡ Some (task_in len kinds slot i)
  insn_is (Alu a w dst (operand.Imm z)) v p = alu_imm_task pool a w dst z
  insn_is (Alu a w dst (operand.Reg src)) v p = alu_reg_task pool a w dst src
  insn_is (MovSx x dst src) v p = movsx_task pool x dst src
  insn_is (Neg w dst) v p = neg_task pool w dst
  insn_is (End o b dst) v p = swap_task pool o b dst
  insn_is (Jump d) v p = refl
  insn_is (JumpLong d) v p = refl
  insn_is (JumpIf x w dst (operand.Imm z) d) v p = jump_imm_task pool x w dst z (target_of slot d)
  insn_is (JumpIf x w dst (operand.Reg src) d) v p = jump_reg_task pool x w dst src (target_of slot d)
  insn_is (Call z) v p = helper_is z v
  insn_is Exit v p = refl
  insn_is (Load z dst src d) v p = load_task pool z dst (position len (kind_at kinds src.number) d)
  insn_is (LoadSx z dst src d) v p = load_sx_task pool z dst (position len (kind_at kinds src.number) d)
  insn_is (StoreReg z dst src d) v p = store_reg_task pool z src (position len (kind_at kinds dst.number) d)
  insn_is (StoreImm z dst d imm) v p = store_imm_task pool z (position len (kind_at kinds dst.number) d) imm
  insn_is (Wide dst value) v p =
      let t : nat_lt at (length pool) ≡ true = grind (arith, nat_tests) in
      ap (λ b. cond b (Some (task.Wide dst (slice_index pool at))) None) t ∙ ap (λ n. Some (task.Wide dst n)) p

module _ (form : ImageForm) {slots : List (Option Insn)} {len : ℕ} {table : Table} {ops : List Op} {pool : List ℕ} (least : IsLeastTyping form slots len table) (d : IsDense slots table len ops pool) (slot : ℕ) where
  -- where a call may come to, the slot's task is its operation's
  pub is_there : (g : Frame) (o : Op) → frame_at table slot ≡ Some g → slice_get ops slot ≡ Some o → task_for pool o ≡ Some (task_there len slot (frame_at table slot) (insn_at slots slot))
  is_there g o there found =
      let b = (least.types.stands slot g there).begins in
      let i = b.0 in
      let st = d.each slot g i there b.1 in
      let e : o ≡ dense_of len g.kinds slot st.at i = let x : Some o ≡ Some (dense_of len g.kinds slot st.at i) = sym found ∙ st.is in cc in
      ap (task_for pool) e ∙ insn_is len g.kinds pool slot st.at i st.within st.pooled
      ∙ ap Some (ap (λ f. task_there len slot f (Some i)) (sym there) ∙ ap (task_there len slot (frame_at table slot)) (sym b.1))

  -- a slot that a call may come to has an operation, and that a task
  pub has_op : (g : Frame) → frame_at table slot ≡ Some g → (o : Op) × (slice_get ops slot ≡ Some o)
  has_op g there =
      let b = (least.types.stands slot g there).begins in
      let st = d.each slot g b.0 there b.1 in
      (dense_of len g.kinds slot st.at b.0, st.is)

  -- a task that is the operation's where a call may come to, and else nothing to do
  module _ (r u : SlotTask) (b : Bool) (test : b ≡ is_some (frame_at table slot)) (either : r ≡ cond b u task.Dead) (named : (o : Op) (t : SlotTask) → slice_get ops slot ≡ Some o → task_for pool o ≡ Some t → (u ≡ t) × IsTaskOf pool o t) where
    reached : (g : Frame) → frame_at table slot ≡ Some g → r ≡ u
    reached g there = either ∙ ap (λ v. cond v u task.Dead) (test ∙ ap is_some there)

    pub value_of : r ≡ task_there len slot (frame_at table slot) (insn_at slots slot)
    value_of = by_frame (frame_at table slot) refl
      where
        by_frame : (x : Option Frame) → frame_at table slot ≡ x → r ≡ task_there len slot (frame_at table slot) (insn_at slots slot)
        by_frame None n =
            either ∙ ap (λ v. cond v u task.Dead) (test ∙ ap is_some n)
            ∙ sym (ap (λ f. task_there len slot f (insn_at slots slot)) n)
        by_frame (Some g) there =
            let x = has_op g there in
            reached g there ∙ (named x.0 (task_there len slot (frame_at table slot) (insn_at slots slot)) x.1 (is_there g x.0 there x.1)).0

    pub told_of : IsTold table ops pool slot r
    told_of g o t there found is =
        let x = named o t found is in
        (reached g there ∙ x.0, x.1)

-- ---- slot by slot

pub told_none : (table : Table) (ops : List Op) (pool : List ℕ) (tasks : List SlotTask) → AreTold table ops pool tasks 0
told_none table ops pool tasks slot l = absurd (omega arith)

pub told_more : (table : Table) (ops : List Op) (pool : List ℕ) (tasks : List SlotTask) (n : ℕ) (t : SlotTask) → length tasks ≡ n → AreTold table ops pool tasks n → IsTold table ops pool n t → AreTold table ops pool (tasks ++ t ∷ []) (n + 1)
told_more table ops pool tasks n t many told this slot l =
    ⊎_elim
    (λ (below : slot < n). subst (IsTold table ops pool slot) (sym (get_or_append_left tasks (t ∷ []) task.Dead slot (omega (arith, many)))) (told slot below))
    (λ (ge : n ≤ slot).
    let e : slot ≡ n = omega arith in
    let k : slot ≡ length tasks = e ∙ sym many in
    let new : task_at (tasks ++ t ∷ []) slot ≡ t = ap (λ j. task_at (tasks ++ t ∷ []) j) k ∙ get_or-append_seam tasks t [] task.Dead in
    subst (IsTold table ops pool slot) (sym new) (subst (λ j. IsTold table ops pool j t) (sym e) this))
    (cases_lt slot n)

-- as far as the tasks were told
pub record Telling (slots : List (Option Insn)) (table : Table) (len : ℕ) (ops : List Op) (pool : List ℕ) (tasks : List SlotTask) (n : ℕ) : Type 0 where
  pub value : tasks ≡ tasks_in slots table len n
  pub long : length tasks ≡ n
  pub told : AreTold table ops pool tasks n

pub telling_none : (slots : List (Option Insn)) (table : Table) (len : ℕ) (ops : List Op) (pool : List ℕ) (tasks : List SlotTask) → tasks ≡ [] → Telling slots table len ops pool tasks 0
telling_none slots table len ops pool tasks e = record { value = e; long = ap length e; told = told_none table ops pool tasks }

pub telling_more : (slots : List (Option Insn)) (table : Table) (len : ℕ) (ops : List Op) (pool : List ℕ) (tasks : List SlotTask) (n : ℕ) (t : SlotTask) → t ≡ task_there len n (frame_at table n) (insn_at slots n) → IsTold table ops pool n t → Telling slots table len ops pool tasks n → Telling slots table len ops pool (tasks ++ t ∷ []) (n + 1)
telling_more slots table len ops pool tasks n t is told w = record {
  value =
      let e : suc n ≡ n + 1 = omega arith in
      ap (λ xs. xs ++ t ∷ []) w.value ∙ ap (λ x. tasks_in slots table len n ++ x ∷ []) is ∙ ap (tasks_in slots table len) e;
  long = length-append tasks (t ∷ []) ∙ ap (λ k. k + 1) w.long;
  told = told_more table ops pool tasks n t w.long w.told told;
}
