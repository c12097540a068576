-- Which registers are kept.
use Rattle.std.proofs.Common.{◌≡◌, ℕ, zero, suc, ◌+◌, ◌<◌, ◌≤◌, Bool, true, false, List, length, drop, Some, refl, sym, ap, ◌∙◌, subst, ⊎_elim, arith}
use Rattle.std.specs.Prelude.{◌||◌, slice_get}
use Rattle.std.proofs.lemmas.Bool.{cases_lt}
use Rattle.native.specs.declared.task.SlotTask.{SlotTask}
use Rattle.native.specs.declared.task.SlotTask.TheVariants as task
use Rattle.native.specs.declared.saved_registers.SavedRegisters.{SavedRegisters}
use Rattle.native.specs.SlotTasks.{task_at}
use Rattle.native.specs.Saved.{Includes, WritesWithin, SaveAll, may_write, and_register, and_task, and_tasks, saved_in}
use Rattle.std.proofs.lemmas.Option.{slice_get-get_or, slice_get_within}
use Rattle.std.proofs.lemmas.List.{at_drop_more, drop_all}

or_true : (b : Bool) → (b || true) ≡ true
or_true true = refl
or_true false = refl

-- a register that was added may be written
pub added_may : (s : SavedRegisters) (r : ℕ) → may_write (and_register s r) r ≡ true
added_may s zero = refl
added_may s (suc zero) = refl
added_may s (suc (suc zero)) = or_true s.r12
added_may s (suc (suc (suc zero))) = refl
added_may s (suc (suc (suc (suc zero)))) = refl
added_may s (suc (suc (suc (suc (suc zero))))) = or_true s.rbx
added_may s (suc (suc (suc (suc (suc (suc zero)))))) = or_true s.rbp
added_may s (suc (suc (suc (suc (suc (suc (suc zero))))))) = or_true s.r13
added_may s (suc (suc (suc (suc (suc (suc (suc (suc zero)))))))) = or_true s.r14
added_may s (suc (suc (suc (suc (suc (suc (suc (suc (suc zero))))))))) = or_true s.r15
added_may s (suc (suc (suc (suc (suc (suc (suc (suc (suc (suc r)))))))))) = refl

-- a task that writes within some writes within more
pub writes_more : (s u : SavedRegisters) (t : SlotTask) → Includes s u → WritesWithin s t → WritesWithin u t
writes_more s u (task.Compute o w dst b) i h = i dst.number h
writes_more s u (task.Extend x dst src) i h = i dst.number h
writes_more s u (task.Negate w dst) i h = i dst.number h
writes_more s u (task.Reorder o b dst) i h = i dst.number h
writes_more s u (task.Load z dst at) i h = i dst.number h
writes_more s u (task.LoadSx z dst at) i h = i dst.number h
writes_more s u (task.LoadBy z dst base d) i h = i dst.number h
writes_more s u (task.LoadSxBy z dst base d) i h = i dst.number h
writes_more s u (task.Wide dst v) i h = i dst.number h
writes_more s u (task.Store z src at) i h = tt
writes_more s u (task.StoreImm z at imm) i h = tt
writes_more s u (task.StoreBy z src base d) i h = tt
writes_more s u (task.StoreImmBy z base d imm) i h = tt
writes_more s u (task.Branch x w dst o to) i h = tt
writes_more s u (task.Leap to) i h = tt
writes_more s u task.Me i h = tt
writes_more s u task.From i h = tt
writes_more s u (task.Send at) i h = tt
writes_more s u (task.Output at) i h = tt
writes_more s u (task.SendSized at) i h = tt
writes_more s u (task.OutputSized at) i h = tt
writes_more s u task.SendBy i h = tt
writes_more s u task.OutputBy i h = tt
writes_more s u task.SendSizedBy i h = tt
writes_more s u task.OutputSizedBy i h = tt
writes_more s u task.Exit i h = tt
writes_more s u task.Dead i h = tt

-- the tasks before this one write no other register
abbrev pub KeepsTo : List SlotTask → SavedRegisters → ℕ → Type 0
KeepsTo tasks saved index = (k : ℕ) (t : SlotTask) → k < index → slice_get tasks k ≡ Some t → WritesWithin saved t

-- and so far the registers are those that tasks write
pub record KeptTo (tasks : List SlotTask) (saved : SavedRegisters) (index : ℕ) : Type 0 where
  pub keeps : KeepsTo tasks saved index
  pub is : and_tasks saved (drop index tasks) ≡ saved_in tasks

-- and of one more
pub keeps_next : (tasks : List SlotTask) (s u : SavedRegisters) (index : ℕ) (v : SlotTask) → index < length tasks → v ≡ task_at tasks index → u ≡ and_task s v → Includes s u → WritesWithin u v → KeptTo tasks s index → KeptTo tasks u (index + 1)
keeps_next tasks s u index v lt is_v is_u i w h = record {
  keeps = λ k t l f. ⊎_elim
      (λ (below : k < index). writes_more s u t i (h.keeps k t below f))
      (λ (ge : index ≤ k).
      let same : k ≡ index = omega arith in
      let f' : slice_get tasks index ≡ Some t = subst (λ j. slice_get tasks j ≡ Some t) same f in
      let here : slice_get tasks index ≡ Some (task_at tasks index) = slice_get-get_or tasks index task.Dead lt in
      let q : v ≡ t = let x : Some (task_at tasks index) ≡ Some t = sym here ∙ f' in let y : task_at tasks index ≡ t = cc in is_v ∙ y in
      subst (WritesWithin u) q w)
      (cases_lt k index);
  is =
      ap (λ a. and_tasks a (drop (index + 1) tasks)) (is_u ∙ ap (and_task s) is_v)
      ∙ sym (at_drop_more (and_tasks s) tasks index task.Dead lt)
      ∙ h.is;
}

-- and of all
pub keeps_all : (tasks : List SlotTask) (s : SavedRegisters) (index : ℕ) → KeptTo tasks s index → length tasks ≤ index → SaveAll tasks s
keeps_all tasks s index h l k t f = let w = slice_get_within tasks k t f in h.keeps k t (omega arith) f

pub keeps_is : (tasks : List SlotTask) (s : SavedRegisters) (index : ℕ) → KeptTo tasks s index → length tasks ≤ index → s ≡ saved_in tasks
keeps_is tasks s index h l = ap (and_tasks s) (sym (drop_all index tasks l)) ∙ h.is

-- if more registers are saved, this still holds
pub saves_more : (tasks : List SlotTask) (s u : SavedRegisters) → Includes s u → SaveAll tasks s → SaveAll tasks u
saves_more tasks s u i h k t f = writes_more s u t i (h k t f)
