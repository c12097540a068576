-- Which of the caller's registers the code saves on the stack.
use Rattle.std.specs.Prelude.{ℕ, ◌==◌, Bool, true, ◌||◌, List, [], ◌∷◌, slice_index_or, ◌≡◌, false, Some, slice_get}
use Rattle.native.specs.declared.saved_registers.SavedRegisters.{SavedRegisters}
use Rattle.native.specs.declared.task.SlotTask.{SlotTask}
use Rattle.native.specs.declared.task.SlotTask.TheVariants as task
use Rattle.native.specs.declared.prologue.Opening.{Opening}
use Rattle.native.specs.declared.prologue.Opening.TheVariants as opening

-- r0, r1, r3 and r4 are in registers that don't belong to the caller; r2 and r5 to r9 are in registers of the caller,
-- and are written only if these are saved
abbrev pub may_write : SavedRegisters → ℕ → Bool
may_write s r = slice_index_or (true ∷ true ∷ s.r12 ∷ true ∷ true ∷ s.rbx ∷ s.rbp ∷ s.r13 ∷ s.r14 ∷ s.r15 ∷ []) r true

-- the saved registers, with the caller's register of one more
abbrev pub and_register : SavedRegisters → ℕ → SavedRegisters
and_register s r = record {
  rbx = s.rbx || (r == 5);
  rbp = s.rbp || (r == 6);
  r12 = s.r12 || (r == 2);
  r13 = s.r13 || (r == 7);
  r14 = s.r14 || (r == 8);
  r15 = s.r15 || (r == 9);
}

-- all that the first lets code write, the second does
abbrev pub Includes : SavedRegisters → SavedRegisters → Type 0
Includes s u = (r : ℕ) → may_write s r ≡ true → may_write u r ≡ true

-- it writes only registers that may be written; a helper answers in r0
abbrev pub WritesWithin : SavedRegisters → SlotTask → Type 0
WritesWithin s (task.Compute op w dst o) = may_write s dst.number ≡ true
WritesWithin s (task.Extend x dst src) = may_write s dst.number ≡ true
WritesWithin s (task.Negate w dst) = may_write s dst.number ≡ true
WritesWithin s (task.Reorder order bits dst) = may_write s dst.number ≡ true
WritesWithin s (task.Load size dst at) = may_write s dst.number ≡ true
WritesWithin s (task.LoadSx size dst at) = may_write s dst.number ≡ true
WritesWithin s (task.LoadBy size dst base d) = may_write s dst.number ≡ true
WritesWithin s (task.LoadSxBy size dst base d) = may_write s dst.number ≡ true
WritesWithin s (task.Wide dst value) = may_write s dst.number ≡ true
WritesWithin s t = Unit {0}

-- each register that a task writes is saved
abbrev pub SaveAll : List SlotTask → SavedRegisters → Type 0
SaveAll tasks saved = (k : ℕ) (t : SlotTask) → slice_get tasks k ≡ Some t → WritesWithin saved t

-- the saved registers, with the one that a task writes
abbrev pub and_task : SavedRegisters → SlotTask → SavedRegisters
and_task s (task.Compute a w dst o) = and_register s dst.number
and_task s (task.Extend x dst src) = and_register s dst.number
and_task s (task.Negate w dst) = and_register s dst.number
and_task s (task.Reorder o b dst) = and_register s dst.number
and_task s (task.Load size dst at) = and_register s dst.number
and_task s (task.LoadSx size dst at) = and_register s dst.number
and_task s (task.LoadBy size dst base d) = and_register s dst.number
and_task s (task.LoadSxBy size dst base d) = and_register s dst.number
and_task s (task.Wide dst value) = and_register s dst.number
and_task s t = s

-- the saved registers, with those that tasks write
abbrev pub and_tasks : SavedRegisters → List SlotTask → SavedRegisters
and_tasks s [] = s
and_tasks s (t ∷ ts) = and_tasks (and_task s t) ts

-- no register has to be saved
abbrev pub nothing : SavedRegisters
nothing = record { rbx = false; rbp = false; r12 = false; r13 = false; r14 = false; r15 = false }

-- the registers to save for tasks
abbrev pub saved_in : List SlotTask → SavedRegisters
saved_in ts = and_tasks nothing ts

-- the registers to save for tasks, and r2's if the beginning writes it
abbrev pub saved_for : Opening → List SlotTask → SavedRegisters
saved_for opening.Bare ts = saved_in ts
saved_for opening.Placed ts = and_register (saved_in ts) 2
