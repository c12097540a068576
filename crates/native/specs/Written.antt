-- The bytes of an image's code.
use Rattle.std.specs.Prelude.{◌≡◌, ℕ, zero, suc, ◌+◌, ◌-◌, List, [], ◌++◌, Option, length, replicate, slice_set}
use Rattle.decode.specs.declared.insn.Insn.{Insn}
use Rattle.regtypes.specs.declared.image_form.ImageForm.{ImageForm}
use Rattle.regtypes.specs.Typing.{Table}
use Rattle.verifier.specs.Least.{IsLeastTyping}
use Rattle.native.specs.declared.prologue.Opening.{Opening}
use Rattle.native.specs.declared.prologue.Opening.TheVariants as opening
use Rattle.native.specs.declared.task.SlotTask.{SlotTask}
use Rattle.native.specs.SlotTasks.{task_at, tasks_in}
use Rattle.native.specs.Pending.{pending_in, ArePending}
use Rattle.native.specs.Openings.{entering_by}
use Rattle.native.specs.Saved.{saved_for, SaveAll}
use Rattle.native.specs.Code.{codes}
use Rattle.native.specs.Laid.{IsPiece, LaidFrom}

-- the code of the last n slots, and the length of the code from each of them on, 0 for the others; the code of the
-- first of them depends on the lengths after it
abbrev pub Stacks : Opening → List SlotTask → ℕ → List ℕ → List ℕ → Type 0
Stacks o tasks zero tails code = (tails ≡ replicate (length tasks + 1) 0) × (code ≡ [])
Stacks o tasks (suc n) tails code =
    (tails' code' piece : List ℕ) × Stacks o tasks n tails' code'
    × IsPiece tasks (pending_in tasks) tails' (saved_for o tasks) (length tasks - suc n) (task_at tasks (length tasks - suc n)) piece
    × (tails ≡ slice_set tails' (length tasks - suc n) (length piece + length code')) × (code ≡ piece ++ code')

-- the code of all tasks comes after the entry
pub record IsWritten (o : Opening) (tasks : List SlotTask) (code : List ℕ) : Type 0 where
  pub tails : List ℕ
  pub rest : List ℕ
  pub stacks : Stacks o tasks (length tasks) tails rest
  pub is : code ≡ codes (entering_by o (saved_for o tasks)) ++ rest

-- the slots from this one on are laid out, and their code is stacked
pub record IsLaidFrom (o : Opening) (tasks : List SlotTask) (tails code : List ℕ) (slot : ℕ) : Type 0 where
  pub laid : LaidFrom tasks (pending_in tasks) tails (saved_for o tasks) code slot
  pub stacks : Stacks o tasks (length tasks - slot) tails code

-- the code of all tasks is written, each slot's code is at its place, each step is counted, and each register is saved
pub record IsServed (o : Opening) (tasks : List SlotTask) (code : List ℕ) : Type 0 where
  pub written : IsWritten o tasks code
  pub laid : LaidFrom tasks (pending_in tasks) written.tails (saved_for o tasks) written.rest 0
  pub pended : ArePending tasks (pending_in tasks)
  pub saves : SaveAll tasks (saved_for o tasks)

-- the bytes are the machine code of these slots, by the least typing
pub record IsCodeOf (form : ImageForm) (slots : List (Option Insn)) (len : ℕ) (code : List ℕ) : Type 0 where
  pub table : Table
  pub least : IsLeastTyping form slots len table
  pub written : IsWritten opening.Bare (tasks_in slots table len (length slots)) code

-- in one form, slots have one machine code with a state of one length
abbrev pub IsOneCode : Type 0
IsOneCode =
    (form : ImageForm) (slots : List (Option Insn)) (len : ℕ) (code code' : List ℕ)
    → IsCodeOf form slots len code → IsCodeOf form slots len code' → code ≡ code'
