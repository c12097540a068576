-- The instructions of a slot: its task's, those that count steps, and a jump.
use Rattle.std.specs.Prelude.{◌≡◌, ℕ, ◌+◌, ◌<◌, ◌≤◌, ◌^◌, ◌==◌, List, [], ◌∷◌, ◌++◌, nat_lt, slice_index, if◌then◌else◌}
use Rattle.decode.specs.declared.insn.AluOp.TheVariants as op
use Rattle.decode.specs.declared.insn.Width.{Width}
use Rattle.decode.specs.declared.insn.Width.TheVariants.{W32}
use Rattle.decode.specs.declared.insn.Condition.{Condition}
use Rattle.decode.specs.declared.insn.Operand.{Operand}
use Rattle.x86.specs.declared.instruction.ConditionCode as x86
use Rattle.x86.specs.declared.instruction.Instr.{Instr}
use Rattle.x86.specs.declared.instruction.Instr.TheVariants as instr
use Rattle.native.specs.declared.task.SlotTask.{SlotTask}
use Rattle.native.specs.declared.task.SlotTask.TheVariants as task
use Rattle.native.specs.declared.saved_registers.SavedRegisters.{SavedRegisters}
use Rattle.native.specs.Openings.{leaving}
use Rattle.native.specs.Code.{gpr, clear, body_of, IsBody, IsShort, TaskIsShort}
use Rattle.native.specs.Emission.{send_tests, send_good, send_end, output_tests, output_good, output_end, send_sized_tests, send_sized_good}
use Rattle.native.specs.Emission.{send_sized_end, output_sized_tests, output_sized_good, output_sized_end, send_by_good, output_by_good}
use Rattle.native.specs.Emission.{send_sized_by_good, output_sized_by_good, IsCall}
use Rattle.native.specs.Quotient.{two_size, IsQuotient, IsSigned}
use Rattle.native.specs.Comparison.{condition_of, compare_code}
use Rattle.native.specs.Pending.{taken}

-- the instructions of a task that always goes on
abbrev pub IsDone : SlotTask → List Instr → Type 0
IsDone (task.Send at) is = IsCall send_tests (send_good at) send_end is
IsDone (task.Output at) is = IsCall output_tests (output_good at) output_end is
IsDone (task.SendSized at) is = IsCall send_sized_tests (send_sized_good at) send_sized_end is
IsDone (task.OutputSized at) is = IsCall output_sized_tests (output_sized_good at) output_sized_end is
IsDone task.SendBy is = IsCall send_tests send_by_good send_end is
IsDone task.OutputBy is = IsCall output_tests output_by_good output_end is
IsDone task.SendSizedBy is = IsCall send_sized_tests send_sized_by_good send_sized_end is
IsDone task.OutputSizedBy is = IsCall output_sized_tests output_sized_by_good output_sized_end is
IsDone (task.Compute op.Div w dst o) is = IsQuotient w dst.number o 0 (clear (gpr dst.number)) (two_size W32 (gpr dst.number)) is
IsDone (task.Compute op.Mod w dst o) is =
    IsQuotient w dst.number o 2 (instr.Mov w (gpr dst.number) (gpr dst.number)) (two_size w (gpr dst.number)) is
IsDone (task.Compute op.Sdiv w dst o) is =
    IsSigned w dst.number o 0 (instr.Neg w (gpr dst.number))
    (two_size w (gpr dst.number)) (clear (gpr dst.number)) (two_size W32 (gpr dst.number)) is
IsDone (task.Compute op.Smod w dst o) is =
    IsSigned w dst.number o 2 (clear (gpr dst.number))
    (two_size W32 (gpr dst.number)) (instr.Mov w (gpr dst.number) (gpr dst.number)) (two_size w (gpr dst.number)) is
IsDone t is = IsBody (body_of t) is

-- k is added to the count of steps in r11
abbrev pub flushed : ℕ → List Instr
flushed k = if k == 0 then [] else instr.Lea 11 11 k ∷ []

-- k steps are added to the count when the call goes on at another slot
pub record Counts (pending : List ℕ) (slot to k : ℕ) : Type 0 where
  pub short : k < 2 ^ 31
  pub sums : k + slice_index pending to ≡ slice_index pending slot + 1

-- the distance from the end of a slot's code to the code of another; `tails` has the length of the code from each slot
-- on
pub record Reaches (tails : List ℕ) (slot to d : ℕ) : Type 0 where
  pub short : d < 2 ^ 31
  pub sums : d + slice_index tails to ≡ slice_index tails (slot + 1)

-- a jump forward, short if 7 bits hold its distance
abbrev pub jump_code : ℕ → Instr
jump_code d = if nat_lt d 128 then instr.JumpShort d else instr.Jump d

-- a conditional jump forward, short if 7 bits hold its distance
abbrev pub jump_if_code : x86.ConditionCode → ℕ → Instr
jump_if_code x d = if nat_lt d 128 then instr.JumpIfShort x d else instr.JumpIf x d

-- a jump over the code of a wide instruction's second slot
abbrev pub skipped : ℕ → List Instr
skipped d = if d == 0 then [] else jump_code d ∷ []

-- a task that goes on at the slot after it: its code, the steps that it adds to the count, and a jump if it is wide
pub record Plain (pending tails : List ℕ) (slot : ℕ) (t : SlotTask) (is : List Instr) : Type 0 where
  pub bs : List Instr
  pub k : ℕ
  pub d : ℕ
  pub done : IsDone t bs
  pub is_are : is ≡ bs ++ (flushed k ++ skipped d)
  pub counts : Counts pending slot (slot + taken t) k
  pub reaches : Reaches tails slot (slot + taken t) d
  pub short : TaskIsShort t

-- a conditional jump: it adds the same number of steps on both ways
pub record Forks (pending tails : List ℕ)
    (slot : ℕ) (x : Condition) (w : Width) (dst : ℕ) (o : Operand) (to : ℕ) (is : List Instr) : Type 0 where
  pub k : ℕ
  pub d : ℕ
  pub is_are : is ≡ flushed k ++ compare_code x w dst o ∷ jump_if_code (condition_of x) d ∷ []
  pub passes : Counts pending slot (slot + 1) k
  pub takes : Counts pending slot to k
  pub reaches : Reaches tails slot to d
  pub short : IsShort o

-- a jump: it adds the pending steps before it
pub record Jumps (pending tails : List ℕ) (slot to : ℕ) (is : List Instr) : Type 0 where
  pub k : ℕ
  pub d : ℕ
  pub is_are : is ≡ flushed k ++ jump_code d ∷ []
  pub takes : Counts pending slot to k
  pub reaches : Reaches tails slot to d

-- the end of a call: it adds the pending steps, and leaves
pub record Ends (pending : List ℕ) (saved : SavedRegisters) (slot : ℕ) (is : List Instr) : Type 0 where
  pub k : ℕ
  pub is_are : is ≡ flushed k ++ leaving saved
  pub short : k < 2 ^ 31
  pub sums : k ≡ slice_index pending slot + 1

-- these instructions do the task of this slot
abbrev pub Serves : List ℕ → List ℕ → SavedRegisters → ℕ → SlotTask → List Instr → Type 0
Serves pending tails saved slot (task.Branch x w dst o to) is = Forks pending tails slot x w dst.number o to is
Serves pending tails saved slot (task.Leap to) is = Jumps pending tails slot to is
Serves pending tails saved slot task.Exit is = Ends pending saved slot is
Serves pending tails saved slot task.Dead is = is ≡ []
Serves pending tails saved slot t is = Plain pending tails slot t is

-- the code after a slot is short, and no later part of it is longer
pub record IsBehind (tails : List ℕ) (slot : ℕ) : Type 0 where
  pub short : slice_index tails (slot + 1) < 2 ^ 31
  pub falls : (k : ℕ) → slot < k → slice_index tails k ≤ slice_index tails (slot + 1)
