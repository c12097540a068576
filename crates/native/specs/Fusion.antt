-- Two tasks that one instruction does: a register is copied, and a number is added to the copy.
use Rattle.std.specs.Prelude.{ℕ, ◌+◌, ◌-◌, ◌==◌, ℤ, Bool, true, ◌&&◌, nat_lt, is_some, List, Option, Some, None, slice_index_or}
use Rattle.std.specs.Prelude.{if◌then◌else◌}
use Rattle.decode.specs.declared.insn.AluOp.TheVariants as op
use Rattle.decode.specs.declared.insn.Width.TheVariants.{W64}
use Rattle.decode.specs.declared.insn.Operand.TheVariants as operand
use Rattle.operations.specs.Operations.{word_of}
use Rattle.x86.specs.declared.instruction.Instr.{Instr}
use Rattle.x86.specs.declared.instruction.Instr.TheVariants as instr
use Rattle.native.specs.declared.task.SlotTask.{SlotTask}
use Rattle.native.specs.declared.task.SlotTask.TheVariants as task
use Rattle.native.specs.Tasks.{holds_word}
use Rattle.native.specs.Code.{gpr}
use Rattle.native.specs.Targets.{targets_in}

-- the instruction for copying s to d and then adding a number to e, if e is d
abbrev pub sum_by : ℕ → ℕ → ℕ → ℤ → Option Instr
sum_by d s e z = if (d == e) && (holds_word d && holds_word s) then Some (instr.Lea (gpr d) (gpr s) (word_of z)) else None

-- the instruction, if the second task adds a number to the register d, a copy of s
abbrev pub added_to : ℕ → ℕ → SlotTask → Option Instr
added_to d s (task.Compute op.Add W64 e (operand.Imm z)) = sum_by d s e.number z
added_to d s t = None

-- the instruction of two tasks, if the first is a copy
abbrev pub sum_of : SlotTask → SlotTask → Option Instr
sum_of (task.Compute op.Mov W64 d (operand.Reg s)) u = added_to d.number s.number u
sum_of t u = None

-- the one instruction of a slot and the next, if no other task leads to the next
abbrev pub fused : List SlotTask → ℕ → Option Instr
fused tasks slot =
    if slice_index_or (targets_in tasks) (slot + 1) true then None
    else sum_of (slice_index_or tasks slot task.Dead) (slice_index_or tasks (slot + 1) task.Dead)

-- the instruction of the slot before also does this slot's task
abbrev pub is_covered : List SlotTask → ℕ → Bool
is_covered tasks slot = nat_lt 0 slot && is_some (fused tasks (slot - 1))
