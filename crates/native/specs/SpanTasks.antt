-- The task of each instruction of form 3: a place is a position in the array, and r10 is a constant.
use Rattle.std.specs.Prelude.{ℕ, zero, suc, ◌%◌, ◌^◌, ◌==◌, ℤ, pos, List, [], ◌∷◌, ◌++◌, Option, Some, None, if◌then◌else◌}
use Rattle.decode.specs.declared.insn.Insn.{Insn}
use Rattle.decode.specs.declared.insn.Insn.TheVariants.{Alu, MovSx, Neg, End, Jump, JumpLong, JumpIf, Call, Exit, Load, LoadSx, StoreReg}
use Rattle.decode.specs.declared.insn.Insn.TheVariants.{StoreImm, Wide}
use Rattle.decode.specs.declared.insn.Operand.{Operand}
use Rattle.decode.specs.declared.insn.Operand.TheVariants as operand
use Rattle.decode.specs.declared.insn.Reg.{Reg}
use Rattle.decode.specs.declared.insn.Size.{Size}
use Rattle.decode.specs.declared.insn.SignedSize.{SignedSize}
use Rattle.decode.specs.Slots.{insn_at}
use Rattle.spans.specs.Concrete.{array_size}
use Rattle.spans.specs.Typing.{target}
use Rattle.native.specs.declared.task.SlotTask.{SlotTask}
use Rattle.native.specs.declared.task.SlotTask.TheVariants as task
use Rattle.native.specs.Tasks.{position_by}

-- r10 is the end of the array
abbrev pub operand_in : ℕ → Operand → Operand
operand_in len (operand.Imm z) = operand.Imm z
operand_in len (operand.Reg r) = if r.number == 10 then operand.Imm (pos (array_size len)) else operand.Reg r

-- the position that r10 and an offset give
abbrev pub stack_at : ℕ → ℤ → ℕ
stack_at len d = position_by (array_size len) d % 2 ^ 16

-- the slot that an instruction jumps to
abbrev pub slot_of : ℕ → Insn → ℕ
slot_of slot i = target slot i % 2 ^ 16

-- the task of a load, at a constant position if the base is r10
abbrev pub load_task : ℕ → Size → Reg → Reg → ℤ → SlotTask
load_task len size dst src d = if src.number == 10 then task.Load size dst (stack_at len d) else task.LoadBy size dst src d

-- the same of a load that extends a sign
abbrev pub load_sx_task : ℕ → SignedSize → Reg → Reg → ℤ → SlotTask
load_sx_task len size dst src d = if src.number == 10 then task.LoadSx size dst (stack_at len d) else task.LoadSxBy size dst src d

-- the same of a store of an immediate
abbrev pub store_imm_task : ℕ → Size → Reg → ℤ → ℤ → SlotTask
store_imm_task len size base d imm = if base.number == 10 then task.StoreImm size (stack_at len d) imm else task.StoreImmBy size base d imm

-- the task of a store, at a constant position if the base is r10
abbrev pub store_task : ℕ → Size → Reg → Reg → ℤ → SlotTask
store_task len size base src d = if base.number == 10 then task.Store size src (stack_at len d) else task.StoreBy size src base d

-- the same of a store of a register
abbrev pub store_reg_task : ℕ → Size → Reg → Reg → ℤ → SlotTask
store_reg_task len size base src d =
    if src.number == 10 then store_imm_task len size base d (pos (array_size len)) else store_task len size base src d

-- the task of a helper
abbrev pub helper_task : ℤ → SlotTask
helper_task (pos (suc zero)) = task.SendBy
helper_task (pos (suc (suc zero))) = task.OutputBy
helper_task (pos (suc (suc (suc zero)))) = task.Me
helper_task (pos (suc (suc (suc (suc zero))))) = task.From
helper_task (pos (suc (suc (suc (suc (suc zero)))))) = task.SendSizedBy
helper_task (pos (suc (suc (suc (suc (suc (suc zero))))))) = task.OutputSizedBy
helper_task z = task.Dead

-- the task of an instruction at a slot, with a state of `len` bytes
abbrev pub task_in : ℕ → ℕ → Insn → SlotTask
task_in len slot (Alu a w dst o) = task.Compute a w dst (operand_in len o)
task_in len slot (MovSx x dst src) = task.Extend x dst src
task_in len slot (Neg w dst) = task.Negate w dst
task_in len slot (End order bits dst) = task.Reorder order bits dst
task_in len slot (Jump d) = task.Leap (slot_of slot (Jump d))
task_in len slot (JumpLong d) = task.Leap (slot_of slot (JumpLong d))
task_in len slot (JumpIf x w dst o d) = task.Branch x w dst (operand_in len o) (slot_of slot (Jump d))
task_in len slot (Call z) = helper_task z
task_in len slot Exit = task.Exit
task_in len slot (Load size dst src d) = load_task len size dst src d
task_in len slot (LoadSx size dst src d) = load_sx_task len size dst src d
task_in len slot (StoreReg size dst src d) = store_reg_task len size dst src d
task_in len slot (StoreImm size dst d imm) = store_imm_task len size dst d imm
task_in len slot (Wide dst value) = task.Wide dst value

-- the task of a slot; `Dead` if no instruction begins there
abbrev pub task_there : ℕ → ℕ → Option Insn → SlotTask
task_there len slot None = task.Dead
task_there len slot (Some i) = task_in len slot i

-- the tasks of the first n slots
abbrev pub tasks_in : List (Option Insn) → ℕ → ℕ → List SlotTask
tasks_in slots len zero = []
tasks_in slots len (suc n) = tasks_in slots len n ++ task_there len n (insn_at slots n) ∷ []
