-- The task of each operation.
use Rattle.std.specs.Prelude.{ℕ, ℤ, nat_lt, ◌<◌, List, Option, Some, None, option_map, slice_get, slice_index, length, if◌then◌else◌, ◌≡◌}
use Rattle.decode.specs.declared.insn.AluOp.{AluOp}
use Rattle.decode.specs.declared.insn.Width.{Width}
use Rattle.decode.specs.declared.insn.Condition.{Condition}
use Rattle.decode.specs.declared.insn.Reg.{Reg}
use Rattle.decode.specs.declared.insn.AluOp.TheVariants as alu
use Rattle.decode.specs.declared.insn.Width.TheVariants.{W32, W64}
use Rattle.decode.specs.declared.insn.Extension.TheVariants as extension
use Rattle.decode.specs.declared.insn.ByteOrder.TheVariants as order
use Rattle.decode.specs.declared.insn.SwapBits.TheVariants as bits
use Rattle.decode.specs.declared.insn.Condition.TheVariants as condition
use Rattle.decode.specs.declared.insn.Size.TheVariants as size
use Rattle.decode.specs.declared.insn.SignedSize.TheVariants as signed
use Rattle.decode.specs.declared.insn.Operand.TheVariants as operand
use Rattle.dense.specs.declared.op.Op.{Op}
use Rattle.dense.specs.declared.op.Op.TheVariants as op
use Rattle.native.specs.declared.task.SlotTask.{SlotTask}
use Rattle.native.specs.declared.task.SlotTask.TheVariants as task
use Rattle.helpers.specs.declared.effects.Who.{Who}
use Rattle.helpers.specs.Effects.{Emitted}
use Rattle.dense.specs.Acts.{IsWithin}
use Rattle.dense.specs.Inside.Acts.{act_of}
use Rattle.regtypes.specs.declared.frame.Frame.{Frame}
use Rattle.regtypes.specs.Typing.{Table, frame_at}
use Rattle.native.specs.Tasks.{task_act, TaskWithin, TaskFits}
use Rattle.native.specs.SlotTasks.{task_at}

-- the first of two, or the second if there is no first
abbrev pub first_of : Option SlotTask → Option SlotTask → Option SlotTask
first_of (Some t) u = Some t
first_of None u = u

-- arithmetic on a register and a number
abbrev pub alu_imm : Op → Option (AluOp × Width × Reg × ℤ)
alu_imm (op.Add64Imm dst imm) = Some (alu.Add, W64, dst, imm)
alu_imm (op.Add32Imm dst imm) = Some (alu.Add, W32, dst, imm)
alu_imm (op.Sub64Imm dst imm) = Some (alu.Sub, W64, dst, imm)
alu_imm (op.Sub32Imm dst imm) = Some (alu.Sub, W32, dst, imm)
alu_imm (op.Mul64Imm dst imm) = Some (alu.Mul, W64, dst, imm)
alu_imm (op.Mul32Imm dst imm) = Some (alu.Mul, W32, dst, imm)
alu_imm (op.Div64Imm dst imm) = Some (alu.Div, W64, dst, imm)
alu_imm (op.Div32Imm dst imm) = Some (alu.Div, W32, dst, imm)
alu_imm (op.Sdiv64Imm dst imm) = Some (alu.Sdiv, W64, dst, imm)
alu_imm (op.Sdiv32Imm dst imm) = Some (alu.Sdiv, W32, dst, imm)
alu_imm (op.Or64Imm dst imm) = Some (alu.Or, W64, dst, imm)
alu_imm (op.Or32Imm dst imm) = Some (alu.Or, W32, dst, imm)
alu_imm (op.And64Imm dst imm) = Some (alu.And, W64, dst, imm)
alu_imm (op.And32Imm dst imm) = Some (alu.And, W32, dst, imm)
alu_imm (op.Lsh64Imm dst imm) = Some (alu.Lsh, W64, dst, imm)
alu_imm (op.Lsh32Imm dst imm) = Some (alu.Lsh, W32, dst, imm)
alu_imm (op.Rsh64Imm dst imm) = Some (alu.Rsh, W64, dst, imm)
alu_imm (op.Rsh32Imm dst imm) = Some (alu.Rsh, W32, dst, imm)
alu_imm (op.Mod64Imm dst imm) = Some (alu.Mod, W64, dst, imm)
alu_imm (op.Mod32Imm dst imm) = Some (alu.Mod, W32, dst, imm)
alu_imm (op.Smod64Imm dst imm) = Some (alu.Smod, W64, dst, imm)
alu_imm (op.Smod32Imm dst imm) = Some (alu.Smod, W32, dst, imm)
alu_imm (op.Xor64Imm dst imm) = Some (alu.Xor, W64, dst, imm)
alu_imm (op.Xor32Imm dst imm) = Some (alu.Xor, W32, dst, imm)
alu_imm (op.Mov64Imm dst imm) = Some (alu.Mov, W64, dst, imm)
alu_imm (op.Mov32Imm dst imm) = Some (alu.Mov, W32, dst, imm)
alu_imm (op.Arsh64Imm dst imm) = Some (alu.Arsh, W64, dst, imm)
alu_imm (op.Arsh32Imm dst imm) = Some (alu.Arsh, W32, dst, imm)
alu_imm o = None

-- arithmetic on two registers
abbrev pub alu_reg : Op → Option (AluOp × Width × Reg × Reg)
alu_reg (op.Add64Reg dst src) = Some (alu.Add, W64, dst, src)
alu_reg (op.Add32Reg dst src) = Some (alu.Add, W32, dst, src)
alu_reg (op.Sub64Reg dst src) = Some (alu.Sub, W64, dst, src)
alu_reg (op.Sub32Reg dst src) = Some (alu.Sub, W32, dst, src)
alu_reg (op.Mul64Reg dst src) = Some (alu.Mul, W64, dst, src)
alu_reg (op.Mul32Reg dst src) = Some (alu.Mul, W32, dst, src)
alu_reg (op.Div64Reg dst src) = Some (alu.Div, W64, dst, src)
alu_reg (op.Div32Reg dst src) = Some (alu.Div, W32, dst, src)
alu_reg (op.Sdiv64Reg dst src) = Some (alu.Sdiv, W64, dst, src)
alu_reg (op.Sdiv32Reg dst src) = Some (alu.Sdiv, W32, dst, src)
alu_reg (op.Or64Reg dst src) = Some (alu.Or, W64, dst, src)
alu_reg (op.Or32Reg dst src) = Some (alu.Or, W32, dst, src)
alu_reg (op.And64Reg dst src) = Some (alu.And, W64, dst, src)
alu_reg (op.And32Reg dst src) = Some (alu.And, W32, dst, src)
alu_reg (op.Lsh64Reg dst src) = Some (alu.Lsh, W64, dst, src)
alu_reg (op.Lsh32Reg dst src) = Some (alu.Lsh, W32, dst, src)
alu_reg (op.Rsh64Reg dst src) = Some (alu.Rsh, W64, dst, src)
alu_reg (op.Rsh32Reg dst src) = Some (alu.Rsh, W32, dst, src)
alu_reg (op.Mod64Reg dst src) = Some (alu.Mod, W64, dst, src)
alu_reg (op.Mod32Reg dst src) = Some (alu.Mod, W32, dst, src)
alu_reg (op.Smod64Reg dst src) = Some (alu.Smod, W64, dst, src)
alu_reg (op.Smod32Reg dst src) = Some (alu.Smod, W32, dst, src)
alu_reg (op.Xor64Reg dst src) = Some (alu.Xor, W64, dst, src)
alu_reg (op.Xor32Reg dst src) = Some (alu.Xor, W32, dst, src)
alu_reg (op.Mov64Reg dst src) = Some (alu.Mov, W64, dst, src)
alu_reg (op.Mov32Reg dst src) = Some (alu.Mov, W32, dst, src)
alu_reg (op.Arsh64Reg dst src) = Some (alu.Arsh, W64, dst, src)
alu_reg (op.Arsh32Reg dst src) = Some (alu.Arsh, W32, dst, src)
alu_reg o = None

-- the task of either
abbrev pub arithmetic : Op → Option SlotTask
arithmetic o =
    first_of (option_map (λ x. task.Compute x.0 x.1 x.2 (operand.Imm x.3)) (alu_imm o))
    (option_map (λ x. task.Compute x.0 x.1 x.2 (operand.Reg x.3)) (alu_reg o))

-- a jump that compares a register with a number, and its target
abbrev pub jump_imm : Op → Option (Condition × Width × Reg × ℤ × ℕ)
jump_imm (op.JEq64Imm dst to imm) = Some (condition.Equal, W64, dst, imm, to)
jump_imm (op.JEq32Imm dst to imm) = Some (condition.Equal, W32, dst, imm, to)
jump_imm (op.JGt64Imm dst to imm) = Some (condition.Greater, W64, dst, imm, to)
jump_imm (op.JGt32Imm dst to imm) = Some (condition.Greater, W32, dst, imm, to)
jump_imm (op.JGe64Imm dst to imm) = Some (condition.GreaterEqual, W64, dst, imm, to)
jump_imm (op.JGe32Imm dst to imm) = Some (condition.GreaterEqual, W32, dst, imm, to)
jump_imm (op.JSet64Imm dst to imm) = Some (condition.Set, W64, dst, imm, to)
jump_imm (op.JSet32Imm dst to imm) = Some (condition.Set, W32, dst, imm, to)
jump_imm (op.JNe64Imm dst to imm) = Some (condition.NotEqual, W64, dst, imm, to)
jump_imm (op.JNe32Imm dst to imm) = Some (condition.NotEqual, W32, dst, imm, to)
jump_imm (op.JSgt64Imm dst to imm) = Some (condition.SignedGreater, W64, dst, imm, to)
jump_imm (op.JSgt32Imm dst to imm) = Some (condition.SignedGreater, W32, dst, imm, to)
jump_imm (op.JSge64Imm dst to imm) = Some (condition.SignedGreaterEqual, W64, dst, imm, to)
jump_imm (op.JSge32Imm dst to imm) = Some (condition.SignedGreaterEqual, W32, dst, imm, to)
jump_imm (op.JLt64Imm dst to imm) = Some (condition.Less, W64, dst, imm, to)
jump_imm (op.JLt32Imm dst to imm) = Some (condition.Less, W32, dst, imm, to)
jump_imm (op.JLe64Imm dst to imm) = Some (condition.LessEqual, W64, dst, imm, to)
jump_imm (op.JLe32Imm dst to imm) = Some (condition.LessEqual, W32, dst, imm, to)
jump_imm (op.JSlt64Imm dst to imm) = Some (condition.SignedLess, W64, dst, imm, to)
jump_imm (op.JSlt32Imm dst to imm) = Some (condition.SignedLess, W32, dst, imm, to)
jump_imm (op.JSle64Imm dst to imm) = Some (condition.SignedLessEqual, W64, dst, imm, to)
jump_imm (op.JSle32Imm dst to imm) = Some (condition.SignedLessEqual, W32, dst, imm, to)
jump_imm o = None

-- a jump that compares two registers, and its target
abbrev pub jump_reg : Op → Option (Condition × Width × Reg × Reg × ℕ)
jump_reg (op.JEq64Reg dst src to) = Some (condition.Equal, W64, dst, src, to)
jump_reg (op.JEq32Reg dst src to) = Some (condition.Equal, W32, dst, src, to)
jump_reg (op.JGt64Reg dst src to) = Some (condition.Greater, W64, dst, src, to)
jump_reg (op.JGt32Reg dst src to) = Some (condition.Greater, W32, dst, src, to)
jump_reg (op.JGe64Reg dst src to) = Some (condition.GreaterEqual, W64, dst, src, to)
jump_reg (op.JGe32Reg dst src to) = Some (condition.GreaterEqual, W32, dst, src, to)
jump_reg (op.JSet64Reg dst src to) = Some (condition.Set, W64, dst, src, to)
jump_reg (op.JSet32Reg dst src to) = Some (condition.Set, W32, dst, src, to)
jump_reg (op.JNe64Reg dst src to) = Some (condition.NotEqual, W64, dst, src, to)
jump_reg (op.JNe32Reg dst src to) = Some (condition.NotEqual, W32, dst, src, to)
jump_reg (op.JSgt64Reg dst src to) = Some (condition.SignedGreater, W64, dst, src, to)
jump_reg (op.JSgt32Reg dst src to) = Some (condition.SignedGreater, W32, dst, src, to)
jump_reg (op.JSge64Reg dst src to) = Some (condition.SignedGreaterEqual, W64, dst, src, to)
jump_reg (op.JSge32Reg dst src to) = Some (condition.SignedGreaterEqual, W32, dst, src, to)
jump_reg (op.JLt64Reg dst src to) = Some (condition.Less, W64, dst, src, to)
jump_reg (op.JLt32Reg dst src to) = Some (condition.Less, W32, dst, src, to)
jump_reg (op.JLe64Reg dst src to) = Some (condition.LessEqual, W64, dst, src, to)
jump_reg (op.JLe32Reg dst src to) = Some (condition.LessEqual, W32, dst, src, to)
jump_reg (op.JSlt64Reg dst src to) = Some (condition.SignedLess, W64, dst, src, to)
jump_reg (op.JSlt32Reg dst src to) = Some (condition.SignedLess, W32, dst, src, to)
jump_reg (op.JSle64Reg dst src to) = Some (condition.SignedLessEqual, W64, dst, src, to)
jump_reg (op.JSle32Reg dst src to) = Some (condition.SignedLessEqual, W32, dst, src, to)
jump_reg o = None

-- the task of either
abbrev pub jump : Op → Option SlotTask
jump o =
    first_of (option_map (λ x. task.Branch x.0 x.1 x.2 (operand.Imm x.3) x.4) (jump_imm o))
    (option_map (λ x. task.Branch x.0 x.1 x.2 (operand.Reg x.3) x.4) (jump_reg o))

-- the other operations on registers
abbrev pub of_registers : Op → Option SlotTask
of_registers (op.MovSxW32From8 dst src) = Some (task.Extend extension.W32From8 dst src)
of_registers (op.MovSxW32From16 dst src) = Some (task.Extend extension.W32From16 dst src)
of_registers (op.MovSxW64From8 dst src) = Some (task.Extend extension.W64From8 dst src)
of_registers (op.MovSxW64From16 dst src) = Some (task.Extend extension.W64From16 dst src)
of_registers (op.MovSxW64From32 dst src) = Some (task.Extend extension.W64From32 dst src)
of_registers (op.Neg64 dst) = Some (task.Negate W64 dst)
of_registers (op.Neg32 dst) = Some (task.Negate W32 dst)
of_registers (op.Little16 dst) = Some (task.Reorder order.Little bits.Bits16 dst)
of_registers (op.Little32 dst) = Some (task.Reorder order.Little bits.Bits32 dst)
of_registers (op.Little64 dst) = Some (task.Reorder order.Little bits.Bits64 dst)
of_registers (op.Big16 dst) = Some (task.Reorder order.Big bits.Bits16 dst)
of_registers (op.Big32 dst) = Some (task.Reorder order.Big bits.Bits32 dst)
of_registers (op.Big64 dst) = Some (task.Reorder order.Big bits.Bits64 dst)
of_registers (op.Swap16 dst) = Some (task.Reorder order.Swap bits.Bits16 dst)
of_registers (op.Swap32 dst) = Some (task.Reorder order.Swap bits.Bits32 dst)
of_registers (op.Swap64 dst) = Some (task.Reorder order.Swap bits.Bits64 dst)
of_registers o = None

-- loads and stores
abbrev pub of_memory : Op → Option SlotTask
of_memory (op.LoadDouble dst at) = Some (task.Load size.Double dst at)
of_memory (op.LoadWord dst at) = Some (task.Load size.Word dst at)
of_memory (op.LoadHalf dst at) = Some (task.Load size.Half dst at)
of_memory (op.LoadByte dst at) = Some (task.Load size.Byte dst at)
of_memory (op.LoadSxWord dst at) = Some (task.LoadSx signed.Word dst at)
of_memory (op.LoadSxHalf dst at) = Some (task.LoadSx signed.Half dst at)
of_memory (op.LoadSxByte dst at) = Some (task.LoadSx signed.Byte dst at)
of_memory (op.StoreDoubleReg src at) = Some (task.Store size.Double src at)
of_memory (op.StoreWordReg src at) = Some (task.Store size.Word src at)
of_memory (op.StoreHalfReg src at) = Some (task.Store size.Half src at)
of_memory (op.StoreByteReg src at) = Some (task.Store size.Byte src at)
of_memory (op.StoreDoubleImm at imm) = Some (task.StoreImm size.Double at imm)
of_memory (op.StoreWordImm at imm) = Some (task.StoreImm size.Word at imm)
of_memory (op.StoreHalfImm at imm) = Some (task.StoreImm size.Half at imm)
of_memory (op.StoreByteImm at imm) = Some (task.StoreImm size.Byte at imm)
of_memory o = None

-- the other operations; None for a wide value that isn't in the pool
abbrev pub of_others : List ℕ → Op → Option SlotTask
of_others pool (op.Jump to) = Some (task.Leap to)
of_others pool (op.Wide dst at) = if nat_lt at (length pool) then Some (task.Wide dst (slice_index pool at)) else None
of_others pool (op.Send at) = Some (task.Send at)
of_others pool (op.Output at) = Some (task.Output at)
of_others pool (op.SendSized at) = Some (task.SendSized at)
of_others pool (op.OutputSized at) = Some (task.OutputSized at)
of_others pool op.Me = Some task.Me
of_others pool op.From = Some task.From
of_others pool op.Exit = Some task.Exit
of_others pool op.Dead = Some task.Dead
of_others pool o = None

-- the task of an operation; None for a wide value that isn't in the pool
abbrev pub task_for : List ℕ → Op → Option SlotTask
task_for pool o = first_of (arithmetic o) (first_of (jump o) (first_of (of_registers o) (first_of (of_memory o) (of_others pool o))))

-- the task of an operation does what the operation does
pub record IsTaskOf (pool : List ℕ) (o : Op) (t : SlotTask) : Type 0 where
  pub acts : (who : Who) (slot : ℕ) (ws mem : List ℕ) (e : Emitted) → act_of who pool slot ws mem e o ≡ task_act who slot ws mem e t
  pub within : IsWithin (length pool) o → TaskWithin t
  pub fits : TaskFits t

-- if a call may come to the slot, this is the task of the slot's operation
abbrev pub IsTold : Table → List Op → List ℕ → ℕ → SlotTask → Type 0
IsTold table ops pool slot told =
    (g : Frame) (o : Op) (t : SlotTask) → frame_at table slot ≡ Some g → slice_get ops slot ≡ Some o → task_for pool o ≡ Some t
    → (told ≡ t) × IsTaskOf pool o t

-- this holds for each slot below n
abbrev pub AreTold : Table → List Op → List ℕ → List SlotTask → ℕ → Type 0
AreTold table ops pool tasks n = (slot : ℕ) → slot < n → IsTold table ops pool slot (task_at tasks slot)
