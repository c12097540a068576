-- The task of each slot.
use Rattle.std.specs.Prelude.{ℕ, zero, suc, List, [], ◌∷◌, ◌++◌, Option, Some, ℤ, pos, slice_index_or}
use Rattle.decode.specs.declared.insn.Insn.{Insn}
use Rattle.decode.specs.declared.insn.Insn.TheVariants.{Alu, MovSx, Neg, End, Jump, JumpLong, JumpIf, Call, Exit, Load, LoadSx, StoreReg}
use Rattle.decode.specs.declared.insn.Insn.TheVariants.{StoreImm, Wide}
use Rattle.decode.specs.Slots.{insn_at}
use Rattle.regtypes.specs.declared.frame.Frame.{Frame}
use Rattle.regtypes.specs.declared.frame.Kind.{Kind}
use Rattle.regtypes.specs.Frame.{kind_at}
use Rattle.regtypes.specs.Typing.{Table, frame_at}
use Rattle.verifier.specs.Places.{target_of}
use Rattle.verifier.specs.Dense.{position, payload_position}
use Rattle.native.specs.declared.task.SlotTask.{SlotTask}
use Rattle.native.specs.declared.task.SlotTask.TheVariants as task

-- the task of a helper
abbrev pub helper_task : ℕ → List Kind → ℤ → SlotTask
helper_task len kinds (pos (suc zero)) = task.Send (payload_position len (kind_at kinds 2))
helper_task len kinds (pos (suc (suc zero))) = task.Output (payload_position len (kind_at kinds 1))
helper_task len kinds (pos (suc (suc (suc zero)))) = task.Me
helper_task len kinds (pos (suc (suc (suc (suc zero))))) = task.From
helper_task len kinds (pos (suc (suc (suc (suc (suc zero)))))) = task.SendSized (payload_position len (kind_at kinds 2))
helper_task len kinds (pos (suc (suc (suc (suc (suc (suc zero))))))) = task.OutputSized (payload_position len (kind_at kinds 1))
helper_task len kinds z = task.Dead

-- the task of an instruction, by the state's length, the kinds of the registers, and its slot
abbrev pub task_in : ℕ → List Kind → ℕ → Insn → SlotTask
task_in len kinds slot (Alu a w dst o) = task.Compute a w dst o
task_in len kinds slot (MovSx x dst src) = task.Extend x dst src
task_in len kinds slot (Neg w dst) = task.Negate w dst
task_in len kinds slot (End order bits dst) = task.Reorder order bits dst
task_in len kinds slot (Jump d) = task.Leap (target_of slot d)
task_in len kinds slot (JumpLong d) = task.Leap (target_of slot d)
task_in len kinds slot (JumpIf x w dst o d) = task.Branch x w dst o (target_of slot d)
task_in len kinds slot (Call z) = helper_task len kinds z
task_in len kinds slot Exit = task.Exit
task_in len kinds slot (Load size dst src d) = task.Load size dst (position len (kind_at kinds src.number) d)
task_in len kinds slot (LoadSx size dst src d) = task.LoadSx size dst (position len (kind_at kinds src.number) d)
task_in len kinds slot (StoreReg size dst src d) = task.Store size src (position len (kind_at kinds dst.number) d)
task_in len kinds slot (StoreImm size dst d imm) = task.StoreImm size (position len (kind_at kinds dst.number) d) imm
task_in len kinds slot (Wide dst value) = task.Wide dst value

-- the task of a slot by its frame and the instruction that begins there; `Dead` if no call comes there
abbrev pub task_there : ℕ → ℕ → Option Frame → Option Insn → SlotTask
task_there len slot (Some g) (Some i) = task_in len g.kinds slot i
task_there len slot f i = task.Dead

-- the tasks of the first n slots
abbrev pub tasks_in : List (Option Insn) → Table → ℕ → ℕ → List SlotTask
tasks_in slots table len zero = []
tasks_in slots table len (suc n) = tasks_in slots table len n ++ task_there len n (frame_at table n) (insn_at slots n) ∷ []

-- the task of a slot of the list
abbrev pub task_at : List SlotTask → ℕ → SlotTask
task_at tasks slot = slice_index_or tasks slot task.Dead
