-- How code begins and ends, and the registers that it keeps on the stack.
use Rattle.std.specs.Prelude.{List, [], ◌∷◌, ◌++◌, ℕ, Bool, if◌then◌else◌}
use Rattle.x86.specs.declared.instruction.Instr.{Instr}
use Rattle.x86.specs.declared.instruction.Instr.TheVariants as instr
use Rattle.native.specs.declared.prologue.Opening.{Opening}
use Rattle.native.specs.declared.prologue.Opening.TheVariants as opening
use Rattle.native.specs.declared.saved_registers.SavedRegisters.{SavedRegisters}
use Rattle.native.specs.Code.{clear}
use Rattle.decode.specs.declared.insn.Width.TheVariants.{W64}
use Rattle.decode.specs.declared.insn.Size.TheVariants as size

-- pushes a register that is to be saved
abbrev pub push_if : Bool → ℕ → List Instr
push_if kept r = if kept then instr.Push r ∷ [] else []

-- pops a register that was saved
abbrev pub pop_if : Bool → ℕ → List Instr
pop_if kept r = if kept then instr.Pop r ∷ [] else []

-- pushes the registers to save
abbrev pub saving : SavedRegisters → List Instr
saving s =
    push_if s.rbx 3 ++ (push_if s.rbp 5 ++ (push_if s.r12 12 ++ (push_if s.r13 13 ++ (push_if s.r14 14 ++ push_if s.r15 15))))

-- pops what was saved, the last first
abbrev pub restoring : SavedRegisters → List Instr
restoring s =
    pop_if s.r15 15 ++ (pop_if s.r14 14 ++ (pop_if s.r13 13 ++ (pop_if s.r12 12 ++ (pop_if s.rbp 5 ++ pop_if s.rbx 3))))

-- rdi is 384 bytes after the beginning of the array, r9 is the message's length, and the count of steps is 0
abbrev pub beginning : List Instr
beginning = instr.Lea 7 7 384 ∷ instr.Mov W64 9 2 ∷ clear 11 ∷ []

-- saves registers, then sets up rdi, r9 and the count
abbrev pub entering : SavedRegisters → List Instr
entering saved = saving saved ++ beginning

-- r1 and r2 get the positions of message and state
abbrev pub placing : List Instr
placing = clear 8 ∷ instr.MovImm 12 512 ∷ []

-- how code begins: in form 3 r1 and r2 get the positions of message and state
abbrev pub entering_by : Opening → SavedRegisters → List Instr
entering_by opening.Bare saved = entering saved
entering_by opening.Placed saved = entering saved ++ placing

-- stores the count of steps
abbrev pub ending : Instr
ending = instr.Store size.Double 6 16 11

-- stores the count, restores the saved registers, and returns
abbrev pub leaving : SavedRegisters → List Instr
leaving saved = ending ∷ restoring saved ++ instr.Return ∷ []
