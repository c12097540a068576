-- The bytes of the machine code of an image of form 3.
use Rattle.std.specs.Prelude.{◌≡◌, ℕ, List, length}
use Rattle.decode.specs.declared.insn.Insn.{Insn}
use Rattle.decode.specs.Slots.{slots_of}
use Rattle.native.specs.declared.prologue.Opening.TheVariants as opening
use Rattle.native.specs.Written.{IsWritten}
use Rattle.native.specs.SpanTasks.{tasks_in}

-- the bytes are the machine code of these instructions, with a state of this length
abbrev pub IsCodeOf : List Insn → ℕ → List ℕ → Type 0
IsCodeOf insns len code = IsWritten opening.Placed (tasks_in (slots_of insns) len (length (slots_of insns))) code

-- instructions have one machine code with a state of one length
abbrev pub IsOneCode : Type 0
IsOneCode = (insns : List Insn) (len : ℕ) (code code' : List ℕ) → IsCodeOf insns len code → IsCodeOf insns len code' → code ≡ code'
