-- Rows of what instructions did on a processor, stored by examples/native/forms.
use Rattle.std.specs.Prelude.{◌≡◌, ℕ, zero, suc, ◌-◌, ◌/◌, ◌%◌, ◌^◌, ◌==◌, List, [], ◌∷◌, ◌++◌, map, slice_set, if◌then◌else◌}
use Rattle.std.specs.Int.{bit_at}
use Rattle.operations.specs.Bits.{word_of_bits}
use Rattle.operations.specs.Bytes.{overwritten}
use Rattle.x86.specs.declared.instruction.ConditionCode.{ConditionCode}
use Rattle.x86.specs.declared.instruction.Instr.{Instr}
use Rattle.x86.specs.declared.instruction.Instr.TheVariants as instr
use Rattle.x86.specs.declared.instruction.Instr.TheVariants.{JumpIf, JumpIfShort}
use Rattle.x86.specs.declared.instruction.Alu.TheVariants as alu
use Rattle.x86.specs.declared.instruction.Shift.TheVariants as shift
use Rattle.x86.specs.declared.instruction.ConditionCode.TheVariants as condition
use Rattle.decode.specs.declared.insn.Width.TheVariants.{W32, W64}
use Rattle.decode.specs.declared.insn.Size.TheVariants as size
use Rattle.x86.specs.Encoding.{bytes_of}
use Rattle.x86.specs.Machine.{Value, Word, At, Array, Record, Flags, Unknown, State, Outcome, Goes, Stuck, and_on, asks, act, Runs}

-- so many bytes of a number, the highest first
abbrev pub octets : ℕ → ℕ → List ℕ
octets zero n = []
octets (suc k) n = n / 256 ^ k % 256 ∷ octets k n

-- a change of a state: a register, bytes from a position of the array or the record on, xmm0, what was pushed, the
-- flags
pub data Change : Type 0 where
  Reg : ℕ → Value → Change
  ArrayAt : ℕ → List ℕ → Change
  RecordAt : ℕ → List ℕ → Change
  Long : List ℕ → Change
  Pushed : List Value → Change
  Sets : Flags → Change

-- a state after a change
abbrev pub changed : State → Change → State
changed c (Reg r v) = record c { regs = slice_set c.regs r v }
changed c (ArrayAt o bs) = record c { array = overwritten c.array o bs }
changed c (RecordAt o bs) = record c { record_ = overwritten c.record_ o bs }
changed c (Long bs) = record c { long = bs }
changed c (Pushed vs) = record c { pushed = vs }
changed c (Sets f) = record c { flags = f }

-- a state after these changes
abbrev pub changed_by : State → List Change → State
changed_by c [] = c
changed_by c (x ∷ xs) = changed_by (changed c x) xs

-- instructions, their bytes, the changes that make the state before them, and the changes that they make
abbrev pub Row : Type 0
Row = List Instr × List ℕ × List Change × List Change

-- the bytes of these instructions
abbrev pub codes : List Instr → List ℕ
codes [] = []
codes (i ∷ is) = bytes_of i ++ codes is

-- what these instructions do, one after another
abbrev pub acts : List Instr → State → Outcome
acts [] c = Goes c
acts (i ∷ is) c = and_on (act i c) (acts is)

-- by the definitions the instructions have these bytes and do this
abbrev pub AreDone : State → List Row → Type 0
AreDone begin rows =
    map {B = List ℕ × Outcome} (λ (is, bs, before, after). (codes is, acts is (changed_by begin before))) rows
    ≡ map {B = List ℕ × Outcome} (λ (is, bs, before, after). (bs, Goes (changed_by (changed_by begin before) after))) rows

-- jumps over 7 bytes
abbrev pub long_jump : ConditionCode → Instr
long_jump x = JumpIf x 7

-- a conditional jump over 7 bytes in its short form
abbrev pub short_jump : ConditionCode → Instr
short_jump x = JumpIfShort x 7

-- a condition, the bytes of its jump over 7 bytes, and its answers: bit k is the answer if carry, zero, sign and
-- overflow are bits 0 to 3 of k
abbrev pub Asked : Type 0
Asked = ConditionCode × List ℕ × ℕ

-- which flags meet the condition, as a number of sixteen bits
abbrev pub answers : ConditionCode → ℕ
answers x = word_of_bits (λ k. if asks x (bit_at k 0 == 1) (bit_at k 1 == 1) (bit_at k 2 == 1) (bit_at k 3 == 1) then 1 else 0) 16

-- the answers of a conditional jump, long or short, for all flags
abbrev pub AreAsked : (ConditionCode → Instr) → List Asked → Type 0
AreAsked jump rows =
    map {B = List ℕ × ℕ} (λ (x, bs, n). (bytes_of (jump x), answers x)) rows ≡ map {B = List ℕ × ℕ} (λ (x, bs, n). (bs, n)) rows

-- the code returns after four steps, with this rax
abbrev pub IsRun : State → List ℕ → ℕ → Type 0
IsRun begin code answer = Runs code 4 0 begin (changed begin (Reg 0 (Word answer)))

-- of these nothing is said: the processor faults, or the definition leaves them open
abbrev pub unsaid : List (Instr × List Change)
unsaid =
    -- a division by 0, and a quotient that doesn't fit
    (instr.Div W64 1, Reg 1 (Word 0) ∷ Reg 2 (Word 0) ∷ []) ∷
    (instr.Div W32 1, Reg 1 (Word (2 ^ 32)) ∷ Reg 2 (Word 0) ∷ []) ∷
    (instr.Div W64 1, Reg 2 (Word 1) ∷ []) ∷
    (instr.SignedDiv W64 1, Reg 0 (Word 5) ∷ Reg 1 (Word 0) ∷ Reg 2 (Word 0) ∷ []) ∷
    (instr.SignedDiv W64 1, Reg 0 (Word 5) ∷ Reg 2 (Word (2 ^ 64 - 1)) ∷ []) ∷
    (instr.SignedDiv W64 1, Reg 0 (Word (2 ^ 63)) ∷ Reg 1 (Word (2 ^ 64 - 1)) ∷ Reg 2 (Word (2 ^ 64 - 1)) ∷ []) ∷
    (instr.SignedDiv W32 1, Reg 0 (Word (2 ^ 31)) ∷ Reg 1 (Word (2 ^ 32 - 1)) ∷ Reg 2 (Word (2 ^ 32 - 1)) ∷ []) ∷
    -- flags after arithmetic
    (JumpIf condition.Equal 7, Sets Unknown ∷ []) ∷
    (JumpIfShort condition.Equal 7, Sets Unknown ∷ []) ∷
    -- a shift of 32 bits by 0
    (instr.Shift shift.Left W32 10 0, []) ∷
    (instr.ShiftBy shift.Right W32 10, Reg 1 (Word 32) ∷ []) ∷
    -- memory at a number, and past the end of its block
    (instr.Load size.Byte 0 5 0, []) ∷
    (instr.Load size.Byte 0 5 0, Reg 5 (At Array 48) ∷ []) ∷
    (instr.Load size.Byte 0 5 (2 ^ 32 - 1), Reg 5 (At Array 0) ∷ []) ∷
    (instr.Load size.Double 0 5 1, Reg 5 (At Array 40) ∷ []) ∷
    (instr.Store size.Half 5 1 0, Reg 5 (At Record 46) ∷ []) ∷
    (instr.StoreImm size.Word 5 0 0, Reg 5 (At Record 45) ∷ []) ∷
    (instr.LoadLong 5 1, Reg 5 (At Array 32) ∷ []) ∷
    (instr.StoreLong 5 1, Reg 5 (At Record 32) ∷ []) ∷
    -- xmm0 has sixteen bytes
    (instr.StoreLong 5 0, Reg 5 (At Record 0) ∷ Long [] ∷ []) ∷
    -- rsp, and registers that don't exist
    (instr.Push 4, []) ∷
    (instr.Mov W64 4 0, []) ∷
    (instr.Mov W64 0 16, []) ∷
    -- addresses as numbers
    (instr.Mov W32 0 5, Reg 5 (At Array 0) ∷ []) ∷
    (instr.Alu alu.Add W64 0 5, Reg 5 (At Array 0) ∷ []) ∷
    (instr.AluImm alu.Cmp W64 5 0, Reg 5 (At Array 0) ∷ []) ∷
    (instr.Store size.Double 5 0 5, Reg 5 (At Array 0) ∷ []) ∷
    -- the stack
    (instr.Pop 0, []) ∷
    (instr.Return, Pushed (Word 0 ∷ []) ∷ []) ∷
    -- copies past the end of a block, and from the record to the array
    (instr.CopyBytes, Reg 1 (Word 9) ∷ Reg 6 (At Array 40) ∷ Reg 7 (At Record 0) ∷ []) ∷
    (instr.CopyBytes, Reg 1 (Word 9) ∷ Reg 6 (At Array 0) ∷ Reg 7 (At Record 40) ∷ []) ∷
    (instr.CopyBytes, Reg 1 (Word 9) ∷ Reg 6 (At Record 0) ∷ Reg 7 (At Array 0) ∷ []) ∷
    []

-- rows that are stuck
abbrev pub AreUnsaid : State → List (Instr × List Change) → Type 0
AreUnsaid begin rows = map (λ (i, before). act i (changed_by begin before)) rows ≡ map (λ row. Stuck) rows
