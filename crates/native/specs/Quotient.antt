-- The instructions of quotients and remainders.
use Rattle.std.specs.Prelude.{◌≡◌, ℕ, ◌+◌, ◌-◌, ◌*◌, ◌/◌, ◌%◌, ◌^◌, ◌==◌, List, [], ◌∷◌, ◌++◌, if◌then◌else◌}
use Rattle.decode.specs.declared.insn.Width.{Width}
use Rattle.decode.specs.declared.insn.Width.TheVariants.{W32, W64}
use Rattle.decode.specs.declared.insn.Operand.{Operand}
use Rattle.decode.specs.declared.insn.Operand.TheVariants as operand
use Rattle.operations.specs.Operations.{word_of}
use Rattle.x86.specs.declared.instruction.Alu.TheVariants as alu
use Rattle.x86.specs.declared.instruction.ConditionCode.TheVariants as met
use Rattle.x86.specs.declared.instruction.Instr.{Instr}
use Rattle.x86.specs.declared.instruction.Instr.TheVariants as instr
use Rattle.native.specs.Code.{gpr}

-- rcx gets the divisor
abbrev pub divisor_imm : Width → ℕ → Instr
divisor_imm W64 n = instr.MovSigned 1 n
divisor_imm W32 n = instr.MovImm 1 n

-- rcx gets the divisor, from an operand
abbrev pub divisor_code : Width → Operand → Instr
divisor_code w (operand.Imm z) = divisor_imm w (word_of z)
divisor_code w (operand.Reg s) = instr.Mov w 1 (gpr s.number)

-- if the divisor is this number, jumps by `past`
abbrev pub divisor_test : Width → ℕ → ℕ → List Instr
divisor_test w n past = instr.AluImm alu.Cmp w 1 n ∷ instr.JumpIfShort met.Equal past ∷ []

-- how many bytes a width adds to an instruction
abbrev pub width_size : Width → ℕ
width_size W32 = 0
width_size W64 = 1

-- how many bytes an instruction with one register has, or with the same register twice
abbrev pub two_size : Width → ℕ → ℕ
two_size W32 d = if d / 8 % 2 == 0 then 2 else 3
two_size W64 d = 3

-- rax is kept on the stack; the result is in rax or rdx, and is moved to a register
abbrev pub division_code : ℕ → ℕ → Instr → Instr → List Instr
division_code d from high divide =
    instr.Push 0 ∷ instr.Mov W64 0 d ∷ high ∷ divide ∷ instr.Mov W64 1 from ∷ instr.Pop 0 ∷ instr.Mov W64 d 1 ∷ []

-- after the last jump comes the code for the divisor 0, of n bytes
abbrev pub quotient_code : Instr → Width → ℕ → ℕ → Instr → ℕ → List Instr
quotient_code first w d from none n =
    first ∷ divisor_test w 0 (20 + width_size w)
    ++ (division_code d from (instr.MovImm 2 0) (instr.Div w 1) ++ (instr.JumpShort n ∷ none ∷ []))

-- before that comes the code for the divisor -1, of m bytes
abbrev pub signed_code : Instr → Width → ℕ → ℕ → Instr → ℕ → Instr → ℕ → List Instr
signed_code first w d from minus m none n =
    first ∷ divisor_test w 0 (m + 23 + 3 * width_size w) ++ (divisor_test w (2 ^ 64 - 1) (16 + 2 * width_size w)
    ++ (division_code d from (instr.Spread w) (instr.SignedDiv w 1)
    ++ (instr.JumpShort (m + 2 + n) ∷ minus ∷ instr.JumpShort n ∷ none ∷ [])))

-- the instructions of an unsigned quotient or remainder
abbrev pub IsQuotient : Width → ℕ → Operand → ℕ → Instr → ℕ → List Instr → Type 0
IsQuotient w dst o from none n is = is ≡ quotient_code (divisor_code w o) w (gpr dst) from none n

-- the instructions of a signed quotient or remainder
abbrev pub IsSigned : Width → ℕ → Operand → ℕ → Instr → ℕ → Instr → ℕ → List Instr → Type 0
IsSigned w dst o from minus m none n is = is ≡ signed_code (divisor_code w o) w (gpr dst) from minus m none n
