-- The comparison of a conditional jump, and the flags that it tests.
use Rattle.std.specs.Prelude.{ℕ}
use Rattle.decode.specs.declared.insn.Width.{Width}
use Rattle.decode.specs.declared.insn.Condition.{Condition}
use Rattle.decode.specs.declared.insn.Condition.TheVariants as condition
use Rattle.decode.specs.declared.insn.Operand.{Operand}
use Rattle.decode.specs.declared.insn.Operand.TheVariants as operand
use Rattle.operations.specs.Operations.{word_of}
use Rattle.x86.specs.declared.instruction.Alu.TheVariants as alu
use Rattle.x86.specs.declared.instruction.ConditionCode as x86
use Rattle.x86.specs.declared.instruction.ConditionCode.TheVariants as met
use Rattle.x86.specs.declared.instruction.Instr.{Instr}
use Rattle.x86.specs.declared.instruction.Instr.TheVariants as instr
use Rattle.native.specs.Code.{gpr}

-- the processor's condition for one of an image
abbrev pub condition_of : Condition → x86.ConditionCode
condition_of condition.Equal = met.Equal
condition_of condition.NotEqual = met.NotEqual
condition_of condition.Set = met.NotEqual
condition_of condition.Greater = met.Above
condition_of condition.GreaterEqual = met.AboveEqual
condition_of condition.Less = met.Below
condition_of condition.LessEqual = met.BelowEqual
condition_of condition.SignedGreater = met.Greater
condition_of condition.SignedGreaterEqual = met.GreaterEqual
condition_of condition.SignedLess = met.Less
condition_of condition.SignedLessEqual = met.LessEqual

-- AND for the condition `Set`, a comparison for the others
abbrev pub test_code : Width → ℕ → Operand → Instr
test_code w d (operand.Imm z) = instr.TestImm w d (word_of z)
test_code w d (operand.Reg s) = instr.Test w d (gpr s.number)

-- compares a register with an operand
abbrev pub cmp_code : Width → ℕ → Operand → Instr
cmp_code w d (operand.Imm z) = instr.AluImm alu.Cmp w d (word_of z)
cmp_code w d (operand.Reg s) = instr.Alu alu.Cmp w d (gpr s.number)

-- sets the flags that the jump of this condition reads
abbrev pub compare_code : Condition → Width → ℕ → Operand → Instr
compare_code condition.Set w d o = test_code w (gpr d) o
compare_code x w d o = cmp_code w (gpr d) o
