-- How arithmetic changes what is known of its destination.
use Rattle.std.specs.Prelude.{neg_ℤ}
use Rattle.decode.specs.declared.insn.AluOp.{AluOp}
use Rattle.decode.specs.declared.insn.AluOp.TheVariants as alu
use Rattle.decode.specs.declared.insn.Width.{Width}
use Rattle.decode.specs.declared.insn.Width.TheVariants.{W64}
use Rattle.decode.specs.declared.insn.Operand.{Operand}
use Rattle.decode.specs.declared.insn.Operand.TheVariants as operand
use Rattle.decode.specs.declared.alu_form.Form.{Form}
use Rattle.decode.specs.declared.alu_form.Form.TheVariants.{Copies, Moves, Sets, Computes}

-- a 64-bit move copies a register, also a place; a 64-bit sum or difference with an immediate may move a place
abbrev pub form_of : AluOp → Width → Operand → Form
form_of alu.Mov W64 (operand.Reg src) = Copies src
form_of alu.Mov width o = Sets
form_of alu.Add W64 (operand.Imm n) = Moves n
form_of alu.Sub W64 (operand.Imm n) = Moves (neg_ℤ n)
form_of op width o = Computes
