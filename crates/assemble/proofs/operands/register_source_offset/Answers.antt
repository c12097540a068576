use Rattle.std.proofs.Common.{ℤ, ◌∷◌, [], FitsSigned}
use Rattle.std.specs.Int.{w16}
use Rattle.decode.specs.Encoding.{OperandFits}
use Rattle.decode.specs.declared.insn.Reg.{Reg}
use Rattle.decode.specs.declared.insn.Operand.{Operand}
use Rattle.assemble.specs.Number.{with_sign}
use Rattle.assemble.specs.Inside.Words.{commas}
use Rattle.assemble.specs.Text.{register, source}
use Rattle.assemble.proofs.Pairs.{no_pair, reads_pair, register_lacks}
use Rattle.assemble.proofs.operands.register_source_offset.Goals as goal

pub returns-in_default : goal.returns-in_default
returns-in_default c = no_pair register (λ (_ : Reg). Unit {0}) (λ (v : Operand × ℤ). commas (source v.0) (with_sign v.1 ∷ [])) (λ (v : Operand × ℤ). OperandFits v.0 × FitsSigned w16 v.1) register_lacks c.args.text.now c.in_default.ensures

pub returns : goal.returns
returns c = reads_pair register (λ (_ : Reg). Unit {0}) (λ (v : Operand × ℤ). commas (source v.0) (with_sign v.1 ∷ [])) (λ (v : Operand × ℤ). OperandFits v.0 × FitsSigned w16 v.1) register_lacks c.args.text.now c.in-Some.left.now c.in-Some.right.now c.in-Some.ensures c.register_of.result c.source_offset.result c.both.result c.both.ensures c.register_of.ensures c.source_offset.ensures
