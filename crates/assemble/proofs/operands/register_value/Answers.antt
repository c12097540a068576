use Rattle.std.proofs.Common.{◌<◌, ◌^◌, ℕ}
use Rattle.decode.specs.declared.insn.Reg.{Reg}
use Rattle.assemble.specs.Number.{numeral}
use Rattle.assemble.specs.Text.{register}
use Rattle.assemble.proofs.Pairs.{no_pair, reads_pair, register_lacks}
use Rattle.assemble.proofs.operands.register_value.Goals as goal

pub returns-in_default : goal.returns-in_default
returns-in_default c = no_pair register (λ (_ : Reg). Unit {0}) numeral (λ (n : ℕ). n < 2 ^ 64) register_lacks c.args.text.now c.in_default.ensures

pub returns : goal.returns
returns c = reads_pair register (λ (_ : Reg). Unit {0}) numeral (λ (n : ℕ). n < 2 ^ 64) register_lacks c.args.text.now c.in-Some.left.now c.in-Some.right.now c.in-Some.ensures c.register_of.result c.value_of.result c.both.result c.both.ensures c.register_of.ensures c.value_of.ensures
