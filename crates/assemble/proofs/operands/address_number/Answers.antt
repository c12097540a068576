use Rattle.std.proofs.Common.{ℤ, FitsSigned}
use Rattle.std.specs.Int.{w16, w32}
use Rattle.decode.specs.declared.insn.Reg.{Reg}
use Rattle.assemble.specs.Number.{number}
use Rattle.assemble.specs.Text.{address}
use Rattle.assemble.proofs.Pairs.{address_lacks, no_pair, reads_pair}
use Rattle.assemble.proofs.operands.address_number.Goals as goal

pub returns-in_default : goal.returns-in_default
returns-in_default c = no_pair (λ (v : Reg × ℤ). address v.0 v.1) (λ (v : Reg × ℤ). Unit {0} × FitsSigned w16 v.1) number (λ (z : ℤ). FitsSigned w32 z) (λ (v : Reg × ℤ). address_lacks v.0 v.1) c.args.text.now c.in_default.ensures

pub returns : goal.returns
returns c = reads_pair (λ (v : Reg × ℤ). address v.0 v.1) (λ (v : Reg × ℤ). Unit {0} × FitsSigned w16 v.1) number (λ (z : ℤ). FitsSigned w32 z) (λ (v : Reg × ℤ). address_lacks v.0 v.1) c.args.text.now c.in-Some.left.now c.in-Some.right.now c.in-Some.ensures c.address_of.result c.number_of.result c.both.result c.both.ensures c.address_of.ensures c.number_of.ensures
