use Rattle.std.proofs.Common.{ℤ, FitsSigned}
use Rattle.std.specs.Int.{w16}
use Rattle.decode.specs.Encoding.{OperandFits}
use Rattle.assemble.specs.Number.{with_sign}
use Rattle.assemble.specs.Text.{source}
use Rattle.assemble.proofs.Pairs.{no_pair, reads_pair, source_lacks}
use Rattle.assemble.proofs.operands.source_offset.Goals as goal

pub returns-in_default : goal.returns-in_default
returns-in_default c = no_pair source OperandFits with_sign (λ (z : ℤ). FitsSigned w16 z) source_lacks c.args.text.now c.in_default.ensures

pub returns : goal.returns
returns c = reads_pair source OperandFits with_sign (λ (z : ℤ). FitsSigned w16 z) source_lacks c.args.text.now c.in-Some.left.now c.in-Some.right.now c.in-Some.ensures c.source_of.result c.offset_of.result c.both.result c.both.ensures c.source_of.ensures c.offset_of.ensures
