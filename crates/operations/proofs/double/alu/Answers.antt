use Rattle.std.proofs.Common.{sym, ap, ◌∙◌}
use Rattle.operations.specs.Arithmetic.{computed}
use Rattle.operations.proofs.BitLemmas.{and-bit_and, or-bit_or, xor-bit_xor}
use Rattle.operations.proofs.double.alu.Goals as goal

pub returns-in-Or : goal.returns-in-Or
returns-in-Or c = or-bit_or 64 c.args.a c.args.b c.ranges.a.fits c.ranges.b.fits ∙ ap (λ op. computed op 64 c.args.a c.args.b) (sym c.in-Or.is)

pub returns-in-And : goal.returns-in-And
returns-in-And c = and-bit_and 64 c.args.a c.args.b c.ranges.a.fits ∙ ap (λ op. computed op 64 c.args.a c.args.b) (sym c.in-And.is)

pub returns-in-Xor : goal.returns-in-Xor
returns-in-Xor c = xor-bit_xor 64 c.args.a c.args.b c.ranges.a.fits c.ranges.b.fits ∙ ap (λ op. computed op 64 c.args.a c.args.b) (sym c.in-Xor.is)
