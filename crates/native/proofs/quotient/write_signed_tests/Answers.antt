use Rattle.std.proofs.Common.{arith}
use Rattle.std.proofs.lemmas.Grind.{common_steps}
use Rattle.native.proofs.quotient.write_signed_tests.Goals as goal

pub returns : goal.returns
returns c = grind (arith, common_steps)
