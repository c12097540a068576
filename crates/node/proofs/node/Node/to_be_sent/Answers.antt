use Rattle.std.proofs.Common.{arith}
use Rattle.std.proofs.lemmas.Grind.{common_steps}
use Rattle.node.proofs.node.Node.to_be_sent.Goals as goal

pub returns-clause-many : goal.returns-clause-many
returns-clause-many c = grind (arith, common_steps)
