use Rattle.std.proofs.Common.{arith}
use Rattle.std.proofs.lemmas.Grind.{common_steps}
use Rattle.recovery.proofs.collection.Collecting.is_answer.Goals as goal

pub returns-then-not-told : goal.returns-then-not-told
returns-then-not-told c = grind (arith, common_steps)
