use Rattle.std.proofs.lemmas.Int.{quot-rem}
use Rattle.operations.proofs.laws.signed_division_truncates.Goals as goal

pub returns-clause-sum : goal.returns-clause-sum
returns-clause-sum c = quot-rem
