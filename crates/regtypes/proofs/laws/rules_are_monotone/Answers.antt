use Rattle.regtypes.proofs.Monotone.{monotone}
use Rattle.regtypes.proofs.laws.rules_are_monotone.Goals as goal

pub returns : goal.returns
returns c = monotone
