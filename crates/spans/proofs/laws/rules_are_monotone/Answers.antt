use Rattle.spans.proofs.Monotone.{monotone}
use Rattle.spans.proofs.laws.rules_are_monotone.Goals as goal

pub returns : goal.returns
returns c = monotone
