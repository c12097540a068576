use Rattle.process.proofs.Lifecycles as lifecycles
use Rattle.process.proofs.laws.covered_are_dropped.Goals as goal

pub returns : goal.returns
returns c = lifecycles.covered_are_dropped
