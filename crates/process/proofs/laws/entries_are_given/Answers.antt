use Rattle.process.proofs.Lifecycles as lifecycles
use Rattle.process.proofs.laws.entries_are_given.Goals as goal

pub returns : goal.returns
returns c = lifecycles.entries_are_given
