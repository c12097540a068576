use Rattle.cluster.proofs.Runs.{steps-have-journals}
use Rattle.cluster.proofs.simulation.steps_have_journals.Goals as goal

pub returns : goal.returns
returns c = steps-have-journals
