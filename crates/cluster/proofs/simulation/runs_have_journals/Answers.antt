use Rattle.cluster.proofs.Runs.{runs-have-journals}
use Rattle.cluster.proofs.simulation.runs_have_journals.Goals as goal

pub returns : goal.returns
returns c = runs-have-journals
