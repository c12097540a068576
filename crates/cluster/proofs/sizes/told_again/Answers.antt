use Rattle.cluster.proofs.SizeRuns.{told-again}
use Rattle.cluster.proofs.sizes.told_again.Goals as goal

pub returns : goal.returns
returns c = told-again
