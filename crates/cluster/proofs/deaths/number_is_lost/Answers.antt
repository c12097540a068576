use Rattle.cluster.proofs.DeathRuns.{number-is-lost}
use Rattle.cluster.proofs.deaths.number_is_lost.Goals as goal

pub returns : goal.returns
returns c = number-is-lost
