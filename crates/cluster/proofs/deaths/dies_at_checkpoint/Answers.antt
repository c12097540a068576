use Rattle.cluster.proofs.DeathRuns.{dies-at-checkpoint}
use Rattle.cluster.proofs.deaths.dies_at_checkpoint.Goals as goal

pub returns : goal.returns
returns c = dies-at-checkpoint
