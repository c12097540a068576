use Rattle.cluster.proofs.DeathRuns.{dies-while-collecting}
use Rattle.cluster.proofs.deaths.dies_while_collecting.Goals as goal

pub returns : goal.returns
returns c = dies-while-collecting
