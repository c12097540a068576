use Rattle.cluster.proofs.Dropped.{told-is-dropped}
use Rattle.cluster.proofs.memory.told_is_dropped.Goals as goal

pub returns : goal.returns
returns c = told-is-dropped
