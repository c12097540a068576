use Rattle.cluster.proofs.Fresh.{told-is-new}
use Rattle.cluster.proofs.memory.told_is_new.Goals as goal

pub returns : goal.returns
returns c = told-is-new
