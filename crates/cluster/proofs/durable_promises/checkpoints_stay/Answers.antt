use Rattle.cluster.proofs.DurablePromised.{checkpoints-stay}
use Rattle.cluster.proofs.durable_promises.checkpoints_stay.Goals as goal

pub returns : goal.returns
returns c = checkpoints-stay
