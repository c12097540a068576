use Rattle.cluster.proofs.DurablePromised.{durable-keep}
use Rattle.cluster.proofs.durable_promises.durable_keep.Goals as goal

pub returns : goal.returns
returns c = durable-keep
