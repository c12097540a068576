use Rattle.cluster.proofs.DurablePromised.{all-durable-keep}
use Rattle.cluster.proofs.durable_promises.all_durable_keep.Goals as goal

pub returns : goal.returns
returns c = all-durable-keep
