use Rattle.cluster.proofs.Order.{always-in-order}
use Rattle.cluster.proofs.durable_promises.always_in_order.Goals as goal

pub returns : goal.returns
returns c = always-in-order
