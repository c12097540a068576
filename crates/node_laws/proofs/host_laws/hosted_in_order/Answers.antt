use Rattle.node_laws.proofs.Outputs.{hosted-in-order}
use Rattle.node_laws.proofs.host_laws.hosted_in_order.Goals as goal

pub returns : goal.returns
returns c = hosted-in-order
