use Rattle.recovery.proofs.Resumptions.{one-node}
use Rattle.recovery.proofs.laws.one_node.Goals as goal

pub returns : goal.returns
returns c = one-node
