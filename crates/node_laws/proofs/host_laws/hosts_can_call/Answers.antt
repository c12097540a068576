use Rattle.node_laws.proofs.Worked.{hosts-can-call}
use Rattle.node_laws.proofs.host_laws.hosts_can_call.Goals as goal

pub returns : goal.returns
returns c = hosts-can-call
