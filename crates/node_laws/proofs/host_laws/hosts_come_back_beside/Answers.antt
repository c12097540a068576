use Rattle.node_laws.proofs.WorkedBeside.{hosts-come-back-beside}
use Rattle.node_laws.proofs.host_laws.hosts_come_back_beside.Goals as goal

pub returns : goal.returns
returns c = hosts-come-back-beside
