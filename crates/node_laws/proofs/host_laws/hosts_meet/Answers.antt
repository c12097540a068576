use Rattle.node_laws.proofs.WorkedOverlap.{hosts-meet}
use Rattle.node_laws.proofs.host_laws.hosts_meet.Goals as goal

pub returns : goal.returns
returns c = hosts-meet
