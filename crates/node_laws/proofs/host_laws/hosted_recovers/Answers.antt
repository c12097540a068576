use Rattle.node_laws.proofs.HostBack as back
use Rattle.node_laws.proofs.host_laws.hosted_recovers.Goals as goal

pub returns : goal.returns
returns c = back.hosted-recovers
