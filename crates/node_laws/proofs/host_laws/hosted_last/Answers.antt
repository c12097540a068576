use Rattle.node_laws.proofs.Lasting as promised
use Rattle.node_laws.proofs.host_laws.hosted_last.Goals as goal

pub returns : goal.returns
returns c = promised.hosted-last
