use Rattle.node_laws.proofs.Promised.{hosted-back}
use Rattle.node_laws.proofs.host_laws.hosted_back.Goals as goal

pub returns : goal.returns
returns c = hosted-back
