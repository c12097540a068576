use Rattle.node_laws.proofs.Promised.{hosted-back-alone}
use Rattle.node_laws.proofs.host_laws.hosted_back_alone.Goals as goal

pub returns : goal.returns
returns c = hosted-back-alone
