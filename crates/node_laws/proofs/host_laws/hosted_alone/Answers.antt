use Rattle.node_laws.proofs.Promised.{hosted-alone}
use Rattle.node_laws.proofs.host_laws.hosted_alone.Goals as goal

pub returns : goal.returns
returns c = hosted-alone
