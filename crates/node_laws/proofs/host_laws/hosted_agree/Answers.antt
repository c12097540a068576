use Rattle.node_laws.proofs.Outputs.{hosted-agree}
use Rattle.node_laws.proofs.host_laws.hosted_agree.Goals as goal

pub returns : goal.returns
returns c = hosted-agree
