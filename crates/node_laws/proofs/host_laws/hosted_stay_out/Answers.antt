use Rattle.node_laws.proofs.Outputs.{hosted-stay-out}
use Rattle.node_laws.proofs.host_laws.hosted_stay_out.Goals as goal

pub returns : goal.returns
returns c = hosted-stay-out
