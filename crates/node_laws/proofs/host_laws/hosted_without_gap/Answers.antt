use Rattle.node_laws.proofs.Outputs.{hosted-without-gap}
use Rattle.node_laws.proofs.host_laws.hosted_without_gap.Goals as goal

pub returns : goal.returns
returns c = hosted-without-gap
