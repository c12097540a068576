use Rattle.node_laws.proofs.Promised.{hosted-run}
use Rattle.node_laws.proofs.host_laws.hosted_run.Goals as goal

pub returns : goal.returns
returns c = hosted-run
