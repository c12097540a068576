use Rattle.node_laws.proofs.Promised.{hosted-run-alone}
use Rattle.node_laws.proofs.host_laws.hosted_run_alone.Goals as goal

pub returns : goal.returns
returns c = hosted-run-alone
