use Rattle.node_laws.proofs.Lasting.{hosted-stays}
use Rattle.node_laws.proofs.host_laws.hosted_stays.Goals as goal

pub returns : goal.returns
returns c = hosted-stays
