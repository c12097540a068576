use Rattle.node_laws.proofs.Lasting.{hosted-keep}
use Rattle.node_laws.proofs.host_laws.hosted_keep.Goals as goal

pub returns : goal.returns
returns c = hosted-keep
