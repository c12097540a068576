use Rattle.c_cluster.proofs.HostCalls.{exports-are-calls}
use Rattle.c_cluster.proofs.nodes.laws.exports_are_calls.Goals as goal

pub returns : goal.returns
returns c = exports-are-calls
