use Rattle.node_laws.proofs.Losses.{loss-is-dropped}
use Rattle.node_laws.proofs.host_laws.loss_is_dropped.Goals as goal

pub returns : goal.returns
returns c = loss-is-dropped
