use Rattle.cluster.proofs.WorkedRuns.{old-packets-are-dropped}
use Rattle.cluster.proofs.rows.old_packets_are_dropped.Goals as goal

pub returns : goal.returns
returns c = old-packets-are-dropped
