use Rattle.cluster.proofs.LateRuns.{late-number-is-dropped}
use Rattle.cluster.proofs.late.late_number_is_dropped.Goals as goal

pub returns : goal.returns
returns c = late-number-is-dropped
