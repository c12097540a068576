use Rattle.cluster.proofs.LateRuns.{old-answer-is-dropped}
use Rattle.cluster.proofs.late.old_answer_is_dropped.Goals as goal

pub returns : goal.returns
returns c = old-answer-is-dropped
