use Rattle.cluster.proofs.LateRuns.{late-resume-is-dropped}
use Rattle.cluster.proofs.late.late_resume_is_dropped.Goals as goal

pub returns : goal.returns
returns c = late-resume-is-dropped
