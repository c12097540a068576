use Rattle.cluster.proofs.LateRuns.{open-job-comes-first}
use Rattle.cluster.proofs.late.open_job_comes_first.Goals as goal

pub returns : goal.returns
returns c = open-job-comes-first
