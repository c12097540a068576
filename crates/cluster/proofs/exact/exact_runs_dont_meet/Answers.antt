use Rattle.cluster.proofs.Reports.{exact-runs-dont-meet}
use Rattle.cluster.proofs.exact.exact_runs_dont_meet.Goals as goal

pub returns : goal.returns
returns c = exact-runs-dont-meet
