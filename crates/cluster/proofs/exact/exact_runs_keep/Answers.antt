use Rattle.cluster.proofs.Reports.{exact-runs-keep}
use Rattle.cluster.proofs.exact.exact_runs_keep.Goals as goal

pub returns : goal.returns
returns c = exact-runs-keep
