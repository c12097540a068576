use Rattle.block_order.proofs.MovedRuns.{moved-runs-kept}
use Rattle.block_order.proofs.laws.moved_runs_are_kept.Goals as goal

pub returns : goal.returns
returns c = moved-runs-kept
