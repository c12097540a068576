use Rattle.block_order.proofs.Runs.{runs-kept}
use Rattle.block_order.proofs.laws.runs_are_kept.Goals as goal

pub returns : goal.returns
returns c = runs-kept
