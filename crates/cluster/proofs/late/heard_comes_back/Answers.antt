use Rattle.cluster.proofs.LateRuns.{heard-comes-back}
use Rattle.cluster.proofs.late.heard_comes_back.Goals as goal

pub returns : goal.returns
returns c = heard-comes-back
