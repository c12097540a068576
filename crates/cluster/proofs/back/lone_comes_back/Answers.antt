use Rattle.cluster.proofs.LoneBack.{lone-comes-back}
use Rattle.cluster.proofs.back.lone_comes_back.Goals as goal

pub returns : goal.returns
returns c = lone-comes-back
