use Rattle.cluster.proofs.AllBack.{all-come-back}
use Rattle.cluster.proofs.back.all_come_back.Goals as goal

pub returns : goal.returns
returns c = all-come-back
