use Rattle.node.proofs.Beside.{stands-after}
use Rattle.node.proofs.laws.others_stand.Goals as goal

pub returns : goal.returns
returns c = stands-after
