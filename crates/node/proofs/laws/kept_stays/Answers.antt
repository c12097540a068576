use Rattle.node.proofs.Preservation.{kept-stays}
use Rattle.node.proofs.laws.kept_stays.Goals as goal

pub returns : goal.returns
returns c = kept-stays
