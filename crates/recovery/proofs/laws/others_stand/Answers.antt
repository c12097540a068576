use Rattle.recovery.proofs.Others.{others-stand}
use Rattle.recovery.proofs.laws.others_stand.Goals as goal

pub returns : goal.returns
returns c = others-stand
