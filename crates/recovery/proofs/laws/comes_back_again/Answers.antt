use Rattle.recovery.proofs.Covered.{comes-again}
use Rattle.recovery.proofs.laws.comes_back_again.Goals as goal

pub returns : goal.returns
returns c = comes-again
