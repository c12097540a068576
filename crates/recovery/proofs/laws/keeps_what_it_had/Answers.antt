use Rattle.recovery.proofs.Had.{keeps-what-it-had}
use Rattle.recovery.proofs.laws.keeps_what_it_had.Goals as goal

pub returns : goal.returns
returns c = keeps-what-it-had
