use Rattle.checkpoint.proofs.CutLemmas.{too_short}
use Rattle.checkpoint.proofs.laws.too_short.Goals as goal

pub returns : goal.returns
returns c = too_short
