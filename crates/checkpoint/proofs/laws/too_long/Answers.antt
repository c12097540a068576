use Rattle.checkpoint.proofs.FileLemmas.{too_long}
use Rattle.checkpoint.proofs.laws.too_long.Goals as goal

pub returns : goal.returns
returns c = too_long
