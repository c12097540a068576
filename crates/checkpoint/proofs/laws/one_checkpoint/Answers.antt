use Rattle.checkpoint.proofs.FileLemmas.{one_checkpoint}
use Rattle.checkpoint.proofs.laws.one_checkpoint.Goals as goal

pub returns : goal.returns
returns c = one_checkpoint
