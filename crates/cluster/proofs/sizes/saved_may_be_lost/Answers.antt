use Rattle.cluster.proofs.SizeRuns.{saved-may-be-lost}
use Rattle.cluster.proofs.sizes.saved_may_be_lost.Goals as goal

pub returns : goal.returns
returns c = saved-may-be-lost
