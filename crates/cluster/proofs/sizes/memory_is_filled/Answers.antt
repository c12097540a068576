use Rattle.cluster.proofs.SizeRuns.{memory-is-filled}
use Rattle.cluster.proofs.sizes.memory_is_filled.Goals as goal

pub returns : goal.returns
returns c = memory-is-filled
