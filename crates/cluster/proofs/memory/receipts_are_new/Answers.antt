use Rattle.cluster.proofs.MemoryLemmas.{receipts-are-new}
use Rattle.cluster.proofs.memory.receipts_are_new.Goals as goal

pub returns : goal.returns
returns c = receipts-are-new
