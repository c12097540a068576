use Rattle.cluster.proofs.MemoryLemmas.{few-numbers-wait}
use Rattle.cluster.proofs.memory.few_wait.Goals as goal

pub returns : goal.returns
returns c = few-numbers-wait
