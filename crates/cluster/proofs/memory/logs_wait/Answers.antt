use Rattle.cluster.proofs.MemoryLemmas.{logs-wait}
use Rattle.cluster.proofs.memory.logs_wait.Goals as goal

pub returns : goal.returns
returns c = logs-wait
