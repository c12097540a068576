use Rattle.spans.proofs.Within.{accesses-within}
use Rattle.spans.proofs.call_laws.accesses_stay_within.Goals as goal

pub returns : goal.returns
returns c = accesses-within
