use Rattle.cluster.proofs.LateRuns.{old-ask-is-heard}
use Rattle.cluster.proofs.late.old_ask_is_heard.Goals as goal

pub returns : goal.returns
returns c = old-ask-is-heard
