use Rattle.spans.proofs.Entry.{entered}
use Rattle.spans.proofs.laws.calls_fit.Goals as goal

pub returns : goal.returns
returns c = entered
