use Rattle.interp.proofs.RunLemmas.{one_handled}
use Rattle.interp.proofs.laws.calls_are_one.Goals as goal

pub returns : goal.returns
returns c = one_handled
