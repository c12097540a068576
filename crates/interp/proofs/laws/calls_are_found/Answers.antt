use Rattle.interp.proofs.RunLemmas.{is_found}
use Rattle.interp.proofs.laws.calls_are_found.Goals as goal

pub returns : goal.returns
returns c = is_found
