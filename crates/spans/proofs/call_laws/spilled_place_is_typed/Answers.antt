use Rattle.spans.proofs.Worked.{spilling-typed}
use Rattle.spans.proofs.call_laws.spilled_place_is_typed.Goals as goal

pub returns : goal.returns
returns c = spilling-typed
