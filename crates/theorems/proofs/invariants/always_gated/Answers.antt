use Rattle.theorems.proofs.GateCalls.{always-gated}
use Rattle.theorems.proofs.invariants.always_gated.Goals as goal

pub returns : goal.returns
returns c = always-gated
