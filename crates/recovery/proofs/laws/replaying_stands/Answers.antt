use Rattle.recovery.proofs.Others.{replaying-stands}
use Rattle.recovery.proofs.laws.replaying_stands.Goals as goal

pub returns : goal.returns
returns c = replaying-stands
