use Rattle.recovery.proofs.RestorationOthers.{replayed-stands}
use Rattle.recovery.proofs.restoration_laws.replayed_stands.Goals as goal

pub returns : goal.returns
returns c = replayed-stands
