use Rattle.recovery.proofs.RestorationOthers.{restoring-stands}
use Rattle.recovery.proofs.restoration_laws.restoring_stands.Goals as goal

pub returns : goal.returns
returns c = restoring-stands
