use Rattle.std.proofs.Common.{refl}
use Rattle.machine.proofs.machine.Machine.bring_back.Goals as goal

pub returns-clause-step : goal.returns-clause-step
returns-clause-step c = c.put_back.ensures.step

pub returns-in_default-clause-step : goal.returns-in_default-clause-step
returns-in_default-clause-step c = (refl, c.requires.accepted)
