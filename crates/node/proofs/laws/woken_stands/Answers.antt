use Rattle.node.proofs.Suspensions.{woken-stands}
use Rattle.node.proofs.laws.woken_stands.Goals as goal

pub returns : goal.returns
returns c = woken-stands
