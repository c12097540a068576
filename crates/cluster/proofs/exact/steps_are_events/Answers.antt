use Rattle.cluster.proofs.Goes.{steps-are-events}
use Rattle.cluster.proofs.exact.steps_are_events.Goals as goal

pub returns : goal.returns
returns c = steps-are-events
