use Rattle.node_laws.proofs.HostEvents.{hosted-events}
use Rattle.node_laws.proofs.host_laws.hosted_events.Goals as goal

pub returns : goal.returns
returns c = hosted-events
