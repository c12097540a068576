use Rattle.std.proofs.Common.{rules}
use Rattle.gateway.proofs.gateway.Gateway.receive_delivery.Goals as goal

pub returns-then-output-next-2-clause-ok : goal.returns-then-output-next-2-clause-ok
returns-then-output-next-2-clause-ok c = search rules

pub returns-clause-ok : goal.returns-clause-ok
returns-clause-ok c = search rules
