use Rattle.spans.proofs.Order.{is-least-join}
use Rattle.spans.proofs.laws.joins_are_least.Goals as goal

pub returns : goal.returns
returns c = is-least-join
