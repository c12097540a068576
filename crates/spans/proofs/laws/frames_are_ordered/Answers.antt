use Rattle.spans.proofs.Order.{is-order}
use Rattle.spans.proofs.laws.frames_are_ordered.Goals as goal

pub returns : goal.returns
returns c = is-order
