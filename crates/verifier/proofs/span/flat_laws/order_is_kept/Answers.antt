use Rattle.verifier.proofs.Spans.FlatFrames.{order_kept}
use Rattle.verifier.proofs.span.flat_laws.order_is_kept.Goals as goal

pub returns : goal.returns
returns c = order_kept
