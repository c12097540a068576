use Rattle.verifier.proofs.Spans.Exact.{exact}
use Rattle.verifier.proofs.span.exactness.rules_are_exact.Goals as goal

pub returns : goal.returns
returns c = exact
