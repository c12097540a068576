use Rattle.verifier.proofs.Spans.Forms.{are_typings}
use Rattle.verifier.proofs.span.laws.typings_are_typings.Goals as goal

pub returns : goal.returns
returns c = are_typings
