use Rattle.verifier.proofs.Spans.Forms.{one_refusal_3}
use Rattle.verifier.proofs.span.laws.span_refusals_are_one.Goals as goal

pub returns : goal.returns
returns c = one_refusal_3
