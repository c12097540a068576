use Rattle.verifier.proofs.Spans.Forms.{form_3}
use Rattle.verifier.proofs.span.laws.form_3_keeps_laws.Goals as goal

pub returns : goal.returns
returns c = form_3
