use Rattle.native.proofs.AnyForm.{one_span}
use Rattle.native.proofs.span_laws.span_code_is_one.Goals as goal

pub returns : goal.returns
returns c = one_span
