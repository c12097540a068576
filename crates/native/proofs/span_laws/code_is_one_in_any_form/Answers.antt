use Rattle.native.proofs.AnyForm.{one_in}
use Rattle.native.proofs.span_laws.code_is_one_in_any_form.Goals as goal

pub returns : goal.returns
returns c = one_in
