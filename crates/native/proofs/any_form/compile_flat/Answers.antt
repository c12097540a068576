use Rattle.native.proofs.AnyForm.{code_of_flat}
use Rattle.native.proofs.any_form.compile_flat.Goals as goal

pub returns : goal.returns
returns c =
    code_of_flat c.args.image.now c.in_ok-code.code.items c.begin-begin.ensures.slots c.begin-begin.ensures.typing c.in_ok-code.ensures.native c.in_ok-code.ensures.one
