use Rattle.native.proofs.One.{one_code}
use Rattle.native.proofs.rows.code_is_one.Goals as goal

pub returns : goal.returns
returns c = one_code
