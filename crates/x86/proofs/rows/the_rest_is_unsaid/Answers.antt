use Rattle.std.proofs.Common.{refl}
use Rattle.x86.proofs.rows.the_rest_is_unsaid.Goals as goal

pub returns : goal.returns
returns c = refl
