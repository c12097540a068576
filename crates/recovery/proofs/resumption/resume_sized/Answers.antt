use Rattle.std.proofs.Common.{rules}
use Rattle.recovery.proofs.resumption.resume_sized.Goals as goal

pub returns-clause-some : goal.returns-clause-some
returns-clause-some c = search rules
