use Rattle.std.proofs.Common.{rules}
use Rattle.native.proofs.comparison.cmp_code.Goals as goal

pub returns-in-Reg-clause-value : goal.returns-in-Reg-clause-value
returns-in-Reg-clause-value c = search rules
