use Rattle.std.proofs.Common.{rules}
use Rattle.native.proofs.computation.shift_code.Goals as goal

pub returns-in-W32-clause-value : goal.returns-in-W32-clause-value
returns-in-W32-clause-value c = search rules
