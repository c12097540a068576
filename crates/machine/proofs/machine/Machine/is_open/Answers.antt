use Rattle.std.proofs.Common.{rules}
use Rattle.machine.proofs.machine.Machine.is_open.Goals as goal

pub returns-then-eq : goal.returns-then-eq
returns-then-eq c = search rules
