use Rattle.std.proofs.Common.{rules}
use Rattle.machine.proofs.machine.Machine.live_jobs.Goals as goal

pub returns-clause-value : goal.returns-clause-value
returns-clause-value c = rw (← c.self.view_is) (search rules)
