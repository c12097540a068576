use Rattle.interp.proofs.Exits.{exited, span_exited}
use Rattle.interp.proofs.laws.calls_exit.Goals as goal

pub returns-clause-flat : goal.returns-clause-flat
returns-clause-flat c = exited

pub returns-clause-span : goal.returns-clause-span
returns-clause-span c = span_exited
