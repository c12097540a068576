use Rattle.c_runs.proofs.AsByFile.{done, refused}
use Rattle.c_runs.proofs.runs.runs_are_calls.Goals as goal

pub returns-clause-done : goal.returns-clause-done
returns-clause-done c = done

pub returns-clause-refused : goal.returns-clause-refused
returns-clause-refused c = refused
