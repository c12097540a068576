use Rattle.x86.proofs.Runs.{run_one_way}
use Rattle.x86.proofs.reading_laws.code_runs_one_way.Goals as goal

pub returns : goal.returns
returns c = run_one_way
