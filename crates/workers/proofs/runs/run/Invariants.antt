use Rattle.workers.proofs.runs.run.Given as goal

abbrev pub ghosts-run_from : goal.ghosts-run_from
ghosts-run_from g a = record { session = a.session }
