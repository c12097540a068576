use Rattle.live.proofs.run.live.Given as goal

abbrev pub ghosts-live_in : goal.ghosts-live_in
ghosts-live_in g a = record { name = a.blank.name; parts = a.blank.parts }
