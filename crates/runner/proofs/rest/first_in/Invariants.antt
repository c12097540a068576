use Rattle.std.proofs.Common.{◌≢◌, ℕ, ◌<◌}
use Rattle.world.specs.Phases.{name_of}
use Rattle.sessions.specs.Journal.{world_at}
use Rattle.runner.proofs.rest.first_in.Given as goal

-- no process that was looked at is in the phase
abbrev pub invariant-loop-process : goal.invariant-loop-process
invariant-loop-process l = (q : ℕ) → 0 < q → q < l.process → name_of ((world_at l.session).phase q) ≢ l.phase
