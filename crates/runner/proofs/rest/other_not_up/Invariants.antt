use Rattle.std.proofs.Common.{◌≡◌, ◌≢◌, ℕ, ◌<◌, true}
use Rattle.world.specs.Phases.{is_up}
use Rattle.sessions.specs.Journal.{world_at}
use Rattle.runner.proofs.rest.other_not_up.Given as goal

-- each process but this one that was looked at is up
abbrev pub invariant-loop-process : goal.invariant-loop-process
invariant-loop-process l = (q : ℕ) → 0 < q → q < l.process → q ≢ l.but → is_up ((world_at l.session).phase q) ≡ true
