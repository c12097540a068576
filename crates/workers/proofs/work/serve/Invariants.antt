use Rattle.std.proofs.Common.{◌≡◌, ◌+◌, ◌*◌, ◌<◌, ◌≤◌}
use Rattle.workers.specs.Shares.{GoesOn}
use Rattle.workers.proofs.work.serve.Given as goal

abbrev pub invariant-loop : goal.invariant-loop
invariant-loop g l = (l.start ≡ l.fn.seat.answered) × GoesOn l.fn.seat l.seat × (l.idle < 1000000)
    × (l.seat.answered ≤ l.fn.seat.answered + l.budget + 2) × (l.seat.answered ≤ l.fn.seat.answered + 3 * l.budget)
