use Rattle.std.proofs.Common.{◌≡◌, ◌+◌}
use Rattle.limits.specs.declared.TheConstants.{SEATS}
use Rattle.sessions.specs.Seats.{new_seats}
use Rattle.sessions.proofs.session.seats_of.Given as goal

abbrev pub invariant-loop-worker : goal.invariant-loop-worker
invariant-loop-worker g l = (l.parts.parts + l.worker ≡ SEATS) × (l.parts.amount ≡ 0) × (l.seats.items ≡ new_seats l.worker)
