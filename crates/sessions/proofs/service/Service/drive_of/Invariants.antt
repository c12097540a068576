use Rattle.std.proofs.Common.{◌-◌}
use Rattle.std.specs.Prelude.{None}
use Rattle.sessions.specs.Driver.{Advances}
use Rattle.sessions.specs.Service.{seat_of}
use Rattle.sessions.proofs.service.Service.drive_of.Given as goal

abbrev pub invariant-loop-accepted : goal.invariant-loop-accepted
invariant-loop-accepted l = Advances l.budget l.fn.self l.self (seat_of l.worker l.fn.self) (seat_of l.worker l.self) l.accepted None

abbrev pub decreases-loop-accepted : goal.decreases-loop-accepted
decreases-loop-accepted l = l.budget - l.accepted
