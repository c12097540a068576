use Rattle.std.proofs.Common.{List, Option, length, ap, sym, ◌∙◌}
use Rattle.sessions.specs.Seats.{TheSeat}
use Rattle.sessions.proofs.SeatLemmas.{new-are-seats}
use Rattle.sessions.proofs.session.seated.Goals as goal

pub invariant_of-result : goal.invariant_of-result
invariant_of-result g c = (rw (rw c.in-Ok.is at c.requires.seats) new-are-seats, c.requires.empty.1 ∙ sym (ap length c.requires.empty.0))

pub returns-in-Ok-clause-ok : goal.returns-in-Ok-clause-ok
returns-in-Ok-clause-ok g c = ap (λ (seats : List (Option TheSeat)). record c.args.service { seats = seats }) (rw c.in-Ok.is at c.requires.seats)
