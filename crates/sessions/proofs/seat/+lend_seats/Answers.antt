use Rattle.std.proofs.Common.{◌≡◌, ◌∙◌, ◌+◌, ap, arith}
use Rattle.std.proofs.lemmas.List.Sums.{sum_by-cons}
use Rattle.sessions.specs.Seats.{TheSeat, answered_by}
use Rattle.sessions.proofs.seat.+lend_seats.Goals as goal

pub returns-clause-total : goal.returns-clause-total
returns-clause-total g l c =
    let sum : answered_by c.args.seats.now ≡ c.in-Some.first.now.answered + answered_by c.in-Some.rest.now = ap answered_by c.in-Some.ensures.cases.0 ∙ sum_by-cons _ c.in-Some.first.now c.in-Some.rest.now in
    let own : c.first.inside.answered ≡ c.in-Some.first.now.answered = ap (λ (s : TheSeat). s.answered) c.first.view_is in
    omega (arith, c.lend_seats.ensures.total, c.give.ensures.amount_given, sum, own)

pub give-requires-2-clause-left_backed : goal.give-requires-2-clause-left_backed
give-requires-2-clause-left_backed g l c = λ last. absurd (omega (arith, last, c.lend_seats.ensures.all.0, c.give.ensures.parts_given, c.requires.1))

pub invariant_of-first : goal.invariant_of-first
invariant_of-first g l c = (
  c.first.invariant.0,
  omega (arith, c.give-2.ensures.parts_given, c.give.ensures.parts_left, c.first.invariant.1),
  omega (arith, c.give-2.ensures.amount_given, c.give.ensures.amount_left, c.first.invariant.2),
)
