use Rattle.std.proofs.Common.{◌≡◌, ◌∙◌, ◌+◌, ap, arith}
use Rattle.std.proofs.lemmas.List.Sums.{sum_by-cons}
use Rattle.sessions.specs.Seats.{TheSeat}
use Rattle.sessions.specs.Shares.{answers_of}
use Rattle.sessions.proofs.seat.+lend_shares.Goals as goal

pub returns-clause-total : goal.returns-clause-total
returns-clause-total g l c =
    let sum : answers_of c.args.shares.now ≡ c.in-Some.first.now.seat.answered + answers_of c.in-Some.rest.now = ap answers_of c.in-Some.ensures.cases.0 ∙ sum_by-cons _ c.in-Some.first.now c.in-Some.rest.now in
    let own : c.seat.inside.answered ≡ c.in-Some.first.now.seat.answered = ap (λ (s : TheSeat). s.answered) c.seat.view_is in
    omega (arith, c.lend_shares.ensures.total, c.give.ensures.amount_given, sum, own)

pub give-requires-2-clause-left_backed : goal.give-requires-2-clause-left_backed
give-requires-2-clause-left_backed g l c = λ last. absurd (omega (arith, last, c.lend_shares.ensures.all.0, c.give.ensures.parts_given, c.requires.1))

pub invariant_of-seat : goal.invariant_of-seat
invariant_of-seat g l c = (
  c.seat.invariant.0,
  omega (arith, c.give-2.ensures.parts_given, c.give.ensures.parts_left, c.seat.invariant.1),
  omega (arith, c.give-2.ensures.amount_given, c.give.ensures.amount_left, c.seat.invariant.2),
)
