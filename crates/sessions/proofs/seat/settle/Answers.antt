use Rattle.std.proofs.Common.{◌≡◌, ◌∙◌, ◌+◌, ap, arith}
use Rattle.std.proofs.lemmas.List.Sums.{sum_by-cons}
use Rattle.sessions.specs.Seats.{answered_by}
use Rattle.sessions.specs.Shares.{answers_of}
use Rattle.sessions.proofs.seat.settle.Goals as goal

pub returns-in_default-split_first_mut-clause-all : goal.returns-in_default-split_first_mut-clause-all
returns-in_default-split_first_mut-clause-all g c = λ all. absurd (omega (arith, all, c.in_default.ensures.cases, c.in_default-split_first_mut.ensures.cases))

pub returns-in-Some-clause-all : goal.returns-in-Some-clause-all
returns-in-Some-clause-all g c =
    let total : c.args.book.now.total ≡ c.in-Some.first.now.answered + answers_of c.args.shares.now + answered_by c.in-Some.rest.now = c.settle.ensures.total in
    let sum : answered_by c.args.seats.now ≡ c.in-Some.first.now.answered + answered_by c.in-Some.rest.now = ap answered_by c.in-Some.ensures.cases.0 ∙ sum_by-cons _ c.in-Some.first.now c.in-Some.rest.now in
    λ all. omega (arith, total, sum)
