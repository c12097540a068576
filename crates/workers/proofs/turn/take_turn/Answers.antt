use Rattle.std.proofs.Common.{ap, arith}
use Rattle.sessions.specs.Journal.{room_at, world_at}
use Rattle.sessions.specs.Seats.{TheSeat}
use Rattle.sessions.proofs.Driven.{may-pick}
use Rattle.workers.specs.Continues.{Continues}
use Rattle.workers.proofs.Continuation.{continues-one, continues-then}
use Rattle.workers.proofs.turn.take_turn.Goals as goal

pub returns-clause-session : goal.returns-clause-session
returns-clause-session g c =
    let fed = c.take_feed.new.session in
    let call = c.in-Some.call in
    let made = c.in_ok-started.ensures.makes in
    let may = may-pick (world_at fed) (room_at fed) 1 call c.in-Some.ensures.some in
    let one : Continues fed c.make.new.self = continues-one fed c.make.new.self c.take_feed.new.seat c.make.new.by call made.0 made.1 may in
    continues-then c.args.session.now fed c.make.new.self c.in_ok-take_feed.ensures.session one

pub returns-clause-most : goal.returns-clause-most
returns-clause-most g c = omega (arith, ap (λ (s : TheSeat). s.answered) c.in_ok-started.ensures.makes.1.2, c.in_ok-take_feed.ensures.most)
