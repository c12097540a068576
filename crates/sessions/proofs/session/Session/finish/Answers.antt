use Rattle.std.proofs.Common.{arith, subst}
use Rattle.std.specs.Prelude.{Ok}
use Rattle.world.specs.declared.call.Call.TheVariants.{Finish}
use Rattle.machine.specs.Arrival.{finished_of}
use Rattle.sessions.specs.Journal.{Takes}
use Rattle.sessions.specs.Service.{seat_of}
use Rattle.sessions.proofs.Together.{grew, takes}
use Rattle.sessions.proofs.session.Session.finish.Goals as goal

pub answer-requires : goal.answer-requires
answer-requires g c =
    let s = c.self.inside.service in
    let worker = c.worker.result in
    let new = c.finish_of.new.self in
    omega (arith, c.self.invariant.1, c.finish_of.ensures.bound, grew s new (seat_of worker s) (seat_of worker new) (Finish c.args.done.task.who.me) (finished_of c.in_ok-finished.finished) c.in_ok-finished.ensures.takes.1)

pub returns-clause-takes : goal.returns-clause-takes
returns-clause-takes g c =
    let s = c.self.inside.service in
    let new = c.finish_of.new.self in
    let owes = subst (λ k. Takes s new (seat_of k s) (seat_of k new) c.args.done (Ok c.in_ok-finished.finished)) c.worker.ensures.value c.in_ok-finished.ensures.takes in
    rw (← c.self.view_is) (takes c.self.inside.seats.items s new c.args.by.now c.answer.new.self c.args.done c.in_ok-finished.finished owes c.answer.ensures.seat)
