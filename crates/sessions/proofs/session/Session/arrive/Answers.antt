use Rattle.std.proofs.Common.{◌≡◌, ◌∙◌, ap, arith, subst, sym, true}
use Rattle.std.specs.Prelude.{Err, Ok}
use Rattle.std.proofs.lemmas.Result.{err_from_is_err_and}
use Rattle.world.specs.declared.call.Call.TheVariants.{Arrive}
use Rattle.sessions.specs.Job.{arrival_of}
use Rattle.world.specs.Useful.{may_call}
use Rattle.machine.specs.Simulation.{answering}
use Rattle.sessions.specs.Journal.{TheSession, world_at}
use Rattle.sessions.specs.Service.{OwesAs, seat_of}
use Rattle.sessions.proofs.Together.{accepts, grew, hands, refuses}
use Rattle.sessions.proofs.session.Session.arrive.Goals as goal

pub arrive_of-requires : goal.arrive_of-requires
arrive_of-requires g c =
    let s = c.self.inside.service in
    let may = ap (λ (v : TheSession). may_call (world_at v) c.args.by.now.worker (Arrive c.args.key)) c.self.view_is ∙ c.requires in
    subst (λ k. may_call (world_at s) k (Arrive c.args.key) ≡ true) (sym c.worker.ensures.value) may

pub answer-requires : goal.answer-requires
answer-requires g c =
    let s = c.self.inside.service in
    let worker = c.worker.result in
    omega (arith, c.self.invariant.1, c.arrive_of.ensures.bound, grew s c.arrive_of.new.self (seat_of worker s) (seat_of worker c.arrive_of.new.self) (Arrive c.args.key) (arrival_of c.in_ok-arrival.arrival) c.in_ok-arrival.ensures.adds)

pub returns-clause-adds : goal.returns-clause-adds
returns-clause-adds g c =
    let s = c.self.inside.service in
    let new = c.arrive_of.new.self in
    let adds = subst (λ k. OwesAs k s new (Arrive c.args.key) (Ok (arrival_of c.in_ok-arrival.arrival))) c.worker.ensures.value c.in_ok-arrival.ensures.adds in
    rw (← c.self.view_is) (accepts c.self.inside.seats.items s new c.args.by.now c.answer.new.self (Arrive c.args.key) (arrival_of c.in_ok-arrival.arrival) adds c.answer.ensures.seat)

pub returns-clause-job : goal.returns-clause-job
returns-clause-job g c = hands c.self.inside.seats.items c.arrive_of.new.self c.in_ok-arrival.arrival c.in_ok-arrival.ensures.job

pub returns-in_err-arrival-clause-adds : goal.returns-in_err-arrival-clause-adds
returns-in_err-arrival-clause-adds g c =
    let refusal = c.in_err-arrival.field-0.0 in
    let out = err_from_is_err_and c.from_residual.result c.from_residual.ensures.1 in
    rw (← c.self.view_is, ap (answering arrival_of) (out.1 ∙ ap Err out.2)) (refuses c.self.inside.seats.items c.self.inside.service c.arrive_of.new.self c.args.by.now c.worker.result (Arrive c.args.key) refusal c.in_err-arrival.ensures.adds)

pub returns-clause-target : goal.returns-clause-target
returns-clause-target g c = rw (← c.self.view_is) c.in_ok-arrival.ensures.target
