use Rattle.std.proofs.Common.{◌≡◌, ◌∙◌, ap, arith, subst, sym, true}
use Rattle.std.specs.Prelude.{Err, Ok}
use Rattle.std.proofs.lemmas.Result.{err_from_is_err_and}
use Rattle.world.specs.Useful.{may_call}
use Rattle.machine.specs.Simulation.{answering}
use Rattle.machine.specs.Dispatch.{answer_in}
use Rattle.sessions.specs.Journal.{TheSession, world_at}
use Rattle.sessions.specs.Service.{OwesAs, seat_of}
use Rattle.sessions.proofs.Together.{accepts, grew, refuses}
use Rattle.sessions.proofs.session.Session.call.Goals as goal

pub call_of-requires-clause-may : goal.call_of-requires-clause-may
call_of-requires-clause-may g c =
    let s = c.self.inside.service in
    let call = c.args.call.now in
    let may = ap (λ (v : TheSession). may_call (world_at v) c.args.by.now.worker call) c.self.view_is ∙ c.requires.may in
    subst (λ k. may_call (world_at s) k call ≡ true) (sym c.worker.ensures.value) may

pub answer-requires : goal.answer-requires
answer-requires g c =
    let s = c.self.inside.service in
    let worker = c.worker.result in
    omega (arith, c.self.invariant.1, c.call_of.ensures.bound, grew s c.call_of.new.self (seat_of worker s) (seat_of worker c.call_of.new.self) c.args.call.now c.in_ok-reply.reply.answer c.in_ok-reply.ensures.adds)

pub returns-clause-adds : goal.returns-clause-adds
returns-clause-adds g c =
    let s = c.self.inside.service in
    let new = c.call_of.new.self in
    let adds = subst (λ k. OwesAs k s new c.args.call.now (Ok c.in_ok-reply.reply.answer)) c.worker.ensures.value c.in_ok-reply.ensures.adds in
    rw (← c.self.view_is) (accepts c.self.inside.seats.items s new c.args.by.now c.answer.new.self c.args.call.now c.in_ok-reply.reply.answer adds c.answer.ensures.seat)

pub returns-clause-job : goal.returns-clause-job
returns-clause-job g c = rw (← c.self.view_is) c.in_ok-reply.ensures.job

pub returns-clause-exactly : goal.returns-clause-exactly
returns-clause-exactly g c = rw (← c.self.view_is) c.in_ok-reply.ensures.exactly

pub returns-in_err-reply-clause-adds : goal.returns-in_err-reply-clause-adds
returns-in_err-reply-clause-adds g c =
    let refusal = c.in_err-reply.field-0.0 in
    let out = err_from_is_err_and c.from_residual.result c.from_residual.ensures.1 in
    rw (← c.self.view_is, ap (answering answer_in) (out.1 ∙ ap Err out.2)) (refuses c.self.inside.seats.items c.self.inside.service c.call_of.new.self c.args.by.now c.worker.result c.args.call.now refusal c.in_err-reply.ensures.adds)
