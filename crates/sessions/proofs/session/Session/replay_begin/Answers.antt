use Rattle.std.proofs.Common.{◌≡◌, ◌∙◌, ap, arith, subst, sym, true}
use Rattle.std.specs.Prelude.{Err, Ok}
use Rattle.std.proofs.lemmas.Result.{err_from_is_err_and}
use Rattle.world.specs.declared.call.Call.TheVariants.{ReplayBegin}
use Rattle.world.specs.declared.answer.Answer.TheVariants.{Started}
use Rattle.sessions.specs.Job.{TheJob}
use Rattle.world.specs.Useful.{may_call}
use Rattle.machine.specs.Simulation.{answering}
use Rattle.sessions.specs.Journal.{TheSession, world_at}
use Rattle.sessions.specs.Service.{OwesAs, seat_of}
use Rattle.sessions.proofs.Together.{accepts, grew, refuses}
use Rattle.sessions.proofs.session.Session.replay_begin.Goals as goal

pub replay_begin_of-requires : goal.replay_begin_of-requires
replay_begin_of-requires g c =
    let s = c.self.inside.service in
    let may = ap (λ (v : TheSession). may_call (world_at v) c.args.by.now.worker (ReplayBegin c.args.p)) c.self.view_is ∙ c.requires in
    subst (λ k. may_call (world_at s) k (ReplayBegin c.args.p) ≡ true) (sym c.worker.ensures.value) may

pub answer-requires : goal.answer-requires
answer-requires g c =
    let s = c.self.inside.service in
    let worker = c.worker.result in
    omega (arith, c.self.invariant.1, c.replay_begin_of.ensures.bound, grew s c.replay_begin_of.new.self (seat_of worker s) (seat_of worker c.replay_begin_of.new.self) (ReplayBegin c.args.p) (Started c.in_ok-job.job.task.serial) c.in_ok-job.ensures.adds)

pub returns-clause-adds : goal.returns-clause-adds
returns-clause-adds g c =
    let s = c.self.inside.service in
    let new = c.replay_begin_of.new.self in
    let adds = subst (λ k. OwesAs k s new (ReplayBegin c.args.p) (Ok (Started c.in_ok-job.job.task.serial))) c.worker.ensures.value c.in_ok-job.ensures.adds in
    rw (← c.self.view_is) (accepts c.self.inside.seats.items s new c.args.by.now c.answer.new.self (ReplayBegin c.args.p) (Started c.in_ok-job.job.task.serial) adds c.answer.ensures.seat)

pub returns-clause-job : goal.returns-clause-job
returns-clause-job g c = c.in_ok-job.ensures.job

pub returns-in_err-job-clause-adds : goal.returns-in_err-job-clause-adds
returns-in_err-job-clause-adds g c =
    let refusal = c.in_err-job.field-0.0 in
    let out = err_from_is_err_and c.from_residual.result c.from_residual.ensures.1 in
    rw (← c.self.view_is, ap (answering (λ (job : TheJob). Started job.task.serial)) (out.1 ∙ ap Err out.2)) (refuses c.self.inside.seats.items c.self.inside.service c.replay_begin_of.new.self c.args.by.now c.worker.result (ReplayBegin c.args.p) refusal c.in_err-job.ensures.adds)
