use Rattle.std.proofs.Common.{◌≡◌, ◌∙◌, ℕ, ap, sym, subst}
use Rattle.std.specs.Prelude.{Err, IfErr, None, Option, Result, Some}
use Rattle.std.proofs.lemmas.Result.{err_from_is_err_and}
use Rattle.world.specs.declared.refusal.Refusal.{Refusal}
use Rattle.world.specs.declared.refusal.Refusal.TheVariants.{Memory}
use Rattle.machine.specs.Arrival.{finished_of}
use Rattle.machine.specs.Dispatch.{job_of}
use Rattle.sessions.specs.Journal.{IsOpenAt, room_at, world_at}
use Rattle.sessions.specs.Driver.{Advances, Starts}
use Rattle.sessions.specs.Job.{TheJob}
use Rattle.sessions.specs.Service.{seat_of}
use Rattle.sessions.proofs.Driven.{cause-memory, told-memory, advance-none, advance-one, advance-two, may-pick}
use Rattle.sessions.proofs.service.Service.advance.Goals as goal

pub returns-clause-err : goal.returns-clause-err
returns-clause-err c =
    let old = c.args.self.now in
    let mid = c.call_of.new.self in
    let new = c.finish_of.new.self in
    let by = seat_of c.args.worker old in
    let call = c.args.call.now in
    let reply = c.in_ok-reply.reply in
    let left : Option ℕ = job_of (world_at old) call reply.answer in
    let one = advance-one old mid by (seat_of c.args.worker mid) call reply.answer c.requires.pick c.in_ok-reply.ensures.adds in
    let started = subst (Starts mid left) c.in-Some.is c.in_ok-reply.ensures.job in
    let given : IsOpenAt mid c.run.result = subst (λ (j : TheJob). IsOpenAt mid j) (sym c.run.ensures) (rw c.in-Some.is started.1) in
    let takes = c.in-Err.ensures.takes in (
      told-memory c.in-Err.refusal (IsOpenAt mid c.run.result) takes.3 given,
      (1, left, subst (λ s. Advances 1 old s by (seat_of c.args.worker new) 1 left) (sym takes.1) (subst (λ s. Advances 1 old mid by s 1 left) (sym takes.2) one)),
    )

pub call_of-requires-clause-may : goal.call_of-requires-clause-may
call_of-requires-clause-may c = may-pick (world_at c.args.self.now) (room_at c.args.self.now) c.args.worker c.args.call.now c.requires.pick

pub returns-in_err-reply-clause-err : goal.returns-in_err-reply-clause-err
returns-in_err-reply-clause-err c =
    let old = c.args.self.now in
    let new = c.call_of.new.self in
    let by = seat_of c.args.worker old in
    let by' = seat_of c.args.worker new in
    let adds = c.in_err-reply.ensures.adds in
    let memory = cause-memory c.in_err-reply.field-0.0 (sym adds.2 ∙ c.requires.pick.accepted) in
    let out = err_from_is_err_and c.from_residual.result c.from_residual.ensures.1 in
    let P : Result ℕ Refusal → Type 0 = λ r. IfErr r (λ e. (e ≡ Memory) × ((n : ℕ) × (left : Option ℕ) × Advances 1 old new by by' n left)) in
    subst P (sym (out.1 ∙ ap Err out.2)) (memory, (0, None, advance-none 1 old new by by' adds.0 adds.1))

pub returns-in_default-clause-ok : goal.returns-in_default-clause-ok
returns-in_default-clause-ok c =
    let old = c.args.self.now in
    let mid = c.call_of.new.self in
    let by = seat_of c.args.worker old in
    let mine = seat_of c.args.worker mid in
    let call = c.args.call.now in
    let answer = c.in_ok-reply.reply.answer in
    let none = subst (Starts mid (job_of (world_at old) call answer)) c.in_default.is c.in_ok-reply.ensures.job in
    subst (Advances 1 old mid by mine 1) none (advance-one old mid by mine call answer c.requires.pick c.in_ok-reply.ensures.adds)

pub returns-in_default-finish_of-clause-ok : goal.returns-in_default-finish_of-clause-ok
returns-in_default-finish_of-clause-ok c =
    let old = c.args.self.now in
    let mid = c.call_of.new.self in
    let new = c.finish_of.new.self in
    let call = c.args.call.now in
    let answer = c.in_ok-reply.reply.answer in
    let left : Option ℕ = job_of (world_at old) call answer in
    let started = subst (Starts mid left) c.in-Some.is c.in_ok-reply.ensures.job in
    let job : left ≡ Some c.run.result.task.who.me = subst (λ (j : TheJob). left ≡ Some j.task.who.me) (sym c.run.ensures) (rw c.in-Some.is started.0) in
    advance-two old mid new (seat_of c.args.worker old) (seat_of c.args.worker mid) (seat_of c.args.worker new) call answer (finished_of c.in_default-finish_of.field-0) c.run.result.task.who.me c.requires.pick c.in_ok-reply.ensures.adds job c.in_default-finish_of.ensures.takes.1
