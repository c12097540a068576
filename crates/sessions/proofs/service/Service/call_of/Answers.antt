use Rattle.std.specs.Prelude.{Err, Some}
use Rattle.std.specs.Option.{option_map}
use Rattle.std.proofs.Common.{◌≡◌, ◌-◌, ◌++◌, ◌∷◌, [], ℕ, length, map, arith, ap, refl, sym, subst, ◌∙◌}
use Rattle.std.proofs.lemmas.Result.{err_from_is_err_and}
use Rattle.limits.specs.declared.TheConstants.{ENTRIES}
use Rattle.interp.specs.Image.{image_in}
use Rattle.world.specs.History.{nth}
use Rattle.world.specs.Legal.{is_single}
use Rattle.world.specs.Refusals.{cause_of, refusal_of}
use Rattle.machine.specs.Simulation.{answering}
use Rattle.machine.specs.Dispatch.{answer_in, job_of}
use Rattle.world.specs.Useful.{may_call}
use Rattle.sessions.specs.Fields.{joined, starter}
use Rattle.sessions.specs.Journal.{TheSession, entry, is_exact_of, room_at, world_at}
use Rattle.sessions.specs.Driver.{Starts}
use Rattle.sessions.specs.Service.{seat_of}
use Rattle.sessions.proofs.JobLemmas.{is-sized, starts, starts-at}
use Rattle.sessions.proofs.Rooms.{room-of}
use Rattle.sessions.proofs.Steps.{count-is, here}
use Rattle.sessions.proofs.Steps as steps
use Rattle.sessions.proofs.Own.{Grows, grows, returns, service, stays}
use Rattle.sessions.proofs.service.Service.call_of.Goals as goal
use Rattle.sessions.proofs.service.Service.call_of.Goals.{After-append, then-self, else-self}

done : (c : After-append) → Grows c.args.worker (map image_in c.self.inside.images.items) c.step.new.self c.self.inside.journal.entries c.append.new.self.entries c.args.call.now c.in_ok-reply.reply.answer
done c =
    let m = c.self.inside.machine in
    let is = map image_in c.self.inside.images.items in
    let es = c.self.inside.journal.entries in
    let call = c.args.call.now in
    let answer = c.in_ok-reply.reply.answer in
    let w = here is es in
    let room_is : c.room-room.result ≡ ENTRIES - length es = c.room-room.ensures.value in
    let step = rw room_is at c.in_ok-reply.ensures.step in
    let items : c.append.new.self.entries ≡ es ++ entry c.args.worker call answer ∷ [] = c.append.ensures ∙ (λ i. c.prepare.ensures.entries i ++ entry c.args.worker (c.in-Some.ensures.call i) answer ∷ []) in
    let taken = step w c.self.invariant.0.leads in
    let place = room-of w (ENTRIES - length es) call answer c.requires.result taken.accepted taken.answered in
    let may = ap (λ (v : TheSession). may_call (world_at v) c.args.worker call) c.self.view_is ∙ c.requires.may in
    grows c.args.worker is m c.step.new.self es c.append.new.self.entries call answer c.self.invariant.0 may taken items c.in_ok-reply.ensures.calls (omega (arith, place, c.self.invariant.0.room))

pub invariant_of-self-2 : goal.invariant_of-self-2
invariant_of-self-2 c =
    let d = done (goal.at.invariant_of-self-2 c).After-append in
    let is = map image_in c.self.inside.images.items in
    let w = here is c.self.inside.journal.entries in
    let exact = d.2 c.self.inside.exact c.self.invariant.1 in
    let single = c.keeps_single-single.ensures w c.self.invariant.0.leads in
    let last : c.if-self.self ≡ is_exact_of is c.append.new.self.entries =
    elim c.if-self.branch [
      | then-self b ↦ steps.stays c.self.inside.exact c.if-self.self c.keeps_single-single.result (is_single w c.args.call.now) _ b.if-self.true b.self-is single exact
      | else-self b ↦ steps.stops c.self.inside.exact c.if-self.self (is_single w c.args.call.now) _ b.if-self.false (b.self-is ∙ b.if-self.false) exact
    ] in
    (d.0, last)

pub returns-clause-adds : goal.returns-clause-adds
returns-clause-adds c = rw (← c.self.view_is) (done (goal.at.returns-clause-adds c).After-append).1

pub returns-clause-exactly : goal.returns-clause-exactly
returns-clause-exactly c =
    let is = map image_in c.self.inside.images.items in
    let es = c.self.inside.journal.entries in
    let d = done (goal.at.returns-clause-exactly c).After-append in
    rw (← c.self.view_is) (returns c.args.worker (service is es) (service is c.append.new.self.entries) c.args.call.now c.in_ok-reply.reply.answer d.1.1)

pub returns-in_err-reply-clause-adds : goal.returns-in_err-reply-clause-adds
returns-in_err-reply-clause-adds c =
    let is = map image_in c.self.inside.images.items in
    let es = c.self.inside.journal.entries in
    let w = here is es in
    let refusal = c.in_err-reply.field-0.0 in
    let step = rw c.room-room.ensures.value at c.in_err-reply.ensures.step in
    let out = err_from_is_err_and c.from_residual.result c.from_residual.ensures.1 in
    let told = out.1 ∙ ap Err out.2 in
    stays c.args.worker c.args.self.now is es c.prepare.new.self.entries c.args.call.now refusal (answering answer_in c.from_residual.result) c.self.view_is c.prepare.ensures.entries (step.1 w c.self.invariant.0.leads) (ap (answering answer_in) told)

-- the handler is that of the process whose job the call starts
handler-at : (c : After-append) (q : ℕ) → job_of (here (map image_in c.self.inside.images.items) c.self.inside.journal.entries) c.args.call.now c.in_ok-reply.reply.answer ≡ Some q
    → option_map image_in c.in-Ok.handler ≡ nth (map image_in c.self.inside.images.items) q
handler-at c q e =
    let is = map image_in c.self.inside.images.items in
    let w = here is c.self.inside.journal.entries in
    let found : option_map image_in c.in-Ok.handler ≡ nth is (starter w c.args.call.now) =
    subst (λ (s : TheSession). option_map image_in c.in-Ok.handler ≡ nth s.images (starter (world_at s) c.args.call.now)) (sym c.self.view_is) c.in-Ok.ensures in
    found ∙ ap (nth is) (starts-at w c.args.call.now c.in_ok-reply.reply.answer q e)

pub joined-requires : goal.joined-requires
joined-requires c =
    let at = (goal.at.joined-requires c).After-append in
    let is = map image_in c.self.inside.images.items in
    let w = here is c.self.inside.journal.entries in
    let opened = c.in_ok-reply.ensures.job w c.self.invariant.0.leads in
    let same = (c.in_ok-reply.ensures.step w c.self.invariant.0.leads).lengths in
    is-sized is c.self.inside.machine c.step.new.self (job_of w c.args.call.now c.in_ok-reply.reply.answer) c.in_ok-reply.reply.job (option_map image_in c.in-Ok.handler) opened same c.self.invariant.0.lengths (handler-at at)

pub returns-clause-job : goal.returns-clause-job
returns-clause-job c =
    let at = (goal.at.returns-clause-job c).After-append in
    let is = map image_in c.self.inside.images.items in
    let es = c.self.inside.journal.entries in
    let w = here is es in
    let entries = c.append.new.self.entries in
    let reply = c.in_ok-reply.reply in
    let handler = option_map image_in c.in-Ok.handler in
    let p = job_of w c.args.call.now reply.answer in
    let opened = c.in_ok-reply.ensures.job w c.self.invariant.0.leads in
    let begins = starts (service is entries) c.step.new.self p reply.job handler opened (done at).0.leads (count-is is entries) (handler-at at) in
    let P : TheSession → Type 0 = λ s. Starts (service is entries) (job_of (world_at s) c.args.call.now reply.answer) (joined reply.job handler) in
    rw c.joined.ensures (subst P c.self.view_is begins)

pub step-requires-clause-room : goal.step-requires-clause-room
step-requires-clause-room c = omega (arith, c.room-room.ensures.value, c.room-room.ensures.bound, c.self.invariant.0.calls)

-- what is refused before the machine takes the call
pub returns-in_default-clause-adds : goal.returns-in_default-clause-adds
returns-in_default-clause-adds c = (refl, refl, c.refusal.ensures)

pub returns-in_default-clause-bound : goal.returns-in_default-clause-bound
returns-in_default-clause-bound c = rw (← c.self.view_is) c.room-room.ensures.bound

pub invariant_of-self : goal.invariant_of-self
invariant_of-self c = rw c.prepare.ensures.entries c.self.invariant

pub returns-in_default-prepare-clause-adds : goal.returns-in_default-prepare-clause-adds
returns-in_default-prepare-clause-adds c =
    let back : service (map image_in c.self.inside.images.items) c.prepare.new.self.entries ≡ c.args.self.now = ap (service (map image_in c.self.inside.images.items)) c.prepare.ensures.entries ∙ c.self.view_is in
    let P : TheSession → Type 0 = λ s. refusal_of (world_at s) (room_at s) c.args.call.now ≡ cause_of c.refusal-in_default-prepare.result in
    (back, ap (seat_of c.args.worker) back, subst P back c.refusal-in_default-prepare.ensures)

pub returns-in_default-prepare-clause-bound : goal.returns-in_default-prepare-clause-bound
returns-in_default-prepare-clause-bound c = rw c.prepare.ensures.entries c.room-room.ensures.bound

pub invariant_of-self-in_err-reply : goal.invariant_of-self-in_err-reply
invariant_of-self-in_err-reply c = rw (c.in_err-reply.ensures.step.0, c.prepare.ensures.entries) c.self.invariant

pub returns-in_err-reply-clause-bound : goal.returns-in_err-reply-clause-bound
returns-in_err-reply-clause-bound c = rw c.prepare.ensures.entries c.room-room.ensures.bound

pub returns-clause-bound : goal.returns-clause-bound
returns-clause-bound c = omega (arith, (done (goal.at.returns-clause-bound c).After-append).0.room)
