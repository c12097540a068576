use Rattle.std.specs.Prelude.{Err, Some}
use Rattle.std.specs.Option.{option_map}
use Rattle.std.proofs.Common.{◌≡◌, ◌-◌, ◌++◌, ◌∷◌, [], length, map, arith, ap, refl, sym, subst, ◌∙◌}
use Rattle.std.proofs.lemmas.Result.{err_from_is_err_and}
use Rattle.limits.specs.declared.TheConstants.{ENTRIES}
use Rattle.interp.specs.Image.{TheImage, image_in}
use Rattle.replay.specs.Task.{TheTask}
use Rattle.world.specs.declared.call.Call.TheVariants.{Arrive}
use Rattle.world.specs.History.{nth}
use Rattle.world.specs.Useful.{may_call}
use Rattle.machine.specs.Arrival.{IsFor, IsHandedOut, IsJobFor, OfJob, answer_of}
use Rattle.machine.specs.Simulation.{answering}
use Rattle.machine.specs.declared.arrival.Arrival.TheVariants.{Started}
use Rattle.sessions.specs.Fields.{starter}
use Rattle.sessions.specs.Job.{TheJob, arrival_of}
use Rattle.sessions.specs.Journal.{TheSession, IsOpenAt, entry, world_at}
use Rattle.sessions.proofs.JobLemmas.{arrives-at, has-image, of-job, opens-job, sized}
use Rattle.sessions.proofs.Rooms.{room-of}
use Rattle.sessions.proofs.Steps.{carried, count-is, here}
use Rattle.sessions.proofs.Own.{Grows, grows, service, stays}
use Rattle.sessions.proofs.service.Service.arrive_of.Goals as goal
use Rattle.sessions.proofs.service.Service.arrive_of.Goals.{After-append}

done : (c : After-append) → Grows c.args.worker (map image_in c.self.inside.images.items) c.arrive.new.self c.self.inside.journal.entries c.append.new.self.entries (Arrive c.args.key) (answer_of c.in_ok-arrival.arrival)
done c =
    let m = c.self.inside.machine in
    let is = map image_in c.self.inside.images.items in
    let es = c.self.inside.journal.entries in
    let call = Arrive c.args.key in
    let answer = answer_of c.in_ok-arrival.arrival in
    let w = here is es in
    let room_is : c.room-room.result ≡ ENTRIES - length es = c.room-room.ensures.value in
    let step = rw room_is at c.in_ok-arrival.ensures.step in
    let items : c.append.new.self.entries ≡ es ++ entry c.args.worker call answer ∷ [] = c.append.ensures ∙ (λ i. c.reserve.ensures.entries i ++ entry c.args.worker call (c.answer.ensures i) ∷ []) in
    let taken = step w c.self.invariant.0.leads in
    let place = room-of w (ENTRIES - length es) call answer tt taken.accepted taken.answered in
    let may = ap (λ (v : TheSession). may_call (world_at v) c.args.worker call) c.self.view_is ∙ c.requires in
    grows c.args.worker is m c.arrive.new.self es c.append.new.self.entries call answer c.self.invariant.0 may taken items c.in_ok-arrival.ensures.calls (omega (arith, place, c.self.invariant.0.room))

pub invariant_of-self-2 : goal.invariant_of-self-2
invariant_of-self-2 c =
    let d = done (goal.at.invariant_of-self-2 c).After-append in
    (d.0, carried c.self.inside.exact _ (d.2 c.self.inside.exact c.self.invariant.1))

-- its task is of a process with the handler at hand
placed : (c : After-append) → OfJob (λ (t : TheTask). option_map image_in c.in-Ok.handler ≡ nth (map image_in c.self.inside.images.items) t.who.me) c.in_ok-arrival.arrival
placed c =
    let is = map image_in c.self.inside.images.items in
    let w = here is c.self.inside.journal.entries in
    let a = c.in_ok-arrival.arrival in
    let found : option_map image_in c.in-Ok.handler ≡ nth is (starter (here is c.self.inside.journal.entries) (Arrive c.args.key)) =
    subst (λ (s : TheSession). option_map image_in c.in-Ok.handler ≡ nth s.images (starter (world_at s) (Arrive c.args.key))) (sym c.self.view_is) c.in-Ok.ensures in
    of-job (λ (t : TheTask). starter w (Arrive c.args.key) ≡ t.who.me) (λ (t : TheTask). option_map image_in c.in-Ok.handler ≡ nth is t.who.me) a (λ t e h. found ∙ ap (nth is) h)
    (arrives-at c.self.inside.machine c.arrive.new.self c.room-room.result c.args.key a c.in_ok-arrival.ensures.step c.in_ok-arrival.ensures.job c.in_ok-arrival.ensures.target w c.self.invariant.0.leads)

pub handed-requires : goal.handed-requires
handed-requires c =
    let at = (goal.at.handed-requires c).After-append in
    let is = map image_in c.self.inside.images.items in
    let w = here is c.self.inside.journal.entries in
    let entries = c.append.new.self.entries in
    let m' = c.arrive.new.self in
    let a = c.in_ok-arrival.arrival in
    let handler = option_map image_in c.in-Ok.handler in
    let same = (c.in_ok-arrival.ensures.step w c.self.invariant.0.leads).lengths in
    let leads = (done at).0.leads in
    let Q : TheTask → Type 0 = λ task. (image : TheImage) × (handler ≡ Some image) × (length task.state ≡ image.len) in
    let one : OfJob (λ (t : TheTask). IsHandedOut m' t → Q t) a =
    of-job (λ (t : TheTask). handler ≡ nth is t.who.me) (λ (t : TheTask). IsHandedOut m' t → Q t) a
    (λ t e found out.
    let some = has-image is (here is entries) (count-is is entries) t (out.1 (here is entries) leads) in
    (some.0, found ∙ some.1, sized is m' t some.0 (same ∙ c.self.invariant.0.lengths) out.0 some.1))
    (placed at) in
    of-job (IsHandedOut m') Q a (λ t e out. (subst (OfJob (λ (t : TheTask). IsHandedOut m' t → Q t)) e one) out) c.in_ok-arrival.ensures.job

pub returns-clause-adds : goal.returns-clause-adds
returns-clause-adds c = rw (c.handed.ensures.answer, ← c.self.view_is) (done (goal.at.returns-clause-adds c).After-append).1

pub returns-in_err-arrival-clause-adds : goal.returns-in_err-arrival-clause-adds
returns-in_err-arrival-clause-adds c =
    let is = map image_in c.self.inside.images.items in
    let es = c.self.inside.journal.entries in
    let w = here is es in
    let refusal = c.in_err-arrival.field-0.0 in
    let step = rw c.room-room.ensures.value at c.in_err-arrival.ensures.step in
    let out = err_from_is_err_and c.from_residual.result c.from_residual.ensures.1 in
    let told = out.1 ∙ ap Err out.2 in
    stays c.args.worker c.args.self.now is es c.reserve.new.self.entries (Arrive c.args.key) refusal (answering arrival_of c.from_residual.result) c.self.view_is c.reserve.ensures.entries (step.1 w c.self.invariant.0.leads) (ap (answering arrival_of) told)

-- of the job that is handed out: its task is the one that the machine handed out, and its image that of its process
its-own : (c : After-append) (j : TheJob) → c.in_ok-arrival.arrival ≡ Started j.task → option_map image_in c.in-Ok.handler ≡ Some j.image
    → IsHandedOut c.arrive.new.self j.task × (nth (map image_in c.self.inside.images.items) j.task.who.me ≡ Some j.image)
its-own c j is image = (
  subst (OfJob (IsHandedOut c.arrive.new.self)) is c.in_ok-arrival.ensures.job,
  sym (subst (OfJob (λ (t : TheTask). option_map image_in c.in-Ok.handler ≡ nth (map image_in c.self.inside.images.items) t.who.me)) is (placed c)) ∙ image,
)

pub returns-clause-job : goal.returns-clause-job
returns-clause-job c =
    let at = (goal.at.returns-clause-job c).After-append in
    let is = map image_in c.self.inside.images.items in
    let entries = c.append.new.self.entries in
    let w = here is entries in
    of-job (λ (job : TheJob). (c.in_ok-arrival.arrival ≡ Started job.task) × (option_map image_in c.in-Ok.handler ≡ Some job.image)) (IsOpenAt (service is entries)) c.handed.result
    (λ j e h. let own = its-own at j h.0 h.1 in opens-job is w (count-is is entries) j.task j.image (own.0.1 w (done at).0.leads) own.1)
    c.handed.ensures.job

pub returns-clause-target : goal.returns-clause-target
returns-clause-target c =
    let found = λ (s : TheSession). (world_at s).wire c.args.key in
    let is = map image_in c.self.inside.images.items in
    let w = here is c.self.inside.journal.entries in
    let arrival = c.in_ok-arrival.arrival in
    let target : IsJobFor (w.wire c.args.key) arrival = subst (λ o. IsJobFor o arrival) (sym (c.self.invariant.0.leads.shows.wire c.args.key)) c.in_ok-arrival.ensures.target in
    let P : TheSession → Type 0 = λ s. OfJob (λ (job : TheJob). IsFor (found s) job.task.who.me) c.handed.result in
    subst P c.self.view_is
    (of-job (λ (job : TheJob). (arrival ≡ Started job.task) × (option_map image_in c.in-Ok.handler ≡ Some job.image)) (λ (job : TheJob). IsFor (w.wire c.args.key) job.task.who.me) c.handed.result
    (λ j e h. subst (IsJobFor (w.wire c.args.key)) h.0 target)
    c.handed.ensures.job)

-- what is refused before the machine takes the call
pub returns-in_default-clause-adds : goal.returns-in_default-clause-adds
returns-in_default-clause-adds c = (refl, refl, c.refusal.ensures)

pub returns-in_default-clause-bound : goal.returns-in_default-clause-bound
returns-in_default-clause-bound c = rw (← c.self.view_is) c.room-room.ensures.bound

pub invariant_of-self : goal.invariant_of-self
invariant_of-self c = rw c.reserve.ensures.entries c.self.invariant

pub returns-then-not-reserve-clause-bound : goal.returns-then-not-reserve-clause-bound
returns-then-not-reserve-clause-bound c = rw c.reserve.ensures.entries c.room-room.ensures.bound

pub invariant_of-self-in_err-arrival : goal.invariant_of-self-in_err-arrival
invariant_of-self-in_err-arrival c = rw (c.in_err-arrival.ensures.step.0, c.reserve.ensures.entries) c.self.invariant

pub returns-in_err-arrival-clause-bound : goal.returns-in_err-arrival-clause-bound
returns-in_err-arrival-clause-bound c = rw c.reserve.ensures.entries c.room-room.ensures.bound

pub returns-clause-bound : goal.returns-clause-bound
returns-clause-bound c = omega (arith, (done (goal.at.returns-clause-bound c).After-append).0.room)
