use Rattle.std.specs.Prelude.{Err, None, Option, Some}
use Rattle.std.specs.Option.{option_map}
use Rattle.std.proofs.Common.{◌≡◌, ◌-◌, ◌++◌, ◌∷◌, [], length, map, arith, ap, refl, sym, subst, ◌∙◌}
use Rattle.std.proofs.lemmas.Result.{err_from_is_err_and}
use Rattle.limits.specs.declared.TheConstants.{ENTRIES}
use Rattle.interp.specs.Image.{TheImage, image_in}
use Rattle.replay.specs.Task.{TheTask}
use Rattle.world.specs.declared.call.Call.TheVariants.{ReplayBegin}
use Rattle.world.specs.declared.answer.Answer.TheVariants.{Started}
use Rattle.world.specs.History.{nth}
use Rattle.world.specs.Useful.{may_call}
use Rattle.machine.specs.Simulation.{answering}
use Rattle.sessions.specs.Fields.{starter}
use Rattle.sessions.specs.Job.{TheJob}
use Rattle.sessions.specs.Journal.{TheSession, entry, world_at}
use Rattle.sessions.proofs.JobLemmas.{has-image, opens-job, sized}
use Rattle.sessions.proofs.Rooms.{room-of}
use Rattle.sessions.proofs.Steps.{carried, count-is, here}
use Rattle.sessions.proofs.Own.{Grows, grows, stays}
use Rattle.sessions.proofs.service.Service.replay_begin_of.Goals as goal
use Rattle.sessions.proofs.service.Service.replay_begin_of.Goals.{After-append}

done : (c : After-append) → Grows c.args.worker (map image_in c.self.inside.images.items) c.replay_begin.new.self c.self.inside.journal.entries c.append.new.self.entries (ReplayBegin c.args.p) (Started c.in_ok-task.task.serial)
done c =
    let m = c.self.inside.machine in
    let is = map image_in c.self.inside.images.items in
    let es = c.self.inside.journal.entries in
    let call = ReplayBegin c.args.p in
    let answer = Started c.in_ok-task.task.serial in
    let w = here is es in
    let room_is : c.room-room.result ≡ ENTRIES - length es = c.room-room.ensures.value in
    let step = rw room_is at c.in_ok-task.ensures.step in
    let serial : c.serial.result ≡ c.in_ok-task.task.serial = c.serial.ensures ∙ ap (λ (t : TheTask). t.serial) c.task.ensures in
    let items : c.append.new.self.entries ≡ es ++ entry c.args.worker call answer ∷ [] = c.append.ensures ∙ (λ i. c.reserve.ensures.entries i ++ entry c.args.worker call (Started (serial i)) ∷ []) in
    let taken = step w c.self.invariant.0.leads in
    let place = room-of w (ENTRIES - length es) call answer tt taken.accepted taken.answered in
    let may = ap (λ (v : TheSession). may_call (world_at v) c.args.worker call) c.self.view_is ∙ c.requires in
    grows c.args.worker is m c.replay_begin.new.self es c.append.new.self.entries call answer c.self.invariant.0 may taken items c.in_ok-task.ensures.calls (omega (arith, place, c.self.invariant.0.room))

-- the image of its process, which is the handler's
imaged : (c : After-append) → (image : TheImage) × (option_map image_in c.in-Ok.handler ≡ Some image) × (nth (map image_in c.self.inside.images.items) c.in_ok-task.task.who.me ≡ Some image)
imaged c =
    let is = map image_in c.self.inside.images.items in
    let entries = c.append.new.self.entries in
    let t = c.in_ok-task.task in
    let found : option_map image_in c.in-Ok.handler ≡ nth is (starter (here is c.self.inside.journal.entries) (ReplayBegin c.args.p)) =
    subst (λ (s : TheSession). option_map image_in c.in-Ok.handler ≡ nth s.images (starter (world_at s) (ReplayBegin c.args.p))) (sym c.self.view_is) c.in-Ok.ensures in
    let some = has-image is (here is entries) (count-is is entries) t (c.in_ok-task.ensures.job.1 (here is entries) (done c).0.leads) in
    (some.0, found ∙ ap (nth is) (sym c.in_ok-task.ensures.target) ∙ some.1, some.1)

pub invariant_of-self-2 : goal.invariant_of-self-2
invariant_of-self-2 c =
    let d = done (goal.at.invariant_of-self-2 c).After-append in
    (d.0, carried c.self.inside.exact _ (d.2 c.self.inside.exact c.self.invariant.1))

pub unreachable-requires : goal.unreachable-requires
unreachable-requires c =
    let found = imaged (goal.at.unreachable-requires c).After-append in
    let none : None ≡ Some found.0 = ap (option_map image_in) (sym c.in_default-handler.is) ∙ found.1 in
    absurd (cc)

-- its image
same : (c : After-append) (handler : Option TheImage) (image : TheImage) → handler ≡ option_map image_in c.in-Ok.handler → handler ≡ Some image → (imaged c).0 ≡ image
same c handler image is some = let e : Some (imaged c).0 ≡ Some image = sym (imaged c).1 ∙ sym is ∙ some in cc

pub new-requires : goal.new-requires
new-requires c =
    let at = (goal.at.new-requires c).After-append in
    let is = map image_in c.self.inside.images.items in
    let w = here is c.self.inside.journal.entries in
    let found = imaged at in
    let its : found.0 ≡ image_in c.in-Some.handler = same at (option_map image_in c.in-Ok.handler) (image_in c.in-Some.handler) refl (ap (option_map image_in) c.in-Some.is) in
    let lengths = (c.in_ok-task.ensures.step w c.self.invariant.0.leads).lengths ∙ c.self.invariant.0.lengths in
    sized is c.replay_begin.new.self c.in_ok-task.task found.0 lengths c.in_ok-task.ensures.job.0 found.2 ∙ ap (λ (i : TheImage). i.len) its

pub returns-clause-adds : goal.returns-clause-adds
returns-clause-adds c = rw (c.new.ensures, ← c.self.view_is) (done (goal.at.returns-clause-adds c).After-append).1

pub returns-clause-job : goal.returns-clause-job
returns-clause-job c =
    let at = (goal.at.returns-clause-job c).After-append in
    let is = map image_in c.self.inside.images.items in
    let entries = c.append.new.self.entries in
    let w = here is entries in
    let found = imaged at in
    let its : found.0 ≡ image_in c.in-Some.handler = same at (option_map image_in c.in-Ok.handler) (image_in c.in-Some.handler) refl (ap (option_map image_in) c.in-Some.is) in
    rw c.new.ensures (opens-job is w (count-is is entries) c.in_ok-task.task (image_in c.in-Some.handler) (c.in_ok-task.ensures.job.1 w (done at).0.leads) (found.2 ∙ ap Some its))

pub returns-in_err-task-clause-adds : goal.returns-in_err-task-clause-adds
returns-in_err-task-clause-adds c =
    let is = map image_in c.self.inside.images.items in
    let es = c.self.inside.journal.entries in
    let refusal = c.in_err-task.field-0.0 in
    let step = rw c.room-room.ensures.value at c.in_err-task.ensures.step in
    let out = err_from_is_err_and c.from_residual.result c.from_residual.ensures.1 in
    let told = ap (answering (λ (job : TheJob). Started job.task.serial)) (out.1 ∙ ap Err out.2) in
    stays c.args.worker c.args.self.now is es c.reserve.new.self.entries (ReplayBegin c.args.p) refusal _ c.self.view_is c.reserve.ensures.entries (step.1 (here is es) c.self.invariant.0.leads) told

-- what is refused before the machine takes the call
pub returns-in_default-clause-adds : goal.returns-in_default-clause-adds
returns-in_default-clause-adds c = (refl, refl, c.refusal.ensures)

pub returns-in_default-clause-bound : goal.returns-in_default-clause-bound
returns-in_default-clause-bound c = rw (← c.self.view_is) c.room-room.ensures.bound

pub invariant_of-self : goal.invariant_of-self
invariant_of-self c = rw c.reserve.ensures.entries c.self.invariant

pub returns-then-not-reserve-clause-bound : goal.returns-then-not-reserve-clause-bound
returns-then-not-reserve-clause-bound c = rw c.reserve.ensures.entries c.room-room.ensures.bound

pub invariant_of-self-in_err-task : goal.invariant_of-self-in_err-task
invariant_of-self-in_err-task c = rw (c.in_err-task.ensures.step.0, c.reserve.ensures.entries) c.self.invariant

pub returns-in_err-task-clause-bound : goal.returns-in_err-task-clause-bound
returns-in_err-task-clause-bound c = rw c.reserve.ensures.entries c.room-room.ensures.bound

pub returns-clause-bound : goal.returns-clause-bound
returns-clause-bound c = omega (arith, (done (goal.at.returns-clause-bound c).After-append).0.room)
