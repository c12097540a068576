use Rattle.std.proofs.Common.{◌≡◌, ◌-◌, ◌++◌, ◌∷◌, [], length, map, arith, ap, refl, sym, subst, ◌∙◌, true≢false}
use Rattle.std.specs.Prelude.{Err}
use Rattle.std.proofs.lemmas.Result.{err_from_is_err_and}
use Rattle.limits.specs.declared.TheConstants.{ENTRIES}
use Rattle.interp.specs.Image.{image_in}
use Rattle.replay.specs.Task.{TheTask}
use Rattle.world.specs.History.{nth}
use Rattle.world.specs.declared.refusal.Refusal.{Refusal}
use Rattle.world.specs.declared.call.Call.TheVariants.{Finish}
use Rattle.machine.specs.Simulation.{Steps}
use Rattle.machine.specs.Jobs.{Matches}
use Rattle.machine.specs.Arrival.{IsOpen, Told, finished_of}
use Rattle.machine.proofs.JobLemmas.{opens, matches}
use Rattle.sessions.specs.Job.{TheJob, HasCode, HasForm, IsOpenJob}
use Rattle.sessions.specs.Journal.{TheSession, entry}
use Rattle.sessions.proofs.JobLemmas.{answers-so, told-job}
use Rattle.sessions.proofs.Rooms.{room-finish}
use Rattle.sessions.proofs.Steps.{carried, count-is, handlers-are, here, may-free}
use Rattle.sessions.proofs.Own.{Grows, grows, service}
use Rattle.sessions.proofs.service.Service.finish_of.Goals as goal
use Rattle.sessions.proofs.service.Service.finish_of.Goals.{After-append}

pub returns-then-not-is_of_its_handler-clause-takes : goal.returns-then-not-is_of_its_handler-clause-takes
returns-then-not-is_of_its_handler-clause-takes c =
    (refl, refl, refl, λ o. true≢false (sym (c.is_of_its_handler.ensures.1 (o.code, o.form)) ∙ c.if-not-is_of_its_handler.true))

-- the job is of the handler of its process
abbrev IsOfIts : TheSession → TheJob → Type 0
IsOfIts s j = HasCode (nth s.images j.task.who.me) j.image.code × HasForm (nth s.images j.task.who.me) j.image.form

back : (s s' : TheSession) (j : TheJob) → s ≡ s' → IsOfIts s' j → IsOfIts s j
back s s' j same = subst (λ (z : TheSession). IsOfIts z j) (sym same)

pub returns-then-is_open-clause-takes : goal.returns-then-is_open-clause-takes
returns-then-is_open-clause-takes c =
    let m = c.self.inside.machine in
    let t = c.args.done.task in
    let w = here (map image_in c.self.inside.images.items) c.self.inside.journal.entries in
    let k : Matches m t = rw c.completion.ensures.value at (c.is_open.ensures.0 c.if-is_open.true) in
    let its = back (service (map image_in c.self.inside.images.items) c.self.inside.journal.entries) c.args.self.now c.args.done c.self.view_is (c.is_of_its_handler.ensures.0 c.if-not-is_of_its_handler.false) in
    rw (← c.self.view_is, c.reserve.ensures.entries) (refl, refl, refl, record { task = opens m t w c.self.invariant.0.leads k; code = its.0; form = its.1 })

pub returns-then-not-reserve-clause-takes : goal.returns-then-not-reserve-clause-takes
returns-then-not-reserve-clause-takes c =
    let m = c.self.inside.machine in
    let t = c.args.done.task in
    let is = map image_in c.self.inside.images.items in
    let w = here is c.self.inside.journal.entries in
    let none : IsOpenJob is c.args.done w → ⊥ = λ o. true≢false (sym (c.is_open.ensures.1 (rw c.completion.ensures.value (matches m t w c.self.invariant.0.leads o.task))) ∙ c.if-is_open.false) in
    rw (← c.self.view_is, c.reserve.ensures.entries) (refl, refl, refl, none)

done : (c : After-append) → IsOpenJob (map image_in c.self.inside.images.items) c.args.done (here (map image_in c.self.inside.images.items) c.self.inside.journal.entries)
    × Grows c.args.worker (map image_in c.self.inside.images.items) c.commit.new.machine c.self.inside.journal.entries c.append.new.self.entries (Finish c.args.done.task.who.me) (finished_of c.in_ok-finished.finished)
done c =
    let m = c.self.inside.machine in
    let m' = c.commit.new.machine in
    let is = map image_in c.self.inside.images.items in
    let es = c.self.inside.journal.entries in
    let j = c.args.done in
    let call = Finish j.task.who.me in
    let answer = finished_of c.in_ok-finished.finished in
    let w = here is es in
    let its = back (service (map image_in c.self.inside.images.items) c.self.inside.journal.entries) c.args.self.now c.args.done c.self.view_is (c.is_of_its_handler.ensures.0 c.if-not-is_of_its_handler.false) in
    let finishes = c.in_ok-finished.ensures.ok w c.self.invariant.0.leads in
    let is_open : IsOpenJob is j w = record { task = finishes.0; code = its.0; form = its.1 } in
    let st = finishes.1 (answers-so is w (count-is is es) j (handlers-are is es) is_open c.effects.ensures.answer) in
    let taken : Steps m m' (ENTRIES - length es) call answer w = record { accepted = st.accepted; answered = st.answered; stands = st.stands; lengths = st.lengths } in
    let process : c.process-process.result ≡ j.task.who.me = c.process-process.ensures ∙ ap (λ (t : TheTask). t.who.me) c.task.ensures in
    let items : c.append.new.self.entries ≡ es ++ entry c.args.worker call answer ∷ [] =
    c.append.ensures ∙ (λ i. c.reserve.ensures.entries i ++ entry c.args.worker (Finish (process i)) (c.answer.ensures i) ∷ []) in
    let place = room-finish w 0 j.task.who.me answer st.accepted st.answered in
    (is_open, grows c.args.worker is m m' es c.append.new.self.entries call answer c.self.invariant.0 (may-free w c.args.worker call refl) taken items c.in_ok-finished.ensures.calls (omega (arith, place, c.self.invariant.0.room)))

pub invariant_of-self-2 : goal.invariant_of-self-2
invariant_of-self-2 c =
    let d = (done (goal.at.invariant_of-self-2 c).After-append).1 in
    (d.0, carried c.self.inside.exact _ (d.2 c.self.inside.exact c.self.invariant.1))

pub returns-clause-takes : goal.returns-clause-takes
returns-clause-takes c =
    let d = done (goal.at.returns-clause-takes c).After-append in
    rw (← c.self.view_is) (d.0, d.1.1)

pub returns-in_err-finished-clause-takes : goal.returns-in_err-finished-clause-takes
returns-in_err-finished-clause-takes c =
    let is = map image_in c.self.inside.images.items in
    let j = c.args.done in
    let w = here is c.self.inside.journal.entries in
    let its = back (service is c.self.inside.journal.entries) c.args.self.now j c.self.view_is (c.is_of_its_handler.ensures.0 c.if-not-is_of_its_handler.false) in
    let e = c.in_err-finished.ensures.err in
    let r : Refusal = c.in_err-finished.field-0.0.0 in
    let told : Told r (IsOpenJob is j w) = told-job r (IsOpen j.task w) (IsOpenJob is j w) (λ o. record { task = o; code = its.0; form = its.1 }) (λ o. o.task) (e.1.2 w c.self.invariant.0.leads) in
    let out = err_from_is_err_and c.from_residual.result c.from_residual.ensures.1 in
    rw (← c.self.view_is, out.1 ∙ ap Err out.2, c.reserve.ensures.entries) (e.0, refl, refl, told)

pub returns-then-not-is_of_its_handler-clause-bound : goal.returns-then-not-is_of_its_handler-clause-bound
returns-then-not-is_of_its_handler-clause-bound c = rw (← c.self.view_is) (omega (arith, c.self.invariant.0.room))

pub returns-then-is_open-clause-bound : goal.returns-then-is_open-clause-bound
returns-then-is_open-clause-bound c = rw c.reserve.ensures.entries (omega (arith, c.self.invariant.0.room))

pub returns-then-not-reserve-clause-bound : goal.returns-then-not-reserve-clause-bound
returns-then-not-reserve-clause-bound c = rw c.reserve.ensures.entries (omega (arith, c.self.invariant.0.room))

pub returns-in_err-finished-clause-bound : goal.returns-in_err-finished-clause-bound
returns-in_err-finished-clause-bound c = rw c.reserve.ensures.entries (omega (arith, c.self.invariant.0.room))

pub returns-clause-bound : goal.returns-clause-bound
returns-clause-bound c = omega (arith, (done (goal.at.returns-clause-bound c).After-append).1.0.room)

pub commit-requires : goal.commit-requires
commit-requires c = omega (arith, c.self.invariant.0.calls, c.self.invariant.0.room)

pub invariant_of-self : goal.invariant_of-self
invariant_of-self c = rw c.reserve.ensures.entries c.self.invariant

pub invariant_of-self-then-not-reserve : goal.invariant_of-self-then-not-reserve
invariant_of-self-then-not-reserve c = rw c.reserve.ensures.entries c.self.invariant

pub invariant_of-self-in_err-finished : goal.invariant_of-self-in_err-finished
invariant_of-self-in_err-finished c = rw (c.in_err-finished.ensures.err.1.1, c.reserve.ensures.entries) c.self.invariant
