use Rattle.std.proofs.Common.{◌≡◌, ◌≤◌, ◌∙◌, ◌++◌, ℕ, List, length, Some, ap, subst, sym}
use Rattle.std.specs.Prelude.{drop, take}
use Rattle.std.proofs.Math.Seq.{take-append_seam}
use Rattle.helpers.specs.declared.effects.Who.{Who}
use Rattle.interp.specs.Answer.{Handled, HasRun, answered}
use Rattle.interp.specs.Image.{TheImage, image_in, the_image}
use Rattle.replay.specs.Task.{TheCompletion, TheTask}
use Rattle.sessions.specs.Job.{TheJob, IsAnswer}
use Rattle.sessions.proofs.job.Job.run.Goals as goal

-- a state that is written over from its beginning to its end
written : (n : ℕ) (next old : List ℕ) → n ≡ length next → take n (next ++ drop (length next) old) ≡ next
written n next old is = ap (λ k. take k (next ++ drop (length next) old)) is ∙ take-append_seam next (drop (length next) old)

pub new-completion-requires : goal.new-completion-requires
new-completion-requires c =
    let is = written c.into_parts-task.result.1.len c.call-end.new.state c.into_parts-task.result.1.items (sym c.as_mut_slice.ensures.len ∙ sym c.call-end.auto.state) in
    ap length is ∙ c.call-end.auto.state ∙ ap length (c.as_mut_slice.ensures.value ∙ c.into_parts-task.ensures.state) ∙ sym (ap (λ (t : TheTask). length t.state) c.into_parts-task.ensures.task)

-- what a handler answers to what it is given, where that is a job's
answers : (j : TheJob) (image : TheImage) (who : Who) (state payload : List ℕ) (h : Handled) → image ≡ j.image → who ≡ j.task.who → state ≡ j.task.state → payload ≡ j.task.message.payload
    → HasRun image who state payload h → answered image who state payload ≡ Some h → h.steps ≤ length image.code → length h.state ≡ length state → length j.task.state ≡ j.image.len → IsAnswer j h
answers j image who state payload h i w s p runs answer bound len sized = record {
  runs = subst (λ (x : TheImage × Who × List ℕ × List ℕ). HasRun x.0 x.1 x.2 x.3 h) (λ k. (i k, w k, s k, p k)) runs;
  answers = sym (λ k. answered (i k) (w k) (s k) (p k)) ∙ answer;
  within = subst (λ (x : TheImage). h.steps ≤ length x.code) i bound;
  state_len = len ∙ ap length s ∙ sized;
}

pub invariant_of-result : goal.invariant_of-result
invariant_of-result c =
    let image = image_in c.self.inside.handler in
    let j : TheJob = record { task = c.self.inside.invocation; image = image } in
    let end = c.call-end.result in
    let h : Handled = record { state = c.call-end.new.state; effects = c.call-end.new.out; r0 = end.r0; steps = end.steps } in
    let task = c.into_parts-task.ensures.task in
    let is = written c.into_parts-task.result.1.len c.call-end.new.state c.into_parts-task.result.1.items (sym c.as_mut_slice.ensures.len ∙ sym c.call-end.auto.state) in
    let completed : c.new-completion.result ≡ record { task = j.task; state = h.state; effects = h.effects } = c.new-completion.ensures ∙ (λ k. record { task = task k; state = is k; effects = h.effects }) in
    let P : TheCompletion → Type 0 = λ d. IsAnswer (record { task = d.task; image = image }) (record { state = d.state; effects = d.effects; r0 = end.r0; steps = end.steps }) in
    subst P (sym completed)
    (answers j (the_image c.deref.result.now) c.who.result c.as_mut_slice.result.now c.payload.result.now h
    (ap the_image c.deref.ensures) (c.who.ensures.value ∙ ap (λ (t : TheTask). t.who) task) (c.as_mut_slice.ensures.value ∙ c.into_parts-task.ensures.state) (c.payload.ensures ∙ ap (λ (t : TheTask). t.message.payload) task)
    c.call-end.ensures.runs c.call-end.ensures.answer c.call-end.ensures.bound c.call-end.auto.state c.self.invariant)

pub returns : goal.returns
returns c =
    let task = ap (λ (d : TheCompletion). d.task) c.new-completion.ensures ∙ c.into_parts-task.ensures.task in
    ap (λ (t : TheTask). record { task = t; image = image_in c.self.inside.handler }) task ∙ c.self.view_is
