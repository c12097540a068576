use Rattle.std.proofs.Common.{◌≡◌, Ok, sym, subst}
use Rattle.interp.specs.Image.{image_in}
use Rattle.replay.specs.Task.{TheCompletion}
use Rattle.machine.specs.Arrival.{Finishes}
use Rattle.sessions.specs.Job.{TheJob, completed, given}
use Rattle.sessions.proofs.job.Done.commit.Goals as goal

pub returns-in-Ok-clause-ok : goal.returns-in-Ok-clause-ok
returns-in-Ok-clause-ok c =
    let i = c.self.inside in
    let j : TheJob = record { task = i.completion.task; image = image_in i.handler } in
    let answers = c.self.invariant.answers in
    let same : completed j ≡ i.completion = λ k. record { task = i.completion.task; state = (given (answers k)).state; effects = (given (answers k)).effects } in
    subst (λ (z : TheJob). Finishes c.args.machine.now c.finish.new.self (completed z) (Ok c.in-Ok.finished)) c.self.view_is
    (subst (λ (d : TheCompletion). Finishes c.args.machine.now c.finish.new.self d (Ok c.in-Ok.finished)) (sym same) c.in-Ok.ensures.step)
