use Rattle.std.proofs.Common.{◌≡◌, ap, ◌∙◌}
use Rattle.replay.specs.Task.{TheTask}
use Rattle.machine.proofs.StartLemmas.{arrival-opens}
use Rattle.machine.proofs.machine.Machine.step.Goals as goal

pub returns-in_ok-arrival-in-Arrive-clause-job : goal.returns-in_ok-arrival-in-Arrive-clause-job
returns-in_ok-arrival-in-Arrive-clause-job c w s =
    let ok = c.in_ok-arrival-in-Arrive.ensures in
    rw (c.in-Arrive.is, c.of.ensures.answer, c.of.ensures.job) (arrival-opens c.args.self.now c.arrive.new.self c.args.room c.in-Arrive.key c.in_ok-arrival-in-Arrive.arrival ok.step ok.job ok.target w s)

pub returns-in_ok-job-in-ReplayBegin-clause-step : goal.returns-in_ok-job-in-ReplayBegin-clause-step
returns-in_ok-job-in-ReplayBegin-clause-step c w s =
    let job = c.in_ok-job-in-ReplayBegin.job in
    let serial : c.serial.result ≡ job.serial = c.serial.ensures ∙ ap (λ (t : TheTask). t.serial) c.task.ensures in
    rw (c.in-ReplayBegin.is, serial) (c.in_ok-job-in-ReplayBegin.ensures.step w s)
