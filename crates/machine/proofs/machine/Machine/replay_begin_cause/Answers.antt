use Rattle.std.proofs.Common.{◌≡◌, length, sym, ap, ◌∙◌, true, false}
use Rattle.std.specs.Prelude.{is_some, not}
use Rattle.session_process.specs.Process.{TheProcess}
use Rattle.session_process.specs.Mode.{next_job}
use Rattle.machine.specs.Simulation.{process_at}
use Rattle.machine.proofs.RecoveryCauses.{inside-of}
use Rattle.machine.proofs.ReplayCauses.{replay-nothing, replay-full, replay-free}
use Rattle.machine.proofs.machine.Machine.replay_begin_cause.Goals as goal

pub returns-then-is_none-clause-cause : goal.returns-then-is_none-clause-cause
returns-then-is_none-clause-cause c =
    let i = inside-of (length c.args.self.now.processes) c.args.p (sym c.is_inside.ensures ∙ c.if-not-is_inside.false) in
    let idle : is_some (process_at c.args.self.now c.args.p).working ≡ false = sym (c.is_some.ensures ∙ ap is_some (c.working.ensures ∙ ap (λ (x : TheProcess). x.working) c.process-process.ensures.value)) ∙ c.if-is_some.false in
    let job = c.next_job.ensures ∙ ap next_job (c.mode.ensures ∙ ap (λ (x : TheProcess). x.mode) c.process-process.ensures.value) in
    let none : is_some (next_job (process_at c.args.self.now c.args.p).mode) ≡ false = sym (ap is_some job) ∙ c.is_none.ensures ∙ ap not c.if-is_none.true in
    λ w s. replay-nothing c.args.self.now w s c.args.room c.args.p i.0 i.1 idle none

pub returns-then-room-open_jobs-clause-cause : goal.returns-then-room-open_jobs-clause-cause
returns-then-room-open_jobs-clause-cause c =
    let i = inside-of (length c.args.self.now.processes) c.args.p (sym c.is_inside.ensures ∙ c.if-not-is_inside.false) in
    let idle : is_some (process_at c.args.self.now c.args.p).working ≡ false = sym (c.is_some.ensures ∙ ap is_some (c.working.ensures ∙ ap (λ (x : TheProcess). x.working) c.process-process.ensures.value)) ∙ c.if-is_some.false in
    let job = c.next_job.ensures ∙ ap next_job (c.mode.ensures ∙ ap (λ (x : TheProcess). x.mode) c.process-process.ensures.value) in
    let left : is_some (next_job (process_at c.args.self.now c.args.p).mode) ≡ true = sym (ap is_some job) ∙ c.is_none.ensures ∙ ap not c.if-is_none.false in
    λ w s. replay-full c.args.self.now w s c.args.room c.args.p i.0 i.1 idle left (rw c.open_jobs.ensures.value at c.if-room-open_jobs.true)

pub returns-clause-cause : goal.returns-clause-cause
returns-clause-cause c =
    let i = inside-of (length c.args.self.now.processes) c.args.p (sym c.is_inside.ensures ∙ c.if-not-is_inside.false) in
    let idle : is_some (process_at c.args.self.now c.args.p).working ≡ false = sym (c.is_some.ensures ∙ ap is_some (c.working.ensures ∙ ap (λ (x : TheProcess). x.working) c.process-process.ensures.value)) ∙ c.if-is_some.false in
    let job = c.next_job.ensures ∙ ap next_job (c.mode.ensures ∙ ap (λ (x : TheProcess). x.mode) c.process-process.ensures.value) in
    let left : is_some (next_job (process_at c.args.self.now c.args.p).mode) ≡ true = sym (ap is_some job) ∙ c.is_none.ensures ∙ ap not c.if-is_none.false in
    λ w s. replay-free c.args.self.now w s c.args.room c.args.p i.0 i.1 idle left (rw c.open_jobs.ensures.value at c.if-room-open_jobs.false)
