use Rattle.std.proofs.Common.{◌≡◌, length, sym, ap, ◌∙◌}
use Rattle.std.specs.Prelude.{◌&&◌, is_some}
use Rattle.session_process.specs.Process.{TheProcess}
use Rattle.session_process.specs.Mode.{is_live}
use Rattle.machine.specs.Simulation.{process_at}
use Rattle.machine.proofs.RecoveryCauses.{inside-of, checkpoint-down, checkpoint-busy, checkpoint-full, checkpoint-free}
use Rattle.machine.proofs.machine.Machine.checkpoint_cause.Goals as goal

pub returns-then-not-is_up-clause-cause : goal.returns-then-not-is_up-clause-cause
returns-then-not-is_up-clause-cause c =
    let i = inside-of (length c.args.self.now.processes) c.args.p (sym c.is_inside.ensures ∙ c.if-not-is_inside.false) in
    λ w s. checkpoint-down c.args.self.now w s c.args.room c.args.p i.0 i.1 (sym c.is_up.ensures ∙ c.if-not-is_up.true)

pub returns-then-is_busy-clause-cause : goal.returns-then-is_busy-clause-cause
returns-then-is_busy-clause-cause c =
    let i = inside-of (length c.args.self.now.processes) c.args.p (sym c.is_inside.ensures ∙ c.if-not-is_inside.false) in
    let busy_is : c.is_busy.result ≡ (is_live (process_at c.args.self.now c.args.p).mode && is_some (process_at c.args.self.now c.args.p).working) = c.is_busy.ensures ∙ ap (λ (x : TheProcess). is_live x.mode && is_some x.working) c.process.ensures.value in
    λ w s. checkpoint-busy c.args.self.now w s c.args.room c.args.p i.0 i.1 (sym c.is_up.ensures ∙ c.if-not-is_up.false) (sym busy_is ∙ c.if-is_busy.true)

pub returns-then-room-open_jobs-clause-cause : goal.returns-then-room-open_jobs-clause-cause
returns-then-room-open_jobs-clause-cause c =
    let i = inside-of (length c.args.self.now.processes) c.args.p (sym c.is_inside.ensures ∙ c.if-not-is_inside.false) in
    let busy_is : c.is_busy.result ≡ (is_live (process_at c.args.self.now c.args.p).mode && is_some (process_at c.args.self.now c.args.p).working) = c.is_busy.ensures ∙ ap (λ (x : TheProcess). is_live x.mode && is_some x.working) c.process.ensures.value in
    λ w s. checkpoint-full c.args.self.now w s c.args.room c.args.p i.0 i.1 (sym c.is_up.ensures ∙ c.if-not-is_up.false) (sym busy_is ∙ c.if-is_busy.false) (rw c.open_jobs.ensures.value at c.if-room-open_jobs.true)

pub returns-clause-cause : goal.returns-clause-cause
returns-clause-cause c =
    let i = inside-of (length c.args.self.now.processes) c.args.p (sym c.is_inside.ensures ∙ c.if-not-is_inside.false) in
    let busy_is : c.is_busy.result ≡ (is_live (process_at c.args.self.now c.args.p).mode && is_some (process_at c.args.self.now c.args.p).working) = c.is_busy.ensures ∙ ap (λ (x : TheProcess). is_live x.mode && is_some x.working) c.process.ensures.value in
    λ w s. checkpoint-free c.args.self.now w s c.args.room c.args.p i.0 i.1 (sym c.is_up.ensures ∙ c.if-not-is_up.false) (sym busy_is ∙ c.if-is_busy.false) (rw c.open_jobs.ensures.value at c.if-room-open_jobs.false)
