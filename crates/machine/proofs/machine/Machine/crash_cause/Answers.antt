use Rattle.std.proofs.Common.{◌≡◌, length, sym, ap, ◌∙◌, true, false}
use Rattle.std.specs.Prelude.{◌+◌, ◌<◌, ◌≤◌, Bool, is_some}
use mir.Val.{bool_byte}
use Rattle.world.specs.Refusals.{one_if}
use Rattle.session_process.specs.Process.{TheProcess}
use Rattle.session_process.specs.Mode.{is_lost}
use Rattle.machine.specs.Simulation.{process_at}
use Rattle.machine.proofs.RecoveryCauses.{inside-of, crash-full, crash-free}
use Rattle.machine.proofs.machine.Machine.crash_cause.Goals as goal

pub returns-then-room-own-clause-cause : goal.returns-then-room-own-clause-cause
returns-then-room-own-clause-cause c =
    let i = inside-of (length c.args.self.now.processes) c.args.p (sym c.is_inside.ensures ∙ c.if-not-is_inside.false) in
    let back = ap (λ (x : TheProcess). is_lost x.mode) (sym c.process-process.ensures.value) ∙ ap is_lost (sym c.mode.ensures) ∙ sym c.is_lost.ensures ∙ c.if-is_lost.false in
    let own : c.is_some-own.result ≡ is_some (process_at c.args.self.now c.args.p).working = c.is_some-own.ensures ∙ ap is_some (c.working.ensures ∙ ap (λ (x : TheProcess). x.working) c.process-process.ensures.value) in
    λ w s. crash-full c.args.self.now w s c.args.room c.args.p i.0 i.1 back (rw (← own, ← c.open_jobs.ensures.value) (by_own c.is_some-own.result c.if-room-own.true))
  where
    by_own : (b : Bool) → c.args.room + bool_byte b ≤ c.open_jobs.result → c.args.room + one_if b ≤ c.open_jobs.result
    by_own true h = h
    by_own false h = h

pub returns-clause-cause : goal.returns-clause-cause
returns-clause-cause c =
    let i = inside-of (length c.args.self.now.processes) c.args.p (sym c.is_inside.ensures ∙ c.if-not-is_inside.false) in
    let back = ap (λ (x : TheProcess). is_lost x.mode) (sym c.process-process.ensures.value) ∙ ap is_lost (sym c.mode.ensures) ∙ sym c.is_lost.ensures ∙ c.if-is_lost.false in
    let own : c.is_some-own.result ≡ is_some (process_at c.args.self.now c.args.p).working = c.is_some-own.ensures ∙ ap is_some (c.working.ensures ∙ ap (λ (x : TheProcess). x.working) c.process-process.ensures.value) in
    λ w s. crash-free c.args.self.now w s c.args.room c.args.p i.0 i.1 back (rw (← own, ← c.open_jobs.ensures.value) (by_own c.is_some-own.result c.if-room-own.false))
  where
    by_own : (b : Bool) → c.open_jobs.result < c.args.room + bool_byte b → c.open_jobs.result < c.args.room + one_if b
    by_own true h = h
    by_own false h = h
