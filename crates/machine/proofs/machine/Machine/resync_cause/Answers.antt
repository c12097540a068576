use Rattle.std.proofs.Common.{length, sym, ◌∙◌}
use Rattle.machine.proofs.RecoveryCauses.{inside-of}
use Rattle.machine.proofs.ReplayCauses.{resync-done, resync-full, resync-free}
use Rattle.machine.proofs.machine.Machine.resync_cause.Goals as goal

pub returns-then-not-is_to_do-clause-cause : goal.returns-then-not-is_to_do-clause-cause
returns-then-not-is_to_do-clause-cause c =
    let i = inside-of (length c.args.self.now.processes) c.args.p (sym c.is_inside.ensures ∙ c.if-not-is_inside.false) in
    let j = inside-of (length c.args.self.now.processes) c.args.r (sym c.is_inside-else-not-is_inside.ensures ∙ c.if-not-is_inside-2.false) in
    λ w s. resync-done c.args.self.now w s c.args.room c.args.p c.args.r i.0 i.1 j.0 j.1 c.if-p-r.false (sym c.is_up.ensures ∙ c.if-not-is_up.false) (sym (c.is_to_do.ensures.todo w s) ∙ c.if-not-is_to_do.true)

pub returns-then-room-open_jobs-clause-cause : goal.returns-then-room-open_jobs-clause-cause
returns-then-room-open_jobs-clause-cause c =
    let i = inside-of (length c.args.self.now.processes) c.args.p (sym c.is_inside.ensures ∙ c.if-not-is_inside.false) in
    let j = inside-of (length c.args.self.now.processes) c.args.r (sym c.is_inside-else-not-is_inside.ensures ∙ c.if-not-is_inside-2.false) in
    λ w s. resync-full c.args.self.now w s c.args.room c.args.p c.args.r i.0 i.1 j.0 j.1 c.if-p-r.false (sym c.is_up.ensures ∙ c.if-not-is_up.false) (sym (c.is_to_do.ensures.todo w s) ∙ c.if-not-is_to_do.false) (rw c.open_jobs.ensures.value at c.if-room-open_jobs.true)

pub returns-clause-cause : goal.returns-clause-cause
returns-clause-cause c =
    let i = inside-of (length c.args.self.now.processes) c.args.p (sym c.is_inside.ensures ∙ c.if-not-is_inside.false) in
    let j = inside-of (length c.args.self.now.processes) c.args.r (sym c.is_inside-else-not-is_inside.ensures ∙ c.if-not-is_inside-2.false) in
    λ w s. resync-free c.args.self.now w s c.args.room c.args.p c.args.r i.0 i.1 j.0 j.1 c.if-p-r.false (sym c.is_up.ensures ∙ c.if-not-is_up.false) (sym (c.is_to_do.ensures.todo w s) ∙ c.if-not-is_to_do.false) (rw c.open_jobs.ensures.value at c.if-room-open_jobs.false)
