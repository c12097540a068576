use Rattle.std.proofs.Common.{rules, ◌≤◌, length, arith}
use Rattle.std.proofs.lemmas.Grind.{common_steps}
use Rattle.machine.proofs.RecoveryCauses.{trim-full, trim-free}
use Rattle.machine.proofs.machine.Machine.trim_cause.Goals as goal

pub returns-then-room-open_jobs-clause-cause : goal.returns-then-room-open_jobs-clause-cause
returns-then-room-open_jobs-clause-cause c =
    let within : c.args.d ≤ length c.args.self.now.processes = first_of (search rules, grind (arith, common_steps)) in
    λ w s. trim-full c.args.self.now w s c.args.room c.args.d within (rw c.open_jobs.ensures.value at c.if-room-open_jobs.true)

pub returns-clause-cause : goal.returns-clause-cause
returns-clause-cause c =
    let within : c.args.d ≤ length c.args.self.now.processes = first_of (search rules, grind (arith, common_steps)) in
    λ w s. trim-free c.args.self.now w s c.args.room c.args.d within (rw c.open_jobs.ensures.value at c.if-room-open_jobs.false)
