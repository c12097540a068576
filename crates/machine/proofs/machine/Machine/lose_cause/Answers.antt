use Rattle.std.proofs.Common.{rules, ◌≢◌, arith, slice_index_or}
use Rattle.std.specs.Prelude.{None}
use Rattle.std.proofs.lemmas.Grind.{common_steps}
use Rattle.machine.proofs.Causes.{lose-full, lose-free}
use Rattle.machine.proofs.machine.Machine.lose_cause.Goals as goal
use Rattle.machine.proofs.machine.Machine.lose_cause.Goals.{Else-is_none}

some : (c : Else-is_none) → slice_index_or c.args.self.now.slots c.args.key None ≢ None
some c = first_of (search rules, grind (arith, common_steps))

pub returns-then-room-open_jobs-clause-cause : goal.returns-then-room-open_jobs-clause-cause
returns-then-room-open_jobs-clause-cause c =
    λ w s. lose-full c.args.self.now w s c.args.room c.args.key (some (goal.at.returns-then-room-open_jobs-clause-cause c).Else-is_none) (rw c.open_jobs.ensures.value at c.if-room-open_jobs.true)

pub returns-clause-cause : goal.returns-clause-cause
returns-clause-cause c =
    λ w s. lose-free c.args.self.now w s c.args.room c.args.key (some (goal.at.returns-clause-cause c).Else-is_none) (rw c.open_jobs.ensures.value at c.if-room-open_jobs.false)
