use Rattle.std.proofs.Common.{rules}
use Rattle.machine.proofs.Causes.{input-full, input-taken, input-free}
use Rattle.machine.proofs.machine.Machine.input_cause.Goals as goal

pub returns-then-room-open_jobs-clause-cause : goal.returns-then-room-open_jobs-clause-cause
returns-then-room-open_jobs-clause-cause c = λ w s. input-full _ w s _ _ _ c.args.feed.now.payload (search rules) (search rules)

pub returns-then-is_taken-clause-cause : goal.returns-then-is_taken-clause-cause
returns-then-is_taken-clause-cause c = λ w s. input-taken _ w s _ _ _ c.args.feed.now.payload (search rules) (search rules) (search rules)

pub returns-clause-cause : goal.returns-clause-cause
returns-clause-cause c = λ w s. input-free _ w s _ _ _ c.args.feed.now.payload (search rules) (search rules) (search rules)
