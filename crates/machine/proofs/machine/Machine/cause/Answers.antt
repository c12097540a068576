use Rattle.std.proofs.Common.{ap, ◌∙◌}
use Rattle.world.specs.Refusals.{refusal_of}
use Rattle.machine.proofs.machine.Machine.cause.Goals as goal

pub returns-in-Input-clause-cause : goal.returns-in-Input-clause-cause
returns-in-Input-clause-cause c w s = ap (refusal_of w c.args.room) c.in-Input.is ∙ c.input_cause.ensures.cause w s

pub returns-in-Transmit-clause-cause : goal.returns-in-Transmit-clause-cause
returns-in-Transmit-clause-cause c w s = ap (refusal_of w c.args.room) c.in-Transmit.is ∙ c.transmit_cause.ensures.cause w s

pub returns-in-Copy-clause-cause : goal.returns-in-Copy-clause-cause
returns-in-Copy-clause-cause c w s = ap (refusal_of w c.args.room) c.in-Copy.is ∙ c.copy_cause.ensures.cause w s

pub returns-in-Lose-clause-cause : goal.returns-in-Lose-clause-cause
returns-in-Lose-clause-cause c w s = ap (refusal_of w c.args.room) c.in-Lose.is ∙ c.lose_cause.ensures.cause w s

pub returns-in-Arrive-clause-cause : goal.returns-in-Arrive-clause-cause
returns-in-Arrive-clause-cause c w s = ap (refusal_of w c.args.room) c.in-Arrive.is ∙ c.arrive_cause.ensures.cause w s

pub returns-in-Checkpoint-clause-cause : goal.returns-in-Checkpoint-clause-cause
returns-in-Checkpoint-clause-cause c w s = ap (refusal_of w c.args.room) c.in-Checkpoint.is ∙ c.checkpoint_cause.ensures.cause w s

pub returns-in-Trim-clause-cause : goal.returns-in-Trim-clause-cause
returns-in-Trim-clause-cause c w s = ap (refusal_of w c.args.room) c.in-Trim.is ∙ c.trim_cause.ensures.cause w s

pub returns-in-Crash-clause-cause : goal.returns-in-Crash-clause-cause
returns-in-Crash-clause-cause c w s = ap (refusal_of w c.args.room) c.in-Crash.is ∙ c.crash_cause.ensures.cause w s

pub returns-in-Recover-clause-cause : goal.returns-in-Recover-clause-cause
returns-in-Recover-clause-cause c w s = ap (refusal_of w c.args.room) c.in-Recover.is ∙ c.recover_cause.ensures.cause w s

pub returns-in-RecoverAlone-clause-cause : goal.returns-in-RecoverAlone-clause-cause
returns-in-RecoverAlone-clause-cause c w s = ap (refusal_of w c.args.room) c.in-RecoverAlone.is ∙ c.recover_alone_cause.ensures.cause w s

pub returns-in-ReplayBegin-clause-cause : goal.returns-in-ReplayBegin-clause-cause
returns-in-ReplayBegin-clause-cause c w s = ap (refusal_of w c.args.room) c.in-ReplayBegin.is ∙ c.replay_begin_cause.ensures.cause w s

pub returns-in-Resync-clause-cause : goal.returns-in-Resync-clause-cause
returns-in-Resync-clause-cause c w s = ap (refusal_of w c.args.room) c.in-Resync.is ∙ c.resync_cause.ensures.cause w s
