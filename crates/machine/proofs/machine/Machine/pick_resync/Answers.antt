use Rattle.std.proofs.Common.{ℕ, arith}
use Rattle.world.specs.declared.call.Call.TheVariants.{Resync as ResyncWith}
use Rattle.machine.specs.Choice.{IsPick}
use Rattle.machine.proofs.Picks.{resync-nowhere, upto-more}
use Rattle.machine.proofs.machine.Machine.pick_resync.Goals as goal

pub loop-process-preserved : goal.loop-process-preserved
loop-process-preserved c =
    λ w s. upto-more (λ k. (r : ℕ) → ¬ IsPick w c.args.room (ResyncWith k r)) c.loop-process.process (c.in_default.ensures.none w s) (c.loop-process.invariant w s)

pub returns-clause-none : goal.returns-clause-none
returns-clause-none c =
    λ w s. resync-nowhere c.args.self.now w s c.args.room (λ p positive within. c.loop-process.invariant w s p positive (omega (arith, within, c.loop-process-test.false, c.count-process-end.ensures.value)))
