use Rattle.std.proofs.Common.{◌≢◌, arith, sym, ap, ◌∙◌}
use Rattle.std.specs.Prelude.{None, not, option_and_then}
use Rattle.world.specs.declared.call.Call.TheVariants.{ReplayBegin}
use Rattle.world.specs.Refusals.{refusal_of, cause_of}
use Rattle.machine.proofs.Picks.{replay-pick, replay-none, told-refuses, none-is, upto-more}
use Rattle.machine.proofs.machine.Machine.pick_replay.Goals as goal

pub returns-then-is_none-clause-some : goal.returns-then-is_none-clause-some
returns-then-is_none-clause-some c =
    let none = none-is c.replay_begin_cause.result (c.is_none.ensures ∙ ap not c.if-is_none.true) in
    λ w s. replay-pick w c.args.room c.loop-p.p (c.replay_begin_cause.ensures.cause w s ∙ ap (option_and_then cause_of) none)

pub loop-p-preserved : goal.loop-p-preserved
loop-p-preserved c =
    let some = c.is_none.ensures ∙ ap not c.if-is_none.false in
    λ w s. upto-more (λ k. refusal_of w c.args.room (ReplayBegin k) ≢ None) c.loop-p.p (λ e. told-refuses c.replay_begin_cause.result c.replay_begin_cause.ensures.told some (sym (c.replay_begin_cause.ensures.cause w s) ∙ e)) (c.loop-p.invariant w s)

pub returns-clause-none : goal.returns-clause-none
returns-clause-none c =
    λ w s. replay-none c.args.self.now w s c.args.room (λ p positive within. c.loop-p.invariant w s p positive (omega (arith, within, c.loop-p-test.false, c.count-p-end.ensures.value)))
