use Rattle.std.proofs.Common.{◌≢◌, arith, sym, ap, ◌∙◌}
use Rattle.std.specs.Prelude.{None, not, option_and_then}
use Rattle.world.specs.declared.call.Call.TheVariants.{Resync as ResyncWith}
use Rattle.world.specs.Refusals.{refusal_of, cause_of}
use Rattle.machine.proofs.Picks.{resync-pick, resync-none, told-refuses, none-is, upto-more}
use Rattle.machine.proofs.machine.Machine.resync_peer.Goals as goal

pub returns-then-is_none-clause-some : goal.returns-then-is_none-clause-some
returns-then-is_none-clause-some c =
    let none = none-is c.resync_cause.result (c.is_none.ensures ∙ ap not c.if-is_none.true) in
    λ w s. resync-pick w c.args.room c.args.p c.loop-r.r (c.resync_cause.ensures.cause w s ∙ ap (option_and_then cause_of) none)

pub loop-r-preserved : goal.loop-r-preserved
loop-r-preserved c =
    let some = c.is_none.ensures ∙ ap not c.if-is_none.false in
    λ w s. upto-more (λ k. refusal_of w c.args.room (ResyncWith c.args.p k) ≢ None) c.loop-r.r (λ e. told-refuses c.resync_cause.result c.resync_cause.ensures.told some (sym (c.resync_cause.ensures.cause w s) ∙ e)) (c.loop-r.invariant w s)

pub returns-clause-none : goal.returns-clause-none
returns-clause-none c =
    λ w s. resync-none c.args.self.now w s c.args.room c.args.p (λ r positive within. c.loop-r.invariant w s r positive (omega (arith, within, c.loop-r-test.false, c.count-r-end.ensures.value)))
