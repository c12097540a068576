use Rattle.std.proofs.Common.{◌≢◌, arith, sym, ap, ◌∙◌}
use Rattle.std.specs.Prelude.{None, not, slice_index_or}
use Rattle.world.specs.declared.call.Call.TheVariants.{Arrive}
use Rattle.world.specs.Refusals.{refusal_of}
use Rattle.session_process.specs.Wire.{AreListed}
use Rattle.machine.proofs.Picks.{arrives-none, told-refuses, up-more}
use Rattle.machine.proofs.machine.Machine.pick_arrival.Goals as goal

pub returns-clause-none : goal.returns-clause-none
returns-clause-none c =
    let m = c.args.self.now in
    let listed : AreListed m.slots c.keys-key-items.result.now = rw (← c.self.view_is) c.keys-key-items.ensures in
    λ w s. arrives-none m w c.args.room c.keys-key-items.result.now s listed (λ k h. c.loop-key.invariant w s k (omega (arith, h, c.loop-key-test.false)))

pub loop-key-preserved : goal.loop-key-preserved
loop-key-preserved c =
    let some = c.is_none.ensures ∙ ap not c.if-is_none.false in
    λ w s. up-more (λ k. refusal_of w c.args.room (Arrive (slice_index_or c.keys-key-items.result.now k 0)) ≢ None) c.loop-key.key-index
    (λ e. told-refuses c.arrive_cause.result c.arrive_cause.ensures.told some (sym (c.arrive_cause.ensures.cause w s) ∙ e)) (c.loop-key.invariant w s)
