use Rattle.std.proofs.Common.{◌≡◌, ◌≤◌, ◌+◌, arith, subst, sym}
use Rattle.std.specs.Prelude.{None, slice_index_or}
use Rattle.limits.specs.declared.TheConstants.{ENTRIES}
use Rattle.world.specs.declared.call.Call.TheVariants.{Lose}
use Rattle.world.specs.World.{World}
use Rattle.world.specs.Refusals.{refusal_of}
use Rattle.machine.specs.Simulation.{TheMachine, Stands}
use Rattle.machine.specs.Fields.{view_of}
use Rattle.machine.proofs.Preservation.{keys-gone, sound-wire}
use Rattle.machine.proofs.Sendings.{lost}
use Rattle.machine.proofs.machine.Machine.lose.Goals as goal

pub invariant_of-self : goal.invariant_of-self
invariant_of-self c =
    let i = c.self.inside in
    let calls : i.calls + c.args.room ≤ ENTRIES = subst (λ (v : TheMachine). v.calls + c.args.room ≤ ENTRIES) (sym c.self.view_is) c.requires in
    sound-wire i c.remove.new.self c.args.key _ _ c.self.invariant (omega (arith, calls)) c.remove.ensures tt (keys-gone i.wire c.remove.new.self c.args.key _ c.remove.ensures c.self.invariant.keys)

pub returns-clause-step : goal.returns-clause-step
returns-clause-step c =
    let m = view_of c.self.inside in
    let accepted : (w : World) → Stands m w → refusal_of w c.args.room (Lose c.args.key) ≡ None = rw c.self.view_is c.in_default.ensures.cause in
    rw (← c.self.view_is) (λ w s. lost m w s c.args.room c.args.key (c.self.inside.calls + 1) c.remove.new.self (slice_index_or m.slots c.args.key None) (accepted w s) c.remove.ensures)
