use Rattle.std.proofs.Common.{arith, ◌<◌, subst, sym}
use Rattle.limits.specs.declared.TheConstants.{ENTRIES}
use Rattle.machine.specs.Simulation.{TheMachine}
use Rattle.machine.proofs.Preservation.{keys-gone, sound-wire}
use Rattle.machine.proofs.machine.Machine.drop_packet.Goals as goal

pub invariant_of-self : goal.invariant_of-self
invariant_of-self c =
    let i = c.self.inside in
    let calls : i.calls < ENTRIES = subst (λ (v : TheMachine). v.calls < ENTRIES) (sym c.self.view_is) c.requires in
    sound-wire i c.remove.new.self c.args.key _ _ c.self.invariant (omega (arith, calls)) c.remove.ensures tt (keys-gone i.wire c.remove.new.self c.args.key _ c.remove.ensures c.self.invariant.keys)
