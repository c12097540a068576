use Rattle.std.proofs.Common.{rules, ◌≡◌, ◌≤◌, ◌<◌, ◌+◌, arith, subst, sym, length}
use Rattle.std.specs.Prelude.{Some, None, slice_index_or}
use Rattle.std.proofs.lemmas.Grind.{common_steps}
use Rattle.limits.specs.declared.TheConstants.{ENTRIES, PACKETS}
use Rattle.world.specs.declared.call.Call.TheVariants.{Copy}
use Rattle.world.specs.World.{World}
use Rattle.world.specs.Refusals.{refusal_of}
use Rattle.session_process.specs.Wire.{Puts}
use Rattle.machine.specs.Simulation.{TheMachine, Stands}
use Rattle.machine.specs.Fields.{view_of, IsCarried}
use Rattle.machine.proofs.Preservation.{keys-put, sound-wire}
use Rattle.machine.proofs.Sendings.{copied}
use Rattle.machine.proofs.machine.Machine.copy.Goals as goal
use Rattle.machine.proofs.machine.Machine.copy.Goals.{In_ok-new}

found : (c : In_ok-new) → slice_index_or c.self.inside.wire c.args.key None ≡ Some c.in-Some-get.packet
found c = first_of (search rules, grind (arith, common_steps))

puts : (c : In_ok-new) → Puts c.self.inside.wire c.place.new.self c.in_ok-new.new None (Some c.in-Some-get.packet)
puts c = first_of (search rules, grind (arith, common_steps))

low : (c : In_ok-new) → c.in_ok-new.new < PACKETS
low c = first_of (search rules, grind (arith, common_steps))

pub invariant_of-self-2 : goal.invariant_of-self-2
invariant_of-self-2 c =
    let g = (goal.at.invariant_of-self-2 c).In_ok-new in
    let i = c.self.inside in
    let calls : i.calls + c.args.room ≤ ENTRIES = subst (λ (v : TheMachine). v.calls + c.args.room ≤ ENTRIES) (sym c.self.view_is) c.requires in
    let carried : IsCarried (length i.processes.items) c.in-Some-get.packet = c.self.invariant.wire c.args.key c.in-Some-get.packet (found g) in
    sound-wire i c.place.new.self c.in_ok-new.new None (Some c.in-Some-get.packet) c.self.invariant (omega (arith, calls)) (puts g) carried (keys-put i.wire c.place.new.self c.in_ok-new.new None (Some c.in-Some-get.packet) (puts g) (low g) c.self.invariant.keys)

pub returns-clause-step : goal.returns-clause-step
returns-clause-step c =
    let g = (goal.at.returns-clause-step c).In_ok-new in
    let m = view_of c.self.inside in
    let accepted : (w : World) → Stands m w → refusal_of w c.args.room (Copy c.args.key) ≡ None = rw c.self.view_is c.in_default.ensures.cause in
    rw (← c.self.view_is) (λ w s. copied m w s c.args.room c.in_ok-new.new (c.self.inside.calls + 1) c.place.new.self c.in-Some-get.packet (low g) (puts g) c.args.key (accepted w s) (found g))
