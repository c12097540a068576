use Rattle.std.proofs.Common.{rules, arith, ℕ, ◌≤◌, ◌≡◌, ◌+◌, true, false, refl, subst, sym, ap, ◌∙◌, slice_index_or, length}
use Rattle.std.specs.Prelude.{Some, None}
use Rattle.std.proofs.lemmas.Grind.{common_steps}
use Rattle.world.specs.declared.packet.Packet.{Packet}
use Rattle.world.specs.declared.packet.Packet.TheVariants.{Delivery, Number, Acknowledgement}
use Rattle.world.specs.declared.call.Call.TheVariants.{Arrive}
use Rattle.world.specs.declared.answer.Answer.TheVariants.{Unreachable}
use Rattle.world.specs.Answers.{target_of}
use Rattle.session_process.specs.Wire.{Puts}
use Rattle.machine.specs.Reception.{MayArrive}
use Rattle.machine.specs.Fields.{IsCarried}
use Rattle.machine.specs.Simulation.{TheMachine, Steps, is_up_at}
use Rattle.machine.proofs.Arrivals.{unreachable}
use Rattle.machine.proofs.machine.Machine.arrive.Goals as goal
use Rattle.machine.proofs.machine.Machine.arrive.Goals.{In_default-take_cause, Else-not-is_up}

-- the packet under the key
found : (c : In_default-take_cause) → slice_index_or c.self.inside.wire c.args.key None ≡ Some c.in-Some.found.now
found c = first_of (search rules, grind (arith, common_steps))

carried : (c : In_default-take_cause) → IsCarried (length c.args.self.now.processes) c.in-Some.found.now
carried c = subst (λ (v : TheMachine). IsCarried (length v.processes) c.in-Some.found.now) c.self.view_is (c.self.invariant.wire c.args.key c.in-Some.found.now (found c))

target-within : (n : ℕ) (k : Packet) → IsCarried n k → target_of k ≤ n
target-within n (Delivery d x) h = h.0
target-within n (Number r s i k incarnation) h = h.2
target-within n (Acknowledgement s r k incarnation) h = h.1

pub is_up-requires : goal.is_up-requires
is_up-requires c =
    let g = (goal.at.is_up-requires c).In_default-take_cause in
    let within : target_of c.in-Some.found.now ≤ length c.args.self.now.processes = target-within (length c.args.self.now.processes) c.in-Some.found.now (carried g) in
    omega (arith, c.target.ensures, within)

up : (c : Else-not-is_up) → is_up_at c.args.self.now (target_of c.in-Some.found.now) ≡ true
up c = ap (is_up_at c.args.self.now) (sym c.target.ensures) ∙ sym c.is_up.ensures ∙ c.if-not-is_up.false

-- it may be taken, where its target is up
may : (c : In_default-take_cause) → is_up_at c.args.self.now (target_of c.in-Some.found.now) ≡ true → MayArrive c.args.self.now c.args.room c.args.key c.in-Some.found.now
may c on =
    record {
      found = ap (λ (v : TheMachine). slice_index_or v.slots c.args.key None) (sym c.self.view_is) ∙ found c;
      carried = carried c;
      up = on;
      accepted = λ w s. c.in_default-take_cause.ensures.cause w c.args.key s (ap (λ (v : TheMachine). slice_index_or v.slots c.args.key None) (sym c.self.view_is) ∙ found c);
      calls = omega (arith, c.requires, c.in_default-take_cause.ensures.none);
    }

pub returns-then-not-is_up-clause-step : goal.returns-then-not-is_up-clause-step
returns-then-not-is_up-clause-step c w s =
    let g = (goal.at.returns-then-not-is_up-clause-step c).In_default-take_cause in
    let m = c.args.self.now in
    let packet = c.in-Some.found.now in
    let d = c.drop_packet.ensures in
    let slots = c.drop_packet.new.self.slots in
    let there : slice_index_or m.slots c.args.key None ≡ Some packet = ap (λ (v : TheMachine). slice_index_or v.slots c.args.key None) (sym c.self.view_is) ∙ found g in
    let puts : Puts m.slots slots c.args.key (Some packet) None = subst (λ was. Puts m.slots slots c.args.key was None) there d.wire in
    let off : is_up_at m (target_of packet) ≡ false = ap (is_up_at m) (sym c.target.ensures) ∙ sym c.is_up.ensures ∙ c.if-not-is_up.true in
    subst (λ v. Steps m v c.args.room (Arrive c.args.key) Unreachable w) (sym d.others)
    (unreachable m w s c.args.room c.args.key (m.calls + 1) slots (c.in_default-take_cause.ensures.cause w c.args.key s there) packet there (target-within (length m.processes) packet (carried g)) off puts)

pub show-requires : goal.show-requires
show-requires c = subst (MayArrive c.args.self.now c.args.room c.args.key) (c.in-Delivery-eq0-default.is ∙ ap (λ d. Delivery d c.in-Delivery-eq0-default.message) c.in-Delivery-eq0-default.to-test) (may (goal.at.show-requires c).In_default-take_cause (up (goal.at.show-requires c).Else-not-is_up))

pub receive-requires-clause-may : goal.receive-requires-clause-may
receive-requires-clause-may c = subst (MayArrive c.args.self.now c.args.room c.args.key) c.in-Delivery.is (may (goal.at.receive-requires-clause-may c).In_default-take_cause (up (goal.at.receive-requires-clause-may c).Else-not-is_up))

pub returns-in-Some-take_cause-clause-step : goal.returns-in-Some-take_cause-clause-step
returns-in-Some-take_cause-clause-step c =
    let there : slice_index_or c.args.self.now.slots c.args.key None ≡ Some c.in-Some.found.now = first_of (search rules, grind (arith, common_steps)) in
    (refl, λ w s. c.in-Some-take_cause.ensures.cause w c.args.key s there)
