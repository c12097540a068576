use Rattle.std.proofs.Common.{rules, ◌≡◌, ◌≤◌, ◌<◌, ◌+◌, arith, ap, subst, sym, ◌∙◌, length, true, false, true≢false}
use Rattle.std.specs.Prelude.{Some, None}
use Rattle.std.proofs.lemmas.Grind.{common_steps}
use Rattle.limits.specs.declared.TheConstants.{ENTRIES, PACKETS}
use Rattle.sender_log.specs.Queue.{is_logged, payload_of}
use Rattle.sender_log.specs.Log.{TheLog, queue_of}
use Rattle.world.specs.declared.packet.Packet.{Packet}
use Rattle.world.specs.declared.packet.Packet.TheVariants.{Delivery}
use Rattle.world.specs.declared.call.Call.TheVariants.{Transmit}
use Rattle.world.specs.World.{World}
use Rattle.world.specs.Refusals.{refusal_of}
use Rattle.session_process.specs.Wire.{Puts}
use Rattle.machine.specs.Simulation.{TheMachine, Stands, log_at}
use Rattle.machine.specs.Transmission.{MayLeave}
use Rattle.machine.specs.Fields.{view_of, IsCarried}
use Rattle.machine.proofs.Preservation.{keys-put, sound-wire}
use Rattle.machine.proofs.Sendings.{transmitted}
use Rattle.machine.proofs.machine.Machine.transmit.Goals as goal
use Rattle.machine.proofs.machine.Machine.transmit.Goals.{In_ok-key}

-- the packet that goes on the wire
packet : In_ok-key → Packet
packet c = Delivery c.args.to (record { sender = c.args.from; ssn = c.args.ssn; payload = c.from_slice.result })

puts : (c : In_ok-key) → Puts c.self.inside.wire c.place.new.self c.in_ok-key.key None (Some (packet c))
unfolding packet
puts c = first_of (search rules, grind (arith, common_steps))

low : (c : In_ok-key) → c.in_ok-key.key < PACKETS
low c = first_of (search rules, grind (arith, common_steps))

may : (c : In_ok-key) → MayLeave (view_of c.self.inside) c.args.from c.args.to c.args.ssn
may c = subst (λ (v : TheMachine). MayLeave v c.args.from c.args.to c.args.ssn) (sym c.self.view_is) c.in_default.ensures.none.0

log : (c : In_ok-key) → c.log.result.now ≡ log_at (view_of c.self.inside) c.args.from
log c = c.log.ensures.value ∙ ap (λ (v : TheMachine). log_at v c.args.from) (sym c.self.view_is)

logged : (c : In_ok-key) → is_logged c.args.ssn (queue_of c.args.to (log_at (view_of c.self.inside) c.args.from)) ≡ true
logged c =
    let there : is_logged c.args.ssn (queue_of c.args.to c.log.result.now) ≡ true = first_of (search rules, grind (arith, common_steps)) in
    ap (λ (l : TheLog). is_logged c.args.ssn (queue_of c.args.to l)) (sym (log c)) ∙ there

payload_is : (c : In_ok-key) → c.from_slice.result ≡ payload_of c.args.ssn (queue_of c.args.to (log_at (view_of c.self.inside) c.args.from))
payload_is c =
    let there : c.from_slice.result ≡ payload_of c.args.ssn (queue_of c.args.to c.log.result.now) = first_of (search rules, grind (arith, common_steps)) in
    there ∙ ap (λ (l : TheLog). payload_of c.args.ssn (queue_of c.args.to l)) (log c)

-- what may leave is logged
pub returns-in_default-entry-clause-step : goal.returns-in_default-entry-clause-step
returns-in_default-entry-clause-step c =
    let m = c.args.self.now in
    let may : MayLeave m c.args.from c.args.to c.args.ssn = c.in_default.ensures.none.0 in
    let none : is_logged c.args.ssn (queue_of c.args.to (log_at m c.args.from)) ≡ false = first_of (search rules, grind (arith, common_steps)) in
    absurd (true≢false (sym may.logged ∙ none))

pub invariant_of-self-2 : goal.invariant_of-self-2
unfolding packet
invariant_of-self-2 c =
    let g = (goal.at.invariant_of-self-2 c).In_ok-key in
    let i = c.self.inside in
    let m = may g in
    let calls : i.calls + c.args.room ≤ ENTRIES = subst (λ (v : TheMachine). v.calls + c.args.room ≤ ENTRIES) (sym c.self.view_is) c.requires in
    let carried : IsCarried (length i.processes.items) (packet g) = (m.to_within, m.from_within, m.other, m.first) in
    sound-wire i c.place.new.self c.in_ok-key.key None (Some (packet g)) c.self.invariant (omega (arith, calls)) (puts g) carried (keys-put i.wire c.place.new.self c.in_ok-key.key None (Some (packet g)) (puts g) (low g) c.self.invariant.keys)

pub returns-clause-step : goal.returns-clause-step
unfolding packet
returns-clause-step c =
    let g = (goal.at.returns-clause-step c).In_ok-key in
    let v = view_of c.self.inside in
    let m = may g in
    let accepted : (w : World) → Stands v w → refusal_of w c.args.room (Transmit c.args.from c.args.to c.args.ssn) ≡ None = rw c.self.view_is c.in_default.ensures.cause in
    let is : packet g ≡ Delivery c.args.to (record { sender = c.args.from; ssn = c.args.ssn; payload = payload_of c.args.ssn (queue_of c.args.to (log_at v c.args.from)) }) = ap (λ x. Delivery c.args.to (record { sender = c.args.from; ssn = c.args.ssn; payload = x })) (payload_is g) in
    rw (← c.self.view_is) (λ w s. transmitted v w s c.args.room c.in_ok-key.key (c.self.inside.calls + 1) c.place.new.self (packet g) (low g) (puts g) c.args.from c.args.to c.args.ssn (accepted w s) m.from_within m.to_within m.other m.up (logged g) is)
