use Rattle.std.proofs.Common.{arith, ◌≡◌, ◌+◌, subst, sym, ap, ◌∙◌, slice_index_or, length, true}
use Rattle.std.specs.Prelude.{Some, None, Err}
use Rattle.world.specs.declared.packet.Packet.TheVariants.{Number, Acknowledgement}
use Rattle.world.specs.declared.call.Call.TheVariants.{Arrive}
use Rattle.world.specs.declared.answer.Answer.TheVariants.{Numbered, Stale}
use Rattle.world.specs.Answers.{target_of}
use Rattle.session_process.specs.Process.{TheProcess}
use Rattle.session_process.specs.Wire.{Puts}
use Rattle.machine.specs.Fields.{IsCarried}
use Rattle.machine.specs.Reception.{Drops}
use Rattle.machine.specs.Simulation.{TheMachine, Steps, process_at, is_up_at}
use Rattle.machine.proofs.NumberArrivals.{number-past, number-unlogged, noted, records-else}
use Rattle.machine.proofs.Preservation.{later, carried-put, keys-put}
use Rattle.machine.proofs.Status.{key-low}
use Rattle.machine.proofs.machine.Machine.note.Goals as goal
use Rattle.machine.proofs.machine.Machine.note.Goals.{In-Number}

pub returns-then-incarnation-clause-step : goal.returns-then-incarnation-clause-step
returns-then-incarnation-clause-step c w s =
    let m = c.args.self.now in
    let n = c.in-Number in
    let d = c.drop_packet.ensures in
    let slots = c.drop_packet.new.self.slots in
    let carried : IsCarried (length m.processes) (Number n.receiver n.sender n.ssn n.rsn n.incarnation) = subst (IsCarried (length m.processes)) n.is c.requires.may.carried in
    let found : slice_index_or m.slots c.args.key None ≡ Some (Number n.receiver n.sender n.ssn n.rsn n.incarnation) = c.requires.may.found ∙ ap Some n.is in
    let up : is_up_at m n.sender ≡ true = subst (λ k. is_up_at m (target_of k) ≡ true) n.is c.requires.may.up in
    let puts : Puts m.slots slots c.args.key (Some (Number n.receiver n.sender n.ssn n.rsn n.incarnation)) None = subst (λ was. Puts m.slots slots c.args.key was None) found d.wire in
    let present : c.incarnation.result ≡ (process_at m n.receiver).incarnation = c.incarnation.ensures ∙ ap (λ (z : TheProcess). z.incarnation) c.process.ensures.value in
    subst (λ v. Steps m v c.args.room (Arrive c.args.key) Stale w) (sym d.others)
    (number-past m w s c.args.room c.args.key n.receiver n.sender n.ssn n.rsn n.incarnation (m.calls + 1) slots (c.requires.may.accepted w s) found carried.0 carried.1 carried.2 carried.3 up puts (λ e. c.if-incarnation.true (e ∙ sym present)))

pub returns-in-Err-NotLogged-clause-step : goal.returns-in-Err-NotLogged-clause-step
returns-in-Err-NotLogged-clause-step c w s =
    let m = c.args.self.now in
    let n = c.in-Number in
    let d : Drops m c.drop_packet-in-Err-NotLogged.new.self c.args.key = subst (λ v. Drops v c.drop_packet-in-Err-NotLogged.new.self c.args.key) c.in-Err-NotLogged.ensures.err c.drop_packet-in-Err-NotLogged.ensures in
    let slots = c.drop_packet-in-Err-NotLogged.new.self.slots in
    let carried : IsCarried (length m.processes) (Number n.receiver n.sender n.ssn n.rsn n.incarnation) = subst (IsCarried (length m.processes)) n.is c.requires.may.carried in
    let found : slice_index_or m.slots c.args.key None ≡ Some (Number n.receiver n.sender n.ssn n.rsn n.incarnation) = c.requires.may.found ∙ ap Some n.is in
    let up : is_up_at m n.sender ≡ true = subst (λ k. is_up_at m (target_of k) ≡ true) n.is c.requires.may.up in
    let puts : Puts m.slots slots c.args.key (Some (Number n.receiver n.sender n.ssn n.rsn n.incarnation)) None = subst (λ was. Puts m.slots slots c.args.key was None) found d.wire in
    subst (λ v. Steps m v c.args.room (Arrive c.args.key) Stale w) (sym d.others)
    (number-unlogged m w s c.args.room c.args.key n.receiver n.sender n.ssn n.rsn n.incarnation (m.calls + 1) slots (c.requires.may.accepted w s) found carried.0 carried.1 carried.2 carried.3 up puts (c.record.ensures.cause.0 (c.in-Err-NotLogged.is ∙ ap Err c.in-Err-NotLogged.field-0-is)))

pub invariant_of-self : goal.invariant_of-self
invariant_of-self c =
    let i = c.self.invariant in
    let m = c.args.self.now in
    let v = c.record.new.self in
    let n = c.in-Number in
    let else = records-else m v n.sender n.receiver n.ssn n.rsn c.in-Ok.ensures.ok in
    let count = length c.self.inside.processes.items in
    let carried : IsCarried (length m.processes) (Number n.receiver n.sender n.ssn n.rsn n.incarnation) = subst (IsCarried (length m.processes)) n.is c.requires.may.carried in
    let found : slice_index_or m.slots c.args.key None ≡ Some (Number n.receiver n.sender n.ssn n.rsn n.incarnation) = c.requires.may.found ∙ ap Some n.is in
    let up : is_up_at m n.sender ≡ true = subst (λ k. is_up_at m (target_of k) ≡ true) n.is c.requires.may.up in
    let wire : c.self.inside.wire ≡ m.slots = ap (λ (u : TheMachine). u.slots) c.self.view_is ∙ else.0 in
    let many : length m.processes ≡ count = sym (ap (λ (u : TheMachine). length u.processes) c.self.view_is ∙ else.2) in
    let calls : c.self.inside.calls ≡ m.calls = ap (λ (u : TheMachine). u.calls) c.self.view_is ∙ else.1 in
    let low = key-low c.self.inside.wire c.args.key _ i.keys (ap (λ ws. slice_index_or ws c.args.key None) wire ∙ found) in
    record {
      some = i.some;
      few = i.few;
      lengths = i.lengths;
      processes = λ p d e h. later count _ _ c.self.inside.calls _ (i.processes p d e h);
      outside = i.outside;
      calls = omega (arith, calls, c.requires.may.calls);
      started = omega (arith, i.started);
      inputs = λ d. omega (arith, i.inputs d);
      shown = omega (arith, i.shown);
      wire = carried-put c.self.inside.wire c.replace.new.self c.args.key _ _ c.replace.ensures count (carried.0, omega (arith, many, carried.1), carried.4) i.wire;
      keys = keys-put c.self.inside.wire c.replace.new.self c.args.key _ _ c.replace.ensures low i.keys;
    }

pub returns-in-Ok-clause-step : goal.returns-in-Ok-clause-step
returns-in-Ok-clause-step c w s =
    let m = c.args.self.now in
    let v = c.record.new.self in
    let n = c.in-Number in
    let slots = c.replace.new.self in
    let calls = c.self.inside.calls + 1 in
    let else = records-else m v n.sender n.receiver n.ssn n.rsn c.in-Ok.ensures.ok in
    let counted : c.self.inside.calls + 1 ≡ m.calls + 1 = ap (λ (u : TheMachine). u.calls + 1) c.self.view_is ∙ ap (λ k. k + 1) else.1 in
    let carried : IsCarried (length m.processes) (Number n.receiver n.sender n.ssn n.rsn n.incarnation) = subst (IsCarried (length m.processes)) n.is c.requires.may.carried in
    let found : slice_index_or m.slots c.args.key None ≡ Some (Number n.receiver n.sender n.ssn n.rsn n.incarnation) = c.requires.may.found ∙ ap Some n.is in
    let up : is_up_at m n.sender ≡ true = subst (λ k. is_up_at m (target_of k) ≡ true) n.is c.requires.may.up in
    let wire : c.self.inside.wire ≡ m.slots = ap (λ (u : TheMachine). u.slots) c.self.view_is ∙ else.0 in
    let low = key-low c.self.inside.wire c.args.key _ c.self.invariant.keys (ap (λ ws. slice_index_or ws c.args.key None) wire ∙ found) in
    let tells = Acknowledgement n.sender n.receiver n.rsn n.incarnation in
    let puts : Puts m.slots slots c.args.key (Some (Number n.receiver n.sender n.ssn n.rsn n.incarnation)) (Some tells) =
    subst (λ was. Puts m.slots slots c.args.key was (Some tells)) found (subst (λ ws. Puts ws slots c.args.key (slice_index_or ws c.args.key None) (Some tells)) wire c.replace.ensures) in
    let present : n.incarnation ≡ (process_at m n.receiver).incarnation = c.if-incarnation.false ∙ c.incarnation.ensures ∙ ap (λ (z : TheProcess). z.incarnation) c.process.ensures.value in
    let P : TheMachine → Type 0 = λ u. Steps m (record u { slots = slots; calls = calls }) c.args.room (Arrive c.args.key) (Numbered c.args.key) w in
    subst P (sym c.self.view_is)
    (noted m w s c.args.room c.args.key n.receiver n.sender n.ssn n.rsn n.incarnation calls slots (c.requires.may.accepted w s) found carried.0 carried.1 carried.2 carried.3 up present c.in-Ok.ensures.logged low puts v c.in-Ok.ensures.ok)
