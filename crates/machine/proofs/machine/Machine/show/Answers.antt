use Rattle.std.proofs.Common.{arith, ◌≡◌, ◌<◌, ◌+◌, ◌++◌, ◌∷◌, [], subst, sym, ap, ◌∙◌, slice_index_or, length, length-append}
use Rattle.std.specs.Prelude.{Some, None}
use Rattle.limits.specs.declared.TheConstants.{ENTRIES}
use Rattle.sender_log.specs.Log.{queue_of}
use Rattle.world.specs.declared.packet.Packet.TheVariants.{Delivery}
use Rattle.world.specs.declared.call.Call.TheVariants.{Arrive}
use Rattle.world.specs.declared.answer.Answer.TheVariants.{Shown, ShownBefore, Early}
use Rattle.session_process.specs.Outside.{TheOutside}
use Rattle.session_process.specs.Wire.{Puts}
use Rattle.machine.specs.Fields.{view_of, IsLogOf}
use Rattle.machine.specs.Simulation.{TheMachine, Steps}
use Rattle.machine.proofs.Arrivals.{early, shown, shown_before}
use Rattle.machine.proofs.Preservation.{later, carried-put, keys-gone}
use Rattle.machine.proofs.machine.Machine.show.Goals as goal

pub invariant_of-self-in-Next : goal.invariant_of-self-in-Next
invariant_of-self-in-Next c =
    let i = c.self.invariant in
    let n = length c.self.inside.processes.items in
    let o_is = c.in_ok-show-in-Next.ensures.ok in
    let x = c.args.message in
    let calls : c.self.inside.calls < ENTRIES = subst (λ (v : TheMachine). v.calls < ENTRIES) (sym c.self.view_is) c.requires.calls in
    let more : length c.show.new.self.shown ≡ length c.self.inside.outside.shown + 1 = ap (λ (o : TheOutside). length o.shown) o_is ∙ length-append c.self.inside.outside.shown (x ∷ []) in
    record {
      some = i.some;
      few = i.few;
      lengths = i.lengths;
      processes = λ p d e h. later n _ _ c.self.inside.calls _ (i.processes p d e h);
      outside = subst (λ (o : TheOutside). IsLogOf n 0 o.log) (sym o_is) i.outside;
      calls = omega (arith, calls);
      started = omega (arith, i.started);
      inputs = λ d. let e = ap (λ (o : TheOutside). (queue_of d o.log).first + length (queue_of d o.log).payloads) o_is in omega (arith, i.inputs d, e);
      shown = omega (arith, i.shown, more);
      wire = carried-put c.self.inside.wire c.remove.new.self c.args.key _ _ c.remove.ensures n tt i.wire;
      keys = keys-gone c.self.inside.wire c.remove.new.self c.args.key _ c.remove.ensures i.keys;
    }

pub returns-in_ok-show-in-Next-clause-step : goal.returns-in_ok-show-in-Next-clause-step
returns-in_ok-show-in-Next-clause-step c w s =
    let m = c.args.self.now in
    let x = c.args.message in
    let slots = c.remove.new.self in
    let v = view_of c.self.inside in
    let wire = ap (λ (v : TheMachine). v.slots) c.self.view_is in
    let puts : Puts m.slots slots c.args.key (Some (Delivery 0 x)) None =
    subst (λ was. Puts m.slots slots c.args.key was None) c.requires.found (subst (λ ws. Puts ws slots c.args.key (slice_index_or ws c.args.key None) None) wire c.remove.ensures) in
    let P : TheMachine → Type 0 = λ v. Steps m (record v { outside = record v.outside { shown = v.outside.shown ++ x ∷ [] }; slots = slots; calls = v.calls + 1 }) c.args.room (Arrive c.args.key) (Shown x.ssn) w in
    subst (λ o. Steps m (record v { outside = o; slots = slots; calls = v.calls + 1 }) c.args.room (Arrive c.args.key) (Shown x.ssn) w) (sym c.in_ok-show-in-Next.ensures.ok)
    (subst P (sym c.self.view_is) (shown m w s c.args.room c.args.key (m.calls + 1) x slots (c.requires.accepted w s) c.requires.found puts (c.in-Next.ensures.verdict w s)))

pub returns-in-Duplicate-clause-step : goal.returns-in-Duplicate-clause-step
returns-in-Duplicate-clause-step c w s =
    let m = c.args.self.now in
    let d = c.drop_packet.ensures in
    let slots = c.drop_packet.new.self.slots in
    let puts : Puts m.slots slots c.args.key (Some (Delivery 0 c.args.message)) None = subst (λ was. Puts m.slots slots c.args.key was None) c.requires.found d.wire in
    subst (λ v. Steps m v c.args.room (Arrive c.args.key) ShownBefore w) (sym d.others)
    (shown_before m w s c.args.room c.args.key (m.calls + 1) c.args.message slots (c.requires.accepted w s) c.requires.found puts (c.in-Duplicate.ensures.verdict w s).0)

pub returns-in-Early-clause-step : goal.returns-in-Early-clause-step
returns-in-Early-clause-step c w s =
    let m = c.args.self.now in
    let d = c.drop_packet-in-Early.ensures in
    let slots = c.drop_packet-in-Early.new.self.slots in
    let puts : Puts m.slots slots c.args.key (Some (Delivery 0 c.args.message)) None = subst (λ was. Puts m.slots slots c.args.key was None) c.requires.found d.wire in
    subst (λ v. Steps m v c.args.room (Arrive c.args.key) Early w) (sym d.others)
    (early m w s c.args.room c.args.key 0 (m.calls + 1) c.args.message slots (c.requires.accepted w s) c.requires.found (omega arith) c.requires.up puts (c.in-Early.ensures.verdict w s))
