use Rattle.std.proofs.Common.{rules, ◌≡◌, ◌<◌, ◌≤◌, ◌+◌, ℕ, length, map, refl, sym, ap, ◌∙◌, subst, arith}
use Rattle.std.specs.Prelude.{Option, None, List, slice_index_or}
use Rattle.std.proofs.lemmas.Grind.{common_steps}
use Rattle.limits.specs.declared.TheConstants.{PACKETS, PROCESSES}
use Rattle.sender_log.specs.Log.{queue_of}
use Rattle.world.specs.declared.packet.Packet.{Packet}
use Rattle.session_process.specs.Outside.{TheOutside, empty_outside}
use Rattle.machine.specs.Fields.{AreCarried, IsLogOf}
use Rattle.machine.specs.Openings.{AreIdle}
use Rattle.machine.proofs.Openings.{opens, idle-sound, outside-sound, inputs-sound}
use Rattle.machine.proofs.machine.Machine.open.Goals as goal

pub invariant_of-result : goal.invariant_of-result
invariant_of-result c =
    let lengths = c.args.lengths.items in
    let xs = c.in_ok-processes.processes.items in
    let few : (0 < length lengths) × (length lengths ≤ PROCESSES) = first_of (search rules, grind (arith, common_steps)) in
    let count : c.len-count.result ≡ length lengths = first_of (search rules, grind (arith, common_steps)) in
    let idle = subst (λ (l : List ℕ). AreIdle (length l) l xs) c.as_slice.ensures.value c.in_ok-processes.ensures in
    let outside = c.in_ok-outside.ensures ∙ ap empty_outside count in
    record {
      some = omega (arith, idle.count, few.0);
      few = omega (arith, idle.count, few.1);
      lengths = sym idle.count;
      processes = idle-sound lengths xs idle;
      outside = subst (λ (o : TheOutside). IsLogOf (length xs) 0 o.log) (sym outside) (outside-sound lengths xs idle);
      calls = omega arith;
      started = omega arith;
      inputs = λ d. subst (λ (o : TheOutside). (queue_of d o.log).first + length (queue_of d o.log).payloads ≤ 1) (sym outside) (inputs-sound lengths xs idle d);
      shown = subst (λ (o : TheOutside). length o.shown ≤ 0) (sym outside) (omega arith);
      wire = subst (λ ws. AreCarried ws (length xs)) (sym c.new-2.ensures) (λ key k e. absurd (cc));
      keys = subst (λ (ws : List (Option Packet)). (key : ℕ) → PACKETS ≤ key → slice_index_or ws key None ≡ None) (sym c.new-2.ensures) (λ key h. refl);
    }

pub returns : goal.returns
returns c =
    let lengths = c.args.lengths.items in
    let few : (0 < length lengths) × (length lengths ≤ PROCESSES) = first_of (search rules, grind (arith, common_steps)) in
    let count : c.len-count.result ≡ length lengths = first_of (search rules, grind (arith, common_steps)) in
    let idle = subst (λ (l : List ℕ). AreIdle (length l) l c.in_ok-processes.processes.items) c.as_slice.ensures.value c.in_ok-processes.ensures in
    let outside = c.in_ok-outside.ensures ∙ ap empty_outside count in
    rw (outside, c.new-2.ensures) (few, refl, refl, opens lengths c.in_ok-processes.processes.items idle)
