use Rattle.std.proofs.Common.{◌≡◌, Some, rules, subst, sym, ap, ◌∙◌}
use Rattle.std.proofs.lemmas.Int.{to_z-of_z}
use mir.Val.{SFits}
use mir.Syntax.{w32}
use Rattle.decode.specs.Slots.{insn_at}
use Rattle.decode.specs.Distance.{distance}
use Rattle.block_order.specs.Placement.{WaysArrive, place_at}
use Rattle.decode.specs.Distance.{with_distance}
use Rattle.block_order.proofs.placement.stands.Goals as goal

pub returns : goal.returns
returns c = λ h.
    let insn = c.in-Some-Some.insn in
    let moved = c.in-Some-Some.moved in
    let fits : SFits w32 c.distance-by.result = search rules in
    let by = to_z-of_z w32 c.distance-by.result fits ∙ c.distance-by.ensures in
    let w = c.ways_arrive.ensures h in
    let same : moved ≡ with_distance insn (distance moved) = search rules in
    record {
      insn = insn;
      there = sym c.insn_at.ensures ∙ c.in-Some-Some.is-0;
      by = distance moved;
      moved = sym c.insn_at-2.ensures ∙ c.in-Some-Some.is-1 ∙ ap Some same;
      ways = subst (λ f. WaysArrive (insn_at c.args.other.now) (place_at c.args.places.now) c.args.slot f c.args.place (distance moved)) c.flow_from-flow.ensures
          (subst (λ z. WaysArrive (insn_at c.args.other.now) (place_at c.args.places.now) c.args.slot c.flow_from-flow.result c.args.place z) by w);
    }
