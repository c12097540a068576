use Rattle.std.proofs.Common.{◌≡◌, ◌<◌, ◌≤◌, ℕ, List, Option, subst, ap, ◌∙◌}
use Rattle.std.proofs.lemmas.Result.{IfOk-weaker}
use Rattle.limits.specs.declared.TheConstants.{SLOTS}
use Rattle.decode.specs.declared.insn.Insn.{Insn}
use Rattle.decode.specs.Slots.{insn_at, slots, slots_of}
use Rattle.block_order.specs.Placement.{IsPlacement, place_at}
use Rattle.block_order.specs.Order.{IsForward, code_of}
use Rattle.block_order.proofs.order.is_moved.Goals as goal

placed_by : (code insns : List Insn) (of other : List (Option Insn)) (places to : List (Option ℕ)) → of ≡ slots_of code → other ≡ slots_of insns → places ≡ to
    → IsPlacement (insn_at of) (insn_at other) (place_at places) → IsPlacement (code_of code) (code_of insns) (place_at to)
placed_by code insns of other places to e f g h =
    subst (λ (x : List (Option ℕ)). IsPlacement (code_of code) (code_of insns) (place_at x)) g
    (subst (λ (x : List (Option Insn)). IsPlacement (insn_at x) (code_of insns) (place_at places)) e
    (subst (λ (x : List (Option Insn)). IsPlacement (insn_at of) (insn_at x) (place_at places)) f h))

pub returns-in-Ok : goal.returns-in-Ok
returns-in-Ok c =
    let insns = c.args.placed.now.insns.items in
    let same : c.as_slice-insns.result.now ≡ insns = c.as_slice-insns.ensures.value in
    let other : c.as_slice.result.now ≡ slots_of insns = c.as_slice.ensures.value ∙ c.in-Ok.ensures.slots ∙ ap slots_of same in
    let short : IsForward insns × (0 < slots insns) × (slots insns ≤ SLOTS) =
    subst (λ (x : List Insn). IsForward x × (0 < slots x) × (slots x ≤ SLOTS)) same (c.goes_forward.ensures c.if-not-goes_forward.false) in
    IfOk-weaker c.is_placement.result _ _
    (λ is found h. record {
      placed = placed_by c.args.code.now insns c.args.slots.now c.as_slice.result.now c.as_slice-in-Ok.result.now c.args.placed.now.places.items
          c.requires other c.as_slice-in-Ok.ensures.value (found h);
      forward = short.0;
      some = short.1;
      short = short.2;
    }) c.is_placement.ensures
