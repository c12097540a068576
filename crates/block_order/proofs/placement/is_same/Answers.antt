use Rattle.std.proofs.Common.{◌≡◌, rules, ap, ◌∙◌}
use Rattle.std.proofs.lemmas.Int.{to_z-of_z}
use Rattle.std.proofs.lemmas.Result.{IfOk-weaker}
use mir.Val.{SFits}
use mir.Syntax.{w32}
use Rattle.decode.specs.Distance.{distance, with_distance}
use Rattle.block_order.proofs.placement.is_same.Goals as goal

pub returns-in-Some : goal.returns-in-Some
returns-in-Some c =
    let d = c.distance.result in
    let fits : SFits w32 d = search rules in
    let same : c.in-Some.same ≡ with_distance c.args.insn.now (distance c.args.other.now) =
    c.in-Some.ensures.1 ∙ ap (with_distance c.args.insn.now) (to_z-of_z w32 d fits ∙ c.distance.ensures) in
    IfOk-weaker c.is_one.result _ _ (λ is one h. one h ∙ same) c.is_one.ensures
