use Rattle.std.proofs.Common.{[], ◌∷◌, ◌+◌, ◌++◌, refl, ap, ◌∙◌, sym}
use Rattle.native.specs.Code.{codes}
use Rattle.native.specs.SlotCode.{flushed, jump_if_code}
use Rattle.native.specs.Comparison.{condition_of, compare_code}
use Rattle.native.proofs.Emitted.{where_ok, some_then}
use Rattle.native.proofs.slot_code.emit_branch.Goals as goal

pub returns : goal.returns
returns c =
    let a = c.args in
    let k = c.count-steps.result in
    let d = c.distance-distance.result in
    let mid = c.flush.new.code.items in
    let i = compare_code a.condition a.width a.dst.number a.operand in
    let j = jump_if_code (condition_of a.condition) d in
    let written =
    ap (λ i. mid ++ codes (i ∷ c.jump_if_code-jump.result ∷ [])) c.compare_code.ensures.value
    ∙ ap (λ j. mid ++ codes (i ∷ j ∷ [])) (c.jump_if_code-jump.ensures ∙ ap (λ x. jump_if_code x d) c.condition_of.ensures) in
    where_ok c.write_all.result c.write_all.ensures (λ e. (
      flushed k ++ i ∷ j ∷ [],
      record {
        k = k;
        d = d;
        is_are = refl;
        passes = c.count-steps.ensures;
        takes = record { short = c.count-steps.ensures.short; sums = ap (λ n. k + n) (sym c.requires.balanced.1) ∙ c.count-steps.ensures.sums };
        reaches = c.distance-distance.ensures;
        short = c.compare_code.ensures.short;
      },
      some_then a.code.now.items mid c.write_all.new.code.items (flushed k) (i ∷ j ∷ []) c.in_ok-flush.ensures (e ∙ written),
    ))
