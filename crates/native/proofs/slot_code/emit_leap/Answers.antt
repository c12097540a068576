use Rattle.std.proofs.Common.{[], ◌∷◌, ◌++◌, refl, ap, ◌∙◌}
use Rattle.native.specs.Code.{codes}
use Rattle.native.specs.SlotCode.{flushed, jump_code}
use Rattle.native.proofs.Emitted.{where_ok, some_then}
use Rattle.native.proofs.slot_code.emit_leap.Goals as goal

pub returns : goal.returns
returns c =
    let k = c.count-steps.result in
    let d = c.distance-distance.result in
    let mid = c.flush.new.code.items in
    let j = jump_code d ∷ [] in
    where_ok c.write_all.result c.write_all.ensures (λ e. (
      flushed k ++ j,
      record { k = k; d = d; is_are = refl; takes = c.count-steps.ensures; reaches = c.distance-distance.ensures },
      some_then c.args.code.now.items mid c.write_all.new.code.items (flushed k) j c.in_ok-flush.ensures (e ∙ ap (λ i. mid ++ codes (i ∷ [])) c.jump_code.ensures),
    ))
