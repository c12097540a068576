use Rattle.std.proofs.Common.{[], ◌∷◌, ◌+◌, ◌-◌, ◌++◌, refl, arith}
use Rattle.native.specs.SlotCode.{flushed, skipped}
use Rattle.native.proofs.Emitted.{where_ok, three_then}
use Rattle.native.proofs.slot_code.emit_fused.Goals as goal

pub returns : goal.returns
returns c =
    let a = c.args in
    let k = c.number_at.result + 2 - c.number_at-2.result in
    let d = c.distance-past.result in
    let here = c.number_at.ensures in
    let there = c.number_at-2.ensures in
    where_ok c.skip.result c.skip.ensures (λ e. (
      a.instr ∷ (flushed k ++ skipped d),
      record {
        k = k;
        d = d;
        is_are = refl;
        few = omega (arith, here, there, c.requires.small);
        sums = omega (arith, here, there, c.requires.balanced);
        reaches = c.distance-past.ensures;
        short = c.body_of-short.ensures.short;
      },
      three_then a.code.now.items c.write_all.new.code.items c.flush.new.code.items c.skip.new.code.items (a.instr ∷ []) (flushed k) (skipped d) c.in_ok-write_all.ensures c.in_ok-flush.ensures e,
    ))
