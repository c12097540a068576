use Rattle.std.proofs.Common.{◌+◌, ◌++◌, refl, ap, subst}
use Rattle.native.specs.SlotCode.{flushed, skipped, Counts, Reaches}
use Rattle.native.proofs.Emitted.{where_ok, three_then}
use Rattle.native.proofs.slot_code.emit_plain.Goals as goal

pub returns : goal.returns
returns c =
    let old = c.args.code.now.items in
    let k = c.count-steps.result in
    let d = c.distance-past.result in
    let x = c.in_ok-emit_done.ensures in
    let t = ap (λ n. c.args.slot + n) c.taken.ensures.value in
    where_ok c.skip.result c.skip.ensures (λ e. (
      x.0 ++ (flushed k ++ skipped d),
      record {
        bs = x.0;
        k = k;
        d = d;
        done = x.1;
        is_are = refl;
        counts = subst (λ n. Counts c.args.pending.now c.args.slot n k) t c.count-steps.ensures;
        reaches = subst (λ n. Reaches c.args.tails.now c.args.slot n d) t c.distance-past.ensures;
        short = c.body_of-short.ensures.short;
      },
      three_then old c.emit_done.new.code.items c.flush.new.code.items c.skip.new.code.items x.0 (flushed k) (skipped d) x.2 c.in_ok-flush.ensures e,
    ))
