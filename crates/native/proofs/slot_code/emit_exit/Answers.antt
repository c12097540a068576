use Rattle.std.proofs.Common.{◌+◌, ◌++◌, refl, ap, arith}
use Rattle.native.specs.SlotCode.{flushed}
use Rattle.native.specs.Openings.{leaving}
use Rattle.native.proofs.Emitted.{where_ok, some_then}
use Rattle.native.proofs.slot_code.emit_exit.Goals as goal

pub returns : goal.returns
returns c =
    let k = c.number_at.result + 1 in
    where_ok c.emit_leaving.result c.emit_leaving.ensures (λ e. (
      flushed k ++ leaving c.args.saved,
      record { k = k; is_are = refl; short = omega (arith, c.number_at.ensures, c.requires); sums = ap (λ x. x + 1) c.number_at.ensures },
      some_then c.args.code.now.items c.flush.new.code.items c.emit_leaving.new.code.items (flushed k) (leaving c.args.saved) c.in_ok-flush.ensures e,
    ))
