use Rattle.std.proofs.Common.{[], ◌∷◌, ◌+◌}
use Rattle.x86.specs.declared.instruction.Instr.TheVariants as instr
use Rattle.native.specs.Quotient.{division_code}
use Rattle.native.proofs.Emitted.{where_ok, some_then}
use Rattle.native.proofs.quotient.write_signed_ways.Goals as goal

pub returns : goal.returns
returns c =
    let a = c.args in
    let w = a.ways in
    where_ok c.write_all.result c.write_all.ensures
    (some_then a.code.now.items c.write_division.new.code.items c.write_all.new.code.items (division_code a.to a.from (instr.Spread a.width) (instr.SignedDiv a.width 1)) (instr.JumpShort (w.minus_size + 2 + w.none_size) ∷ w.minus ∷ instr.JumpShort w.none_size ∷ w.none ∷ []) c.in_ok-write_division.ensures)
