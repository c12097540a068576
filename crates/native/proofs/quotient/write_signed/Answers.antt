use Rattle.std.proofs.Common.{[], ◌∷◌, ◌+◌, ◌-◌, ◌*◌, ◌^◌, ◌++◌}
use Rattle.x86.specs.declared.instruction.Instr.TheVariants as instr
use Rattle.native.specs.Quotient.{divisor_test, division_code, width_size}
use Rattle.native.proofs.Emitted.{where_ok, some_then}
use Rattle.native.proofs.quotient.write_signed.Goals as goal

pub returns : goal.returns
returns c =
    let a = c.args in
    let w = a.ways in
    where_ok c.write_signed_ways.result c.write_signed_ways.ensures
    (some_then a.code.now.items c.write_signed_tests.new.code.items c.write_signed_ways.new.code.items
    (a.first ∷ divisor_test a.width 0 (w.minus_size + 23 + 3 * width_size a.width) ++ divisor_test a.width (2 ^ 64 - 1) (16 + 2 * width_size a.width))
    (division_code a.to a.from (instr.Spread a.width) (instr.SignedDiv a.width 1) ++ instr.JumpShort (w.minus_size + 2 + w.none_size) ∷ w.minus ∷ instr.JumpShort w.none_size ∷ w.none ∷ [])
    c.in_ok-write_signed_tests.ensures)
