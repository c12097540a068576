use Rattle.std.proofs.Common.{[], ◌∷◌, ◌+◌, ◌++◌, ap, ◌∙◌}
use Rattle.x86.specs.declared.instruction.Instr.TheVariants as instr
use Rattle.native.specs.Code.{codes}
use Rattle.native.specs.Quotient.{divisor_test, division_code, width_size}
use Rattle.native.proofs.Emitted.{where_ok, three_then}
use Rattle.native.proofs.quotient.write_quotient.Goals as goal

pub returns : goal.returns
returns c =
    let a = c.args in
    let old = a.code.now.items in
    let first = c.in_ok-write_divisor.ensures ∙ ap (λ k. old ++ codes (a.first ∷ divisor_test a.width 0 (20 + k))) c.width_size.ensures.value in
    where_ok c.write_all.result c.write_all.ensures
    (three_then old c.write_divisor.new.code.items c.write_division.new.code.items c.write_all.new.code.items (a.first ∷ divisor_test a.width 0 (20 + width_size a.width)) (division_code a.to a.from (instr.MovImm 2 0) (instr.Div a.width 1)) (instr.JumpShort a.size ∷ a.none ∷ []) first c.in_ok-write_division.ensures)
