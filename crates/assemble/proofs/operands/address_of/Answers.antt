use Rattle.std.proofs.Common.{ℤ, FitsSigned}
use Rattle.std.specs.Int.{w16}
use Rattle.decode.specs.declared.insn.Reg.{Reg}
use Rattle.assemble.proofs.Pairs.{no_brackets, no_offset, reads_address}
use Rattle.assemble.proofs.operands.address_of.Goals as goal

pub returns-in_default : goal.returns-in_default
returns-in_default c = no_brackets c.args.text.now c.in_default.ensures

pub returns-in_default-split_at_sign : goal.returns-in_default-split_at_sign
returns-in_default-split_at_sign c = no_offset c.args.text.now c.in-Some.inner.now c.in-Some.ensures c.in_default-split_at_sign.ensures

pub returns : goal.returns
returns c =
    let cut = c.in-Some-split_at_sign.ensures in
    reads_address c.args.text.now (λ (_ : Reg). Unit {0}) (λ (z : ℤ). FitsSigned w16 z) c.in-Some.inner.now c.in-Some-split_at_sign.base.now c.in-Some-split_at_sign.offset.now
    c.in-Some.ensures cut.0 cut.1 cut.2 c.register_of.result c.offset_of.result c.both.result c.both.ensures c.register_of.ensures c.offset_of.ensures
