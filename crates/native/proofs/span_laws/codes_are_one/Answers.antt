use Rattle.std.proofs.Common.{sym, ◌∙◌, subst}
use Rattle.native.specs.HandlerCode.{IsCodeIn}
use Rattle.native.proofs.AnyForm.{one_in}
use Rattle.native.proofs.span_laws.codes_are_one.Goals as goal

pub returns : goal.returns
returns c = λ same.
    let image = c.args.one.now.image in
    let mine = c.bytes-mine.ensures in
    let its = c.bytes-its.ensures in
    sym mine.bytes
    ∙ one_in image.form image.code image.len c.bytes-mine.result.now c.bytes-its.result.now mine.code.written (subst (λ i. IsCodeIn i.form i.code i.len c.bytes-its.result.now) (sym same) its.code.written)
    ∙ its.bytes
