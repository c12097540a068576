use Rattle.std.proofs.Common.{refl}
use Rattle.verifier.specs.declared.file_form.FileForm.TheVariants.{Sbi3}
use Rattle.verifier.specs.declared.header.Forms.TheVariants.{Span}
use Rattle.verifier.proofs.Files.{file_once, unread_memory}
use Rattle.verifier.proofs.loader.span_parts.Goals as goal

pub returns-in-Ok-clause-only : goal.returns-in-Ok-clause-only
returns-in-Ok-clause-only c = λ code len f.
    let o = c.in-Ok in
    let k = file_once o.field-0-2 Sbi3 o.code.items code o.state_len len c.args.bytes.now o.ensures.found f in
    ((k.0, k.1), tt)

pub returns-in-Err-clause-only : goal.returns-in-Err-clause-only
returns-in-Err-clause-only c = λ code len f. (tt, unread_memory Span Sbi3 code len c.args.bytes.now c.in-Err.error refl f c.in-Err.ensures.refused)
