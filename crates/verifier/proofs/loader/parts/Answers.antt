use Rattle.std.proofs.Common.{◌∙◌}
use Rattle.verifier.specs.declared.header.Forms.TheVariants.{Flat}
use Rattle.verifier.specs.FileForm.{file_form_of}
use Rattle.verifier.proofs.Files.{file_once, flat_once, flat_taken, unread_memory}
use Rattle.verifier.proofs.loader.parts.Goals as goal

pub returns-in-Ok-clause-only : goal.returns-in-Ok-clause-only
returns-in-Ok-clause-only c = λ form code len f.
    let o = c.in-Ok in
    let k = file_once o.form (file_form_of form) o.code.items code o.state_len len c.args.bytes.now o.ensures.found f in
    ((k.0, k.1, flat_once c.flat_form.result form (c.flat_form.ensures ∙ k.2)), tt)

pub returns-in-Err-clause-only : goal.returns-in-Err-clause-only
returns-in-Err-clause-only c = λ form code len f.
    (tt, unread_memory Flat (file_form_of form) code len c.args.bytes.now c.in-Err.error (flat_taken form) f c.in-Err.ensures.refused)
