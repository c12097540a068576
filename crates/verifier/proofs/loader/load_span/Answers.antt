use Rattle.std.proofs.Common.{◌≡◌, ◌∙◌, refl}
use Rattle.std.proofs.lemmas.Result.{IfErr-weaker, IfOk-weaker}
use Rattle.verifier.specs.declared.fault.ImageError.TheVariants.{Memory}
use Rattle.verifier.specs.declared.file_form.FileForm.TheVariants.{Sbi3}
use Rattle.verifier.specs.declared.header.Forms.TheVariants.{Span}
use Rattle.verifier.specs.ImageFile.{IsRefusal}
use Rattle.verifier.specs.Span.Typed.{IsImageOf}
use Rattle.verifier.proofs.Files.{file_once, refused_memory}
use Rattle.verifier.proofs.loader.load_span.Goals as goal

pub returns-clause-only : goal.returns-clause-only
returns-clause-only c = λ code len f t.
    let o = c.in_ok-code in
    let e = c.span_image.ensures in
    let k = file_once Sbi3 Sbi3 o.code.items code o.state_len len c.args.bytes.now o.ensures.found f in (
      IfOk-weaker c.span_image.result (IsImageOf o.code.items o.state_len) (IsImageOf code len) (λ image h. record { code_is = h.code_is ∙ k.0; len_is = h.len_is ∙ k.1; typable = t }) e.image,
      IfErr-weaker c.span_image.result (IsRefusal Span c.args.bytes.now) (λ e. e ≡ Memory) (λ e h. refused_memory Span Sbi3 code len c.args.bytes.now e refl f t h) (e.refused Span refl),
    )
