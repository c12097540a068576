use Rattle.std.proofs.Common.{◌≡◌, ℕ, List, subst}
use Rattle.std.proofs.lemmas.Result.{IfErr-weaker, IfOk-weaker}
use Rattle.decode.specs.declared.insn.Insn.{Insn}
use Rattle.regtypes.specs.declared.image_form.ImageForm.{ImageForm}
use Rattle.verifier.specs.declared.fault.ImageError.TheVariants.{Memory}
use Rattle.verifier.specs.declared.header.Forms.TheVariants.{Flat}
use Rattle.verifier.specs.FileForm.{file_form_of}
use Rattle.verifier.specs.ImageFile.{IsRefusal}
use Rattle.verifier.specs.Verdict.{IsImageOf}
use Rattle.verifier.proofs.Files.{file_once, flat_once, flat_taken, refused_memory}
use Rattle.verifier.proofs.loader.load.Goals as goal

pub returns-clause-only : goal.returns-clause-only
returns-clause-only c = λ form code len f t.
    let o = c.in_ok-code in
    let e = c.flat_image.ensures in
    let k = file_once (file_form_of o.form) (file_form_of form) o.code.items code o.state_len len c.args.bytes.now o.ensures.found f in (
      IfOk-weaker c.flat_image.result (IsImageOf o.form o.code.items o.state_len) (IsImageOf form code len)
          (λ image h. subst (λ (q : ImageForm). IsImageOf q code len image) (flat_once o.form form k.2) (subst (λ (x : ℕ). IsImageOf o.form code x image) k.1 (subst (λ (l : List Insn). IsImageOf o.form l o.state_len image) k.0 h))) e.image,
      IfErr-weaker c.flat_image.result (IsRefusal Flat c.args.bytes.now) (λ e. e ≡ Memory) (λ e h. refused_memory Flat (file_form_of form) code len c.args.bytes.now e (flat_taken form) f t h) (e.refused Flat (flat_taken o.form)),
    )
