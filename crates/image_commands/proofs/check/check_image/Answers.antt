use Rattle.std.proofs.Common.{◌∙◌, subst}
use Rattle.verifier.specs.AnyImage.{code_of, form_of, state_of}
use Rattle.verifier.specs.AnyFile.{IsFile, IsRefusal}
use Rattle.image_commands.proofs.FaultLemmas.{becomes, read_fault}
use Rattle.image_commands.proofs.HeadLemmas.{any_file, any_refusal}
use Rattle.image_commands.proofs.check.check_image.Goals as goal

pub returns-in_err-image-clause-fault : goal.returns-in_err-image-clause-fault
returns-in_err-image-clause-fault g c =
    becomes c.from_residual-in_err-image.result _ _ c.from_residual-in_err-image.ensures.1
    (λ f is. read_fault IsRefusal any_refusal (g.F.Files.content c.args.files.now) (g.F.Files.failed c.read.new.files) c.args.path.now c.as_slice.result.now c.in_err-image.field-0.0 f
    (λ known there. c.as_slice.ensures.value ∙ c.in_ok-bytes.ensures.bytes known there) c.in_err-image.ensures.refused is)

pub returns-clause-accepted : goal.returns-clause-accepted
returns-clause-accepted g c = λ known there.
    let image = c.in_ok-image.image in
    record {
      form = form_of image;
      code = code_of image;
      len = state_of image;
      file = any_file (form_of image) (code_of image) (state_of image) known
          (subst (IsFile (form_of image) (code_of image) (state_of image)) (c.as_slice.ensures.value ∙ c.in_ok-bytes.ensures.bytes known there) c.in_ok-image.ensures.found);
      typable = c.in_ok-image.ensures.typable;
      counted = c.count-count.ensures;
    }
