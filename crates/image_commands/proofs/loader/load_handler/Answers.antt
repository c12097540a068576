use Rattle.std.proofs.Common.{◌∙◌, inl, subst}
use Rattle.verifier.specs.AnyFile.{IsFile}
use Rattle.interp.specs.Image.{the_image}
use Rattle.image_commands.proofs.FaultLemmas.{becomes, handler_refused, plain_of}
use Rattle.image_commands.proofs.HeadLemmas.{any_file}
use Rattle.image_commands.proofs.loader.load_handler.Goals as goal

pub returns-in_err-bytes-clause-fault : goal.returns-in_err-bytes-clause-fault
returns-in_err-bytes-clause-fault g c =
    becomes c.from_residual.result _ _ c.from_residual.ensures.1
    (λ f is. inl (plain_of (g.F.Files.failed c.read.new.files) c.in_err-bytes.field-0.0 f c.in_err-bytes.ensures.fault is))

pub returns-in_err-handler-clause-fault : goal.returns-in_err-handler-clause-fault
returns-in_err-handler-clause-fault g c =
    becomes c.from_residual-in_err-handler.result _ _ c.from_residual-in_err-handler.ensures.1
    (λ f is. handler_refused (g.F.Files.content c.args.files.now) (g.F.Files.failed c.read.new.files) c.args.path.now c.as_slice.result.now c.in_err-handler.field-0.0 f
    (λ known there. c.as_slice.ensures.value ∙ c.in_ok-bytes.ensures.bytes known there) c.in_err-handler.ensures.refused is)

pub returns-clause-loaded : goal.returns-clause-loaded
returns-clause-loaded g c = λ known there.
    let image = the_image c.in_ok-handler.handler in (
      any_file image.form image.code image.len known
          (subst (IsFile image.form image.code image.len) (c.as_slice.ensures.value ∙ c.in_ok-bytes.ensures.bytes known there) c.in_ok-handler.ensures.found),
      c.in_ok-handler.ensures.typable,
    )
