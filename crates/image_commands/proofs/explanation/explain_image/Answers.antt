use Rattle.std.proofs.Common.{◌∙◌, subst, string_bytes}
use Rattle.verifier.specs.AnyFile.{IsUnread}
use Rattle.listing.specs.FileListing.{IsFileExplained}
use Rattle.image_commands.proofs.FaultLemmas.{becomes, read_fault}
use Rattle.image_commands.proofs.HeadLemmas.{any_explained, any_unread}
use Rattle.image_commands.proofs.explanation.explain_image.Goals as goal

pub returns-in_err-text-clause-fault : goal.returns-in_err-text-clause-fault
returns-in_err-text-clause-fault g c =
    becomes c.from_residual-in_err-text.result _ _ c.from_residual-in_err-text.ensures.1
    (λ f is. read_fault IsUnread any_unread (g.F.Files.content c.args.files.now) (g.F.Files.failed c.read.new.files) c.args.path.now c.as_slice.result.now c.in_err-text.field-0.0 f
    (λ known there. c.as_slice.ensures.value ∙ c.in_ok-bytes.ensures.bytes known there) c.in_err-text.ensures.refused is)

pub returns-clause-listing : goal.returns-clause-listing
returns-clause-listing g c = λ known there.
    let text = string_bytes c.in_ok-text.text in
    any_explained known text (subst (λ b. IsFileExplained b text) (c.as_slice.ensures.value ∙ c.in_ok-bytes.ensures.bytes known there) c.in_ok-text.ensures.listing)
