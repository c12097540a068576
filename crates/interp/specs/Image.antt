-- What sessions see of a handler.
use Rattle.std.specs.Prelude.{ℕ, List}
use Rattle.std.specs.Arc.{arc_value}
use Rattle.std.specs.declared.sync.Arc.{Arc}
use Rattle.decode.specs.declared.insn.Insn.{Insn}
use Rattle.verifier.specs.declared.any_image.AnyImage.{AnyImage}
use Rattle.verifier.specs.declared.file_form.FileForm.{FileForm}
use Rattle.verifier.specs.AnyImage.{code_of, form_of, state_of}
use Rattle.interp.specs.declared.handler.Handler.{Handler}
use Rattle.interp.specs.Handler.{image_of}

-- the form of its image, the instructions, and the state's length
pub record TheImage : Type 0 where
  pub form : FileForm
  pub code : List Insn
  pub len : ℕ

-- those of an image
abbrev pub as_image : AnyImage → TheImage
as_image image = record { form = form_of image; code = code_of image; len = state_of image }

-- those of a handler
abbrev pub the_image : Handler → TheImage
the_image handler = as_image (image_of handler)

-- those of a handler that several share
abbrev pub image_in : {Z : Type 0} → Arc Handler Z → TheImage
image_in shared = the_image (arc_value shared)
