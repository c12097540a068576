-- What a contract sees of an image of any form.
use Rattle.std.specs.Prelude.{◌≡◌, ℕ, List}
use Rattle.decode.specs.declared.insn.Insn.{Insn}
use Rattle.verifier.specs.FileForm.{file_form_of}
use Rattle.verifier.specs.declared.any_image.AnyImage.{AnyImage}
use Rattle.verifier.specs.declared.any_image.AnyImage.TheVariants.{Flat, Span}
use Rattle.verifier.specs.declared.file_form.FileForm.{FileForm}
use Rattle.verifier.specs.declared.file_form.FileForm.TheVariants.{Sbi3}

-- its form
abbrev pub form_of : AnyImage → FileForm
form_of (Flat image) = file_form_of image.form
form_of (Span image) = Sbi3

-- its instructions
abbrev pub code_of : AnyImage → List Insn
code_of (Flat image) = image.code
code_of (Span image) = image.code

-- the length of its state
abbrev pub state_of : AnyImage → ℕ
state_of (Flat image) = image.len
state_of (Span image) = image.len

-- it is of this form, and has this code and a state of this length
pub record IsImageOf (form : FileForm) (code : List Insn) (len : ℕ) (image : AnyImage) : Type 0 where
  pub form_is : form_of image ≡ form
  pub code_is : code_of image ≡ code
  pub len_is : state_of image ≡ len
