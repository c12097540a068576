-- The form of an image file (docs/FORMATS.md, "Image file").
use Rattle.std.specs.Prelude.{ℕ}
use Rattle.regtypes.specs.declared.image_form.ImageForm.{ImageForm}
use Rattle.regtypes.specs.declared.image_form.ImageForm.TheVariants as two
use Rattle.verifier.specs.declared.file_form.FileForm.{FileForm}
use Rattle.verifier.specs.declared.file_form.FileForm.TheVariants.{Sbi1, Sbi2, Sbi3}

-- its number
abbrev pub file_form_number : FileForm → ℕ
file_form_number Sbi1 = 1
file_form_number Sbi2 = 2
file_form_number Sbi3 = 3

-- form 1 or 2 as one of the three
abbrev pub file_form_of : ImageForm → FileForm
file_form_of two.Sbi1 = Sbi1
file_form_of two.Sbi2 = Sbi2
