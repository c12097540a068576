-- Machine code of images of any form.
use Rattle.std.specs.Prelude.{ℕ, List}
use Rattle.decode.specs.declared.insn.Insn.{Insn}
use Rattle.decode.specs.Slots.{slots_of}
use Rattle.regtypes.specs.declared.image_form.ImageForm.TheVariants as two
use Rattle.verifier.specs.declared.file_form.FileForm.{FileForm}
use Rattle.verifier.specs.declared.file_form.FileForm.TheVariants.{Sbi1, Sbi2, Sbi3}
use Rattle.interp.specs.Image.{TheImage}
use Rattle.native.specs.Correct.{IsNative}
use Rattle.native.specs.SpanCorrect.{IsSpanNative}

-- these bytes are machine code of an image of this form
abbrev pub IsNativeIn : FileForm → List Insn → ℕ → List ℕ → Type 0
IsNativeIn Sbi1 code len bytes = IsNative two.Sbi1 (slots_of code) len bytes
IsNativeIn Sbi2 code len bytes = IsNative two.Sbi2 (slots_of code) len bytes
IsNativeIn Sbi3 code len bytes = IsSpanNative code len bytes

-- these bytes are machine code of the image
abbrev pub IsNativeOf : TheImage → List ℕ → Type 0
IsNativeOf image bytes = IsNativeIn image.form image.code image.len bytes
