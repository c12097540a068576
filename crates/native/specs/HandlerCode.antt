-- Machine code as a value: its image, and its bytes.
use Rattle.std.specs.Prelude.{◌≡◌, ℕ, List}
use Rattle.decode.specs.declared.insn.Insn.{Insn}
use Rattle.decode.specs.Slots.{slots_of}
use Rattle.regtypes.specs.declared.image_form.ImageForm.TheVariants as two
use Rattle.verifier.specs.declared.file_form.FileForm.{FileForm}
use Rattle.verifier.specs.declared.file_form.FileForm.TheVariants.{Sbi1, Sbi2, Sbi3}
use Rattle.verifier.specs.AnyFile.{IsTypable}
use Rattle.interp.specs.Image.{TheImage}
use Rattle.native.specs.Written as flat
use Rattle.native.specs.SpanWritten as span
use Rattle.native.specs.AnyForm.{IsNativeOf}

-- the image, and the bytes of its machine code
pub record TheCode : Type 0 where
  pub image : TheImage
  pub bytes : List ℕ

-- these are the bytes of the tasks of the slots, in this form
abbrev pub IsCodeIn : FileForm → List Insn → ℕ → List ℕ → Type 0
IsCodeIn Sbi1 code len bytes = flat.IsCodeOf two.Sbi1 (slots_of code) len bytes
IsCodeIn Sbi2 code len bytes = flat.IsCodeOf two.Sbi2 (slots_of code) len bytes
IsCodeIn Sbi3 code len bytes = span.IsCodeOf code len bytes

-- the image's code is typable, these bytes do what its handler does, and they are the bytes of its tasks
pub record IsCode (image : TheImage) (bytes : List ℕ) : Type 0 where
  pub typable : IsTypable image.form image.code image.len
  pub native : IsNativeOf image bytes
  pub written : IsCodeIn image.form image.code image.len bytes

-- in one form, instructions have one machine code with a state of one length
abbrev pub IsOneInAnyForm : Type 0
IsOneInAnyForm =
    (form : FileForm) (insns : List Insn) (len : ℕ) (bytes bytes' : List ℕ) → IsCodeIn form insns len bytes
    → IsCodeIn form insns len bytes' → bytes ≡ bytes'
