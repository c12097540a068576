-- The command `check` (docs/FORMATS.md, "Commands").
use Rattle.std.specs.Prelude.{◌≡◌, ℕ, List, ◌++◌, Some, codes, decimal, length}
use Rattle.decode.specs.declared.insn.Insn.{Insn}
use Rattle.verifier.specs.declared.file_form.FileForm.{FileForm}
use Rattle.verifier.specs.AnyFile as any
use Rattle.verifier.specs.declared.fault.ImageError.{ImageError}
use Rattle.interp.specs.Image.{TheImage}
use Rattle.image_commands.specs.Fault.{fault_of_image}
use Rattle.image_commands.specs.Files.{Content}
use Rattle.image_commands.specs.declared.fault.Fault.{Fault}

-- its line
abbrev pub accepted_text : ℕ → List ℕ
accepted_text count = codes "accepted " ++ decimal count ++ codes " instructions\n"

-- the bytes are the file, of any form, of typable code of so many instructions
pub record IsAccepted (bytes : List ℕ) (count : ℕ) : Type 0 where
  pub form : FileForm
  pub code : List Insn
  pub len : ℕ
  pub file : any.IsFile form code len bytes
  pub typable : any.IsTypable form code len
  pub counted : count ≡ length code

-- the fault is the reason why bytes are no file of typable code in any form; want of memory says nothing of them
abbrev pub IsUnaccepted : List ℕ → Fault → Type 0
IsUnaccepted bytes f = (e : ImageError) × any.IsRefusal bytes e × (f ≡ fault_of_image e)

-- ---- an image whose handler is to be run or compiled, of any form

-- the file at the path, where it is known, is that of this image, whose code is typable
abbrev pub HasImage : Content → List ℕ → TheImage → Type 0
HasImage content path image = (bytes : List ℕ) → content path ≡ Some bytes
    → any.IsFile image.form image.code image.len bytes × any.IsTypable image.form image.code image.len
