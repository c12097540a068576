-- The command `dis` (docs/FORMATS.md, "Commands").
use Rattle.std.specs.Prelude.{◌≡◌, ℕ, List}
use Rattle.assemble.specs.Text.{text_of}
use Rattle.decode.specs.declared.insn.Insn.{Insn}
use Rattle.verifier.specs.declared.file_form.FileForm.{FileForm}
use Rattle.verifier.specs.AnyFile.{IsFile, IsUnread}
use Rattle.verifier.specs.declared.fault.ImageError.{ImageError}
use Rattle.image_commands.specs.Fault.{fault_of_image}
use Rattle.image_commands.specs.declared.fault.Fault.{Fault}

-- the bytes are the file of code of which this is the text
pub record IsListing (bytes text : List ℕ) : Type 0 where
  pub form : FileForm
  pub code : List Insn
  pub len : ℕ
  pub file : IsFile form code len bytes
  pub text_is : text ≡ text_of code

-- why bytes are no file of code; want of memory says nothing of them
abbrev pub IsUnlisted : List ℕ → Fault → Type 0
IsUnlisted bytes f = (e : ImageError) × IsUnread bytes e × (f ≡ fault_of_image e)
