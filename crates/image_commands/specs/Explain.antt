-- The command `explain` (docs/FORMATS.md, "Commands"), which takes images of any form.
use Rattle.std.specs.Prelude.{◌≡◌, ℕ, List}
use Rattle.verifier.specs.AnyFile.{IsUnread}
use Rattle.verifier.specs.declared.fault.ImageError.{ImageError}
use Rattle.image_commands.specs.Fault.{fault_of_image}
use Rattle.image_commands.specs.declared.fault.Fault.{Fault}

-- why bytes are no file of code in any form; want of memory says nothing of them
abbrev pub IsUnexplained : List ℕ → Fault → Type 0
IsUnexplained bytes f = (e : ImageError) × IsUnread bytes e × (f ≡ fault_of_image e)
