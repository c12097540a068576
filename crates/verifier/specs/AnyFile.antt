-- Image files of all three forms.
use Rattle.std.specs.Prelude.{ℕ, List}
use Rattle.verifier.specs.declared.fault.ImageError.{ImageError}
use Rattle.verifier.specs.declared.header.Forms.TheVariants.{Any}
use Rattle.verifier.specs.ImageFile as file
pub use Rattle.verifier.specs.ImageFile.{IsFile, IsTypable}

-- why bytes are no image file of any form
abbrev pub IsUnread : List ℕ → ImageError → Type 0
IsUnread bytes error = file.IsUnread Any bytes error

-- why bytes are no file of typable code
abbrev pub IsRefusal : List ℕ → ImageError → Type 0
IsRefusal bytes error = file.IsRefusal Any bytes error
