-- Laws of all checkpoints
use Rattle.std.specs.Prelude.{◌≡◌, ℕ, ◌<◌, List, ◌++◌, length, Err}
use Rattle.checkpoint.specs.declared.form.CheckpointForm.{CheckpointForm}
use Rattle.checkpoint.specs.declared.form.CheckpointForm.TheVariants.{Second}
use Rattle.checkpoint.specs.declared.fault.SavedFault.TheVariants.{Length}
use Rattle.checkpoint.specs.Saved.{TheSaved}
use Rattle.checkpoint.specs.Format.{IsCheckpoint}
use Rattle.checkpoint.specs.Reader.{reading}

-- bytes are the checkpoint of at most one saved process, in one form
abbrev pub IsOneCheckpoint : Type 0
IsOneCheckpoint = (form form' : CheckpointForm) (s s' : TheSaved) (bytes : List ℕ) → IsCheckpoint form s bytes
    → IsCheckpoint form' s' bytes → (form ≡ form') × (s ≡ s')

-- bytes after a checkpoint are left over, and are refused for their length
abbrev pub IsTooLong : Type 0
IsTooLong = (form : CheckpointForm) (s : TheSaved) (bytes more : List ℕ) → IsCheckpoint form s bytes → 0 < length more
    → reading (bytes ++ more) ≡ Err Length

-- a checkpoint that is cut short is refused for its length, wherever it is cut
abbrev pub IsTooShort : Type 0
IsTooShort = (form : CheckpointForm) (s : TheSaved) (bytes more : List ℕ) → IsCheckpoint form s (bytes ++ more) → 0 < length more
    → reading bytes ≡ Err Length

-- new is the second form of the process whose checkpoint old is
abbrev pub IsMigrated : List ℕ → List ℕ → Type 0
IsMigrated old new = (form : CheckpointForm) × (s : TheSaved) × IsCheckpoint form s old × IsCheckpoint Second s new
