-- A saved process that is kept as bytes.
use Rattle.std.specs.Prelude.{◌≡◌, ℕ, List, [], length, Result, Ok, Err}
use Rattle.checkpoint.specs.declared.form.CheckpointForm.TheVariants.{Second}
use Rattle.checkpoint.specs.declared.fault.SavedFault.{SavedFault}
use Rattle.checkpoint.specs.Saved.{TheSaved}
use Rattle.checkpoint.specs.Format.{IsCheckpoint}
use Rattle.checkpoint.specs.Reader.{reading}

-- the process that was read; an empty one for bytes that are no checkpoint
abbrev pub read_of : Result TheSaved SavedFault → TheSaved
read_of (Ok saved) = saved
read_of (Err e) = record { me = 0; count = 0; state = []; senders = []; queues = [] }

-- the process whose checkpoint the bytes are
unfoldable pub saved_in : List ℕ → TheSaved
saved_in bytes = read_of (reading bytes)

-- the bytes are a checkpoint in the second form, of a process with a state of this many bytes and this many received messages
pub record IsStored (bytes : List ℕ) (state received : ℕ) : Type 0 where
  pub is : IsCheckpoint Second (saved_in bytes) bytes
  pub state_is : length (saved_in bytes).state ≡ state
  pub received_is : length (saved_in bytes).senders ≡ received
