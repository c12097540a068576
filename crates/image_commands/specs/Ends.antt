-- How a command ends: its own fault, or that of a stream, is told.
use Rattle.std.specs.Prelude.{◌≡◌, ◌≢◌, ◌⊎◌, ℕ, Bool, true, List, [], Option, Result, Ok, Err}
use Rattle.std.specs.Io.KnownBytes.{Appends}
use Rattle.image_commands.specs.Fault.{Tells, status_of}
use Rattle.image_commands.specs.declared.fault.Fault.{Fault}
use Rattle.image_commands.specs.declared.fault.Fault.TheVariants.{Memory, InputOutput}

-- a stream failed while this text was printed
abbrev pub IsStreamFault : List ℕ → Bool → Fault → Type 0
IsStreamFault text failed f = (text ≢ []) × (failed ≡ true) × ((f ≡ Memory) ⊎ (f ≡ InputOutput))

-- a command that ended so has this fault: its own, or that of a stream
abbrev pub HasFault : {T : Type 0} → Result T Fault → List ℕ → Bool → Fault → Type 0
HasFault (Ok done) text failed f = IsStreamFault text failed f
HasFault (Err own) text failed f = (f ≡ own) ⊎ IsStreamFault text failed f

-- its fault was told, with this status
pub record IsEnd {T : Type 0} (ended : Result T Fault) (text : List ℕ) (hints failed deaf : Bool) (err err' : Option (List ℕ)) (status : ℕ)
    : Type 0 where
  pub fault : Fault
  pub has : HasFault ended text failed fault
  pub told : Tells hints fault deaf err err' status

-- it came to a fault of this status, and has a text, which was printed
pub record IsHalf {T : Type 0} (ended : Result T Fault) (text : List ℕ) (deaf : Bool) (out out' : Option (List ℕ)) (status : ℕ)
    : Type 0 where
  pub own : Fault
  pub is : ended ≡ Err own
  pub status_is : (status ≡ status_of own) ⊎ (deaf ≡ true)
  pub some : text ≢ []
  pub printed : Appends out out' text
