-- The faults of bytes of kept state, each by itself, and the first of them
use Rattle.std.specs.Prelude.{◌≡◌, ◌≢◌, ℕ, ◌<◌, ◌≤◌, List, length, take, drop, slice_index, true, ⊤, Result, Ok, Err}
use Rattle.limits.specs.declared.TheConstants.{PROCESSES, STATE_BYTES}
use Rattle.byteorder.specs.Endian.{little_number}
use Rattle.packets.specs.declared.kept.Kept.{Kept}
use Rattle.packets.specs.declared.kept_fault.KeptFault.{KeptFault}
use Rattle.packets.specs.declared.kept_fault.KeptFault.TheVariants.{Short, Magic, Checksum, Count, Own, State, Fields, Range}
use Rattle.packets.specs.declared.kept_fault.KeptError.{KeptError}
use Rattle.packets.specs.declared.kept_fault.KeptError.TheVariants.{Memory, Fault}
use Rattle.packets.specs.Faults.{fields_of, IsSummed, IsFirstOf}
use Rattle.packets.specs.Kept.{kept_magic, kept_fields, kept_in_range, KeptHasRoom, IsKept}

-- 1 to 8, in the order of docs/FORMATS.md
abbrev pub kept_fault_number : KeptFault → ℕ
kept_fault_number Short = 1
kept_fault_number Magic = 2
kept_fault_number Checksum = 3
kept_fault_number Count = 4
kept_fault_number Own = 5
kept_fault_number State = 6
kept_fault_number Fields = 7
kept_fault_number Range = 8

-- the length of the state, as the head gives it
abbrev pub state_length : List ℕ → ℕ
state_length bytes = little_number 2 (take 2 (drop 6 bytes))

-- the head and the fields are those of k
pub record SpellsKept (k : Kept) (bytes : List ℕ) : Type 0 where
  pub me : k.me ≡ slice_index bytes 4
  pub count : k.count ≡ slice_index bytes 5
  pub state : length k.state ≡ state_length bytes
  pub room : KeptHasRoom k
  pub fields : fields_of bytes ≡ kept_fields k

-- what each fault says of the bytes, whatever other faults they have
abbrev pub HasKeptFault : KeptFault → List ℕ → Type 0
HasKeptFault Short bytes = length bytes < 20
HasKeptFault Magic bytes = take 4 bytes ≢ kept_magic
HasKeptFault Checksum bytes = ¬ IsSummed bytes
HasKeptFault Count bytes = ¬ ((1 ≤ slice_index bytes 5) × (slice_index bytes 5 ≤ PROCESSES))
HasKeptFault Own bytes = ¬ ((1 ≤ slice_index bytes 4) × (slice_index bytes 4 ≤ slice_index bytes 5))
HasKeptFault State bytes = STATE_BYTES < state_length bytes
HasKeptFault Fields bytes = (k : Kept) → ¬ SpellsKept k bytes
HasKeptFault Range bytes = (k : Kept) → SpellsKept k bytes → kept_in_range k ≢ true

-- the first fault of these bytes
abbrev pub IsFirstKept : KeptFault → List ℕ → Type 0
IsFirstKept = IsFirstOf kept_fault_number HasKeptFault

-- why bytes were refused
abbrev pub IsKeptReason : KeptError → List ℕ → Type 0
IsKeptReason Memory bytes = ⊤
IsKeptReason (Fault f) bytes = IsFirstKept f bytes

-- k was read, unless memory ran out
abbrev pub ReadsKept : Result Kept KeptError → Kept → Type 0
ReadsKept (Ok q) k = q ≡ k
ReadsKept (Err Memory) k = ⊤
ReadsKept (Err (Fault f)) k = ⊥

-- bytes are those of one kept state at most
abbrev pub IsOneKept : Type 0
IsOneKept = (k l : Kept) (bytes : List ℕ) → IsKept k bytes → IsKept l bytes → k ≡ l
