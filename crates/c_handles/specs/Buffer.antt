-- The caller's buffers, and what a code says of them
use Rattle.std.specs.Prelude.{◌≡◌, ◌⊎◌, ℕ, ◌<◌, ◌≤◌, List, length}
use Rattle.operations.specs.Bytes.{overwritten}

-- the buffer begins with these bytes, and their number is written
abbrev pub IsCopied : List ℕ → List ℕ → List ℕ → ℕ → Type 0
IsCopied bytes old new size = (length bytes ≤ length old) × (new ≡ overwritten old 0 bytes) × (size ≡ length bytes)

-- the buffer is too short for them and unchanged, and their number is written
abbrev pub IsUncopied : List ℕ → List ℕ → List ℕ → ℕ → Type 0
IsUncopied bytes old new size = (length old < length bytes) × (new ≡ old) × (size ≡ length bytes)

-- nothing is written
abbrev pub IsUntouched : List ℕ → List ℕ → ℕ → ℕ → Type 0
IsUntouched old new was size = (new ≡ old) × (size ≡ was)

-- if the code is a fault, this holds
abbrev pub OnFault : ℕ → Type 0 → Type 0
OnFault code kept = (code ≡ 0) ⊎ kept
