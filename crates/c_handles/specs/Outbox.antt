-- Why no packet is given out
use Rattle.std.specs.Prelude.{◌≡◌, ℕ, List}
use Rattle.c_handles.specs.Buffer.{IsUntouched}
use Rattle.c_handles.specs.declared.outbox.Ungiven.{Ungiven}
use Rattle.c_handles.specs.declared.outbox.Ungiven.TheVariants.{Memory, Absent, Room}

-- none waits, memory ran out, or the buffer is too short for the first one; the length is written then. Nothing else has changed
abbrev pub GivesNone : {S : Type 0} → (S → Type 0) → (S → ℕ → List ℕ → Type 0) → (List ℕ → List ℕ → List ℕ → ℕ → Type 0)
    → List ℕ → List ℕ → ℕ → ℕ → S → S → Ungiven → Type 0
GivesNone IsEmpty Waits IsShort out out' was size s s' Absent = (s' ≡ s) × IsEmpty s × IsUntouched out out' was size
GivesNone IsEmpty Waits IsShort out out' was size s s' Memory = (s' ≡ s) × IsUntouched out out' was size
GivesNone IsEmpty Waits IsShort out out' was size s s' Room = (s' ≡ s)
    × ((to : ℕ) × (bytes : List ℕ) × Waits s to bytes × IsShort bytes out out' size)

-- none waits, or memory ran out
abbrev pub IsNoFirst : Type 0 → Ungiven → Type 0
IsNoFirst None Absent = None
IsNoFirst None Memory = Unit {0}
IsNoFirst None Room = ⊥
