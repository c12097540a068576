-- What a call guarantees
use Rattle.std.specs.Prelude.{ℕ, ◌<◌}
use Rattle.world.specs.declared.answer.Answer.{Answer}
use Rattle.world.specs.declared.answer.Answer.TheVariants.{Placed}
use Rattle.world.specs.declared.refusal.Refusal.{Refusal}
use Rattle.world.specs.declared.refusal.Refusal.TheVariants.{NoSuchProcess, JournalFull}
use Rattle.world.specs.Bounds.{WIRE}
use Rattle.sessions.specs.Journal.{TheSession}
use Rattle.c_sessions.specs.Places.{HasPlaces}
use Rattle.c_sessions.specs.Queries.{IsInside}

-- the key in an answer, if there is one, is a key of the wire
abbrev pub HasKey : Answer → Type 0
HasKey (Placed key) = key < WIRE
HasKey other = Unit {0}

-- why an input is refused if the journal has too few places for it
abbrev pub IsShort : TheSession → ℕ → Refusal → Type 0
IsShort s to NoSuchProcess = (¬ HasPlaces s) × (¬ IsInside s to)
IsShort s to JournalFull = (¬ HasPlaces s) × IsInside s to
IsShort s to other = ⊥
