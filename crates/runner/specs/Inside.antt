-- What the functions of this crate say to one another of a run.
use Rattle.std.specs.Prelude.{◌≡◌, ◌++◌, ℕ, List, flat_map, slice_get, take, Option, Some, None, Result, Ok, Err}
use Rattle.world.specs.declared.refusal.Refusal.{Refusal}
use Rattle.world.specs.declared.refusal.Refusal.TheVariants.{Memory}
use Rattle.world.specs.History.{Payload}
use Rattle.world.specs.Refusals.{cause_of}
use Rattle.scenario.specs.declared.scenario.Step.{Step}
use Rattle.runner.specs.declared.chronicle.Notes.{Notes}
use Rattle.runner.specs.declared.player.Player.{Player}
use Rattle.runner.specs.Orders.{CarriesOut, FindsNoMemory, Position}
use Rattle.runner.specs.Run.{Passage, RunsThrough, moments_of, passage, refused_lines, refused_text}

-- where a player stands
abbrev pub position_of : Player → Position
position_of player =
    record { images = player.session.images; entries = player.session.entries; held = player.held.items; inputs = player.inputs }

-- what is noted of the orders so far: their moments, and what their calls put on the wire
pub record TheNotes : Type 0 where
  pub moments : List (ℕ × Option ℕ)
  pub sent : List (Option Payload)

-- the notes as lists
abbrev pub notes_of : Notes → TheNotes
notes_of notes = record { moments = notes.moments.items; sent = notes.sent.items }

-- something was done, or refused with a number. Where memory runs out nothing is said
abbrev pub ComesTo : {X : Type 0} → (Option ℕ → Type 0) → Result X Refusal → Type 0
ComesTo does (Ok x) = does None
ComesTo does (Err r) = (n : ℕ) → cause_of r ≡ Some n → does (Some n)

-- where memory runs out, this holds
abbrev pub OnMemory : {X : Type 0} → Type 0 → Result X Refusal → Type 0
OnMemory P (Ok x) = Unit {0}
OnMemory P (Err r) = r ≡ Memory → P

-- no number refuses what is done
abbrev pub NoNumber : (Position → Option ℕ → Type 0) → Type 0
NoNumber does = (n : ℕ) (next : Position) → ¬ does next (Some n)

-- the order of a step is carried out, and its line written if it was refused
abbrev pub IsPlayed : Step → Position → Position → List ℕ → List ℕ → Type 0
IsPlayed step here next old new = (refused : Option ℕ) × CarriesOut here step.order next refused
    × (new ≡ old ++ refused_text step.line refused)

-- the same of all these steps, one after the other
abbrev pub ArePlayed : List Step → Position → Position → List ℕ → List ℕ → Type 0
ArePlayed steps here end old new = (passages : List Passage) × RunsThrough here steps passages end × (new ≡ old ++ refused_lines passages)

-- the order of a step is carried out, and its moments noted, with what was put on the wire
abbrev pub IsNoted : Step → Position → Position → TheNotes → TheNotes → Type 0
IsNoted step here next old new =
    (refused : Option ℕ) × CarriesOut here step.order next refused
    × (new.moments ≡ old.moments ++ moments_of (passage here step next refused))
    × (new.sent ≡ old.sent ++ (passage here step next refused).sent)

-- the same of all these steps, one after the other
abbrev pub AreNoted : List Step → Position → Position → TheNotes → Type 0
AreNoted steps here end notes =
    (passages : List Passage) × RunsThrough here steps passages end × (notes.moments ≡ flat_map moments_of passages)
    × (notes.sent ≡ flat_map (λ (p : Passage). p.sent) passages)

-- the first of these steps are made, and the next one finds no memory
pub record ArePlayedTo (steps : List Step) (here : Position) (old new : List ℕ) : Type 0 where
  pub count : ℕ
  pub end : Position
  pub played : ArePlayed (take count steps) here end old new
  pub step : Step
  pub next : slice_get steps count ≡ Some step
  pub finds : FindsNoMemory end step.order
