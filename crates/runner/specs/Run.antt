-- What a run of a scenario writes (docs/FORMATS.md, "Carrying out"), and what its pictures show.
use Rattle.std.specs.Prelude.{◌≡◌, ◌⊎◌, ◌-◌, ℕ, List, [], ◌∷◌, ◌++◌, codes, decimal, drop, flat_map, length, map, replicate, slice_get}
use Rattle.std.specs.Prelude.{take, Option, Some, None}
use Rattle.interp.specs.Image.{TheImage}
use Rattle.world.specs.declared.call.Call.{Call}
use Rattle.world.specs.declared.call.Call.TheVariants as call
use Rattle.world.specs.declared.entry.Entry.{Entry}
use Rattle.world.specs.declared.message.Message.{Message}
use Rattle.sessions.specs.Fold.{handlers_of}
use Rattle.world.specs.History.{Payload}
use Rattle.world.specs.Legal.{Legal, world_of}
use Rattle.world.specs.World.{World}
use Rattle.sessions.specs.Logged.{logged}
use Rattle.scenario.specs.declared.scenario.Step.{Step}
use Rattle.runner.specs.Orders.{CarriesOut, FindsNoMemory, Position, beginning, world_at}
use Rattle.results.specs.Results.{results_text}

-- the line of an order that is refused with this number, if it is, and stands in this line of the scenario
abbrev pub refused_text : ℕ → Option ℕ → List ℕ
refused_text line None = []
refused_text line (Some n) = codes "line " ++ decimal line ++ codes " refused " ++ decimal n ++ codes "\n"

-- what a call put on the wire, if it did: the message as the log of its sender has it in this world
abbrev pub sent_by : World → Call → Option Payload
sent_by w (call.Transmit from to ssn) = logged w from to ssn
sent_by w c = None

-- the same of each of these entries
abbrev pub sent_in : World → List Entry → List (Option Payload)
sent_in w entries = map (λ e. sent_by w e.call) entries

-- what the order of a line came to: it made so many calls that were accepted, and was refused with this number, if it was; and what
-- each of these calls put on the wire, by the logs behind the order
pub record Passage : Type 0 where
  pub line : ℕ
  pub added : ℕ
  pub refused : Option ℕ
  pub sent : List (Option Payload)

-- an order that leads from one position to another
abbrev pub passage : Position → Step → Position → Option ℕ → Passage
passage old step new refused =
    record {
      line = step.line;
      added = length new.entries - length old.entries;
      refused = refused;
      sent = sent_in (world_at new) (drop (length old.entries) new.entries);
    }

-- the orders are carried out one after the other, and come to these
abbrev pub RunsThrough : Position → List Step → List Passage → Position → Type 0
RunsThrough old [] passages new = (passages ≡ []) × (new ≡ old)
RunsThrough old (step ∷ steps) passages new =
    (next : Position) × (refused : Option ℕ) × (rest : List Passage)
    × CarriesOut old step.order next refused × RunsThrough next steps rest new × (passages ≡ passage old step next refused ∷ rest)

-- all orders are carried out from the beginning on, and come to these: these calls were accepted
pub record AreCarriedOut (images : List TheImage) (steps : List Step) (passages : List Passage) (entries : List Entry) : Type 0 where
  pub end : Position
  pub leads : RunsThrough (beginning images) steps passages end
  pub accepted : entries ≡ end.entries
  pub legal : Legal (length images) (handlers_of images) entries

-- the lines of those that were refused
abbrev pub refused_lines : List Passage → List ℕ
refused_lines passages = flat_map (λ p. refused_text p.line p.refused) passages

-- all orders are carried out, and behind the old text stand the refused lines, the trace and the report
pub record IsRun (names : List (List ℕ)) (images : List TheImage) (steps : List Step) (old new : List ℕ) : Type 0 where
  pub passages : List Passage
  pub entries : List Entry
  pub carried : AreCarriedOut images steps passages entries
  pub text : new ≡ old ++ (refused_lines passages ++ results_text names images entries)

-- ---- moments: an accepted call or a refused order is one, with the line that it is of, and the number that refused it

-- that of a refused order
abbrev pub refused_moment : ℕ → Option ℕ → List (ℕ × Option ℕ)
refused_moment line None = []
refused_moment line (Some n) = (line, Some n) ∷ []

-- those of one order: one of each call that it made, and its own, where it was refused
abbrev pub moments_of : Passage → List (ℕ × Option ℕ)
moments_of p = replicate p.added (p.line, None) ++ refused_moment p.line p.refused

-- the orders lead to this journal, and to these moments, one after the other; of each entry it is told what it put on the wire, and
-- these outputs were shown
pub record IsChronicle (images : List TheImage)
    (steps : List Step) (entries : List Entry)
    (moments : List (ℕ × Option ℕ)) (sent : List (Option Payload)) (shown : List Message) : Type 0 where
  pub passages : List Passage
  pub carried : AreCarriedOut images steps passages entries
  pub moments_are : moments ≡ flat_map moments_of passages
  pub sent_is : sent ≡ flat_map (λ p. p.sent) passages
  pub shown_are : shown ≡ (world_of (length images) (handlers_of images) entries).shown

-- where a run stops for want of memory: before the first order, at one that finds none, or behind all of them. An order that a number
-- refuses is none of these
abbrev pub CutsOff : List Step → ℕ → Position → Type 0
CutsOff steps count here =
    (count ≡ 0) ⊎ (((step : Step) × (slice_get steps count ≡ Some step) × FindsNoMemory here step.order) ⊎ (count ≡ length steps))

-- so many of the first orders are carried out, and behind the old text stand the refused lines alone
pub record IsCut (images : List TheImage) (steps : List Step) (old new : List ℕ) : Type 0 where
  pub count : ℕ
  pub passages : List Passage
  pub end : Position
  pub leads : RunsThrough (beginning images) (take count steps) passages end
  pub stops : CutsOff steps count end
  pub text : new ≡ old ++ refused_lines passages
