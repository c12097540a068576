-- What a run of a scenario writes in another style (docs/FORMATS.md, "Other ways to print a run").
use Rattle.std.specs.Prelude.{◌≡◌, ℕ, Bool, List, ◌++◌, flat_map, length, Option, Some, None, cond}
use Rattle.interp.specs.Image.{TheImage}
use Rattle.scenario.specs.Order.{process_text}
use Rattle.scenario.specs.declared.scenario.Step.{Step}
use Rattle.sessions.specs.Journal.{is_exact_of}
use Rattle.scenario.specs.Styles.Lines as lines
use Rattle.scenario.specs.Styles.Style.{TheStyle}
use Rattle.sessions.specs.Fold.{handlers_of}
use Rattle.world.specs.Legal.{world_of}
use Rattle.world.specs.Logs.{length_of}
use Rattle.world.specs.Phases.{name_of}
use Rattle.world.specs.World.{World}
use Rattle.world.specs.declared.entry.Entry.{Entry}
use Rattle.world.specs.declared.message.Message.{Message}
use Rattle.results.specs.Results.{numbered, shown_state}
use Rattle.runner.specs.Run.{AreCarriedOut, Passage, moments_of}

-- the lines of the orders among these moments that were refused
abbrev pub refusals_told : TheStyle → List (ℕ × Option ℕ) → List ℕ
refusals_told style moments = flat_map (λ m. lines.refused_text style m.0 m.1) moments

-- the line of a process of this name
abbrev pub process_told : TheStyle → World → ℕ → List ℕ → List ℕ
process_told style w p name = lines.process_text style name (name_of (w.phase p)) (length_of w p) (shown_state w p)

-- a line an output, with the name of who sent it
abbrev pub outputs_told : TheStyle → List (List ℕ) → List Message → List ℕ
outputs_told style names shown = flat_map (λ m. lines.output_text style (process_text names m.sender) m.ssn m.payload) shown

-- the report of a world
abbrev pub report_told : TheStyle → List (List ℕ) → World → Bool → List ℕ
report_told style names w exact = numbered (process_told style w) 1 names
    ++ (outputs_told style names w.shown ++ lines.exact_text style exact)

-- the refused lines of these moments, the lines of these entries, and the report of the world where they lead
abbrev pub told_text : TheStyle → List (List ℕ) → List TheImage → List (ℕ × Option ℕ) → List Entry → List ℕ
told_text style names images moments entries =
    refusals_told style moments ++ (lines.entries_text style entries
    ++ report_told style names (world_of (length images) (handlers_of images) entries) (is_exact_of images entries))

-- in JSON or not, and with the names or not
abbrev pub style_in : Bool → Bool → List (List ℕ) → TheStyle
style_in json named names = record { json = json; names = cond named (Some names) None }

-- all orders are carried out, and come to this text
pub record IsTelling (names : List (List ℕ)) (images : List TheImage) (steps : List Step) (json named : Bool) (text : List ℕ) : Type 0 where
  pub passages : List Passage
  pub entries : List Entry
  pub carried : AreCarriedOut images steps passages entries
  pub text_is : text ≡ told_text (style_in json named names) names images (flat_map moments_of passages) entries
