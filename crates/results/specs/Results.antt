-- What a session came to, as text: the trace of its journal, and the report (docs/FORMATS.md, "Trace" and "Report").
use Rattle.std.specs.Prelude.{ℕ, ◌+◌, List, [], ◌∷◌, ◌++◌, Bool, flat_map, length, if◌then◌else◌}
use Rattle.interp.specs.Image.{TheImage}
use Rattle.world.specs.declared.message.Message.{Message}
use Rattle.world.specs.declared.entry.Entry.{Entry}
use Rattle.sessions.specs.Fold.{handlers_of}
use Rattle.world.specs.World.{World}
use Rattle.world.specs.Phases.{is_down, name_of}
use Rattle.world.specs.Logs.{length_of, state_of}
use Rattle.world.specs.Legal.{world_of}
use Rattle.scenario.specs.Order.{process_text}
use Rattle.scenario.specs.Report.{exact_line, output_line, process_line}
use Rattle.scenario.specs.Trace.{trace_text}
use Rattle.sessions.specs.Journal.{is_exact_of}

-- the state that a process shows: none while it is down
abbrev pub shown_state : World → ℕ → List ℕ
shown_state w p = if is_down (w.phase p) then [] else state_of w p

-- the line of a process of this name
abbrev pub process_text_of : World → ℕ → List ℕ → List ℕ
process_text_of w p name = process_line name (name_of (w.phase p)) (length_of w p) (shown_state w p)

-- a line a process by its number and name, where the first has this number
abbrev pub numbered : (ℕ → List ℕ → List ℕ) → ℕ → List (List ℕ) → List ℕ
numbered line p [] = []
numbered line p (name ∷ names) = line p name ++ numbered line (p + 1) names

-- the lines of all processes, from process 1 on
abbrev pub processes_text : World → List (List ℕ) → List ℕ
processes_text w names = numbered (process_text_of w) 1 names

-- a line an output, with the name of who sent it
abbrev pub outputs_text : List (List ℕ) → List Message → List ℕ
outputs_text names shown = flat_map (λ m. output_line (process_text names m.sender) m.ssn m.payload) shown

-- the report of a world: its processes, its outputs, and whether failures came one at a time
abbrev pub report_text : List (List ℕ) → World → Bool → List ℕ
report_text names w exact = processes_text w names ++ (outputs_text names w.shown ++ exact_line exact)

-- what processes of these names and images came to by these entries: the trace, and then the report of the world where they lead
abbrev pub results_text : List (List ℕ) → List TheImage → List Entry → List ℕ
results_text names images entries =
    trace_text entries ++ report_text names (world_of (length images) (handlers_of images) entries) (is_exact_of images entries)
