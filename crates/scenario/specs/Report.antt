-- The lines of a report: a process, an output, and whether failures came one at a time (docs/FORMATS.md, "Report").
use Rattle.std.specs.Prelude.{ℕ, Bool, List, ◌++◌, codes, decimal, if◌then◌else◌}
use Rattle.world.specs.declared.phase.PhaseName.{PhaseName}
use Rattle.world.specs.declared.phase.PhaseName.TheVariants.{Up, Busy, Down, Replaying, Resync}
use Rattle.scenario.specs.Hex.{hex_text}

-- the word of a phase
abbrev pub phase_text : PhaseName → List ℕ
phase_text Up = codes "up"
phase_text Busy = codes "busy"
phase_text Down = codes "down"
phase_text Replaying = codes "replaying"
phase_text Resync = codes "resync"

-- a process: its name, what it is doing, how many messages are in its state, and the state
abbrev pub process_line : List ℕ → PhaseName → ℕ → List ℕ → List ℕ
process_line name phase length state =
    codes "process " ++ name ++ codes " " ++ phase_text phase ++ codes " " ++ decimal length ++ codes " " ++ hex_text state ++ codes "\n"

-- an output: the name of its process, its SSN to the outside, and its bytes
abbrev pub output_line : List ℕ → ℕ → List ℕ → List ℕ
output_line name ssn payload = codes "output " ++ name ++ codes " " ++ decimal ssn ++ codes " " ++ hex_text payload ++ codes "\n"

-- whether failures came one at a time
abbrev pub exact_line : Bool → List ℕ
exact_line exact = if exact then codes "exact\n" else codes "not exact\n"
