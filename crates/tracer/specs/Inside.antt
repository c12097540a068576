-- What the functions of this crate say to one another.
use Rattle.std.specs.Prelude.{◌⊎◌, ℕ, Bool, List}
use Rattle.cli.specs.Asks.{AsksFor, Order}
use Rattle.image_commands.specs.Files.{Content, Sameness}
use Rattle.image_commands.specs.OwnInput.{IsOwnInput}
use Rattle.image_commands.specs.declared.fault.Fault.{Fault}
use Rattle.tracer.specs.Program.{IsFault, IsShort, WritesOver}

-- the order, which writes a file, comes to the fault
abbrev pub IsWriteFault : Sameness → Content → Bool → Order → Fault → Type 0
IsWriteFault one content failed order f = IsFault content failed order f ⊎ IsOwnInput (WritesOver one content order) f

-- the words ask for a run that memory ended, which has this text
abbrev pub EndsShort : List (List ℕ) → Content → List ℕ → Type 0
EndsShort words content text = (order : Order) × AsksFor words order × IsShort content order text
