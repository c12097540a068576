-- Orders whose OUT may be a file that they read.
use Rattle.std.specs.Prelude.{◌≡◌, ◌⊎◌, ℕ, Bool, true, List}
use Rattle.std.specs.String.{string_bytes}
use Rattle.cli.specs.Asks.{own_input_text}
use Rattle.image_commands.specs.Fault.{FaultOf}
use Rattle.image_commands.specs.Files.{Content, Sameness}
use Rattle.image_commands.specs.declared.fault.Fault.{Fault}
use Rattle.image_commands.specs.declared.fault.Fault.TheVariants.{Usage, Memory}

-- memory ran out, or a file that is read would be written over, of which this holds
abbrev pub IsOwnInput : Type 0 → Fault → Type 0
IsOwnInput found Memory = Unit {0}
IsOwnInput found (Usage usage) = (string_bytes usage.text ≡ own_input_text) × found
IsOwnInput found f = ⊥

-- a file that is made of the source comes to the fault: what is read is refused so, or the place may be the source
abbrev pub IsMakeFault : Sameness → Content → Bool → List ℕ → List ℕ → (List ℕ → Fault → Type 0) → Fault → Type 0
IsMakeFault one content failed source place refused f = FaultOf content failed source refused f ⊎ IsOwnInput (one source place ≡ true) f
