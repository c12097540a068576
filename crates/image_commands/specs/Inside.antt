-- What the functions of this crate say to one another.
use Rattle.std.specs.Prelude.{◌≡◌, ◌⊎◌, ℕ, Bool, true, List, Some, String}
use Rattle.std.specs.declared.alloc.Global.{Global}
use Rattle.verifier.specs.AnyFile as any
use Rattle.verifier.specs.declared.fault.ImageError.{ImageError}
use Rattle.scenario.specs.declared.process.NamedProcess.{NamedProcess}
use Rattle.image_commands.specs.Fault.{fault_of_image}
use Rattle.image_commands.specs.Files.{Content}
use Rattle.image_commands.specs.Loads.{AreRefused}
use Rattle.image_commands.specs.declared.fault.Fault.{Fault}
use Rattle.image_commands.specs.declared.fault.Fault.TheVariants.{Usage, Memory, InputOutput}

-- memory ran out, or a file has failed
abbrev pub IsPlainFault : Bool → Fault → Type 0
IsPlainFault failed f = (f ≡ Memory) ⊎ ((f ≡ InputOutput) × (failed ≡ true))

-- the same, or the file at the path is refused as an image of any form
abbrev pub HandlerFault : Content → Bool → List ℕ → Fault → Type 0
HandlerFault content failed path f =
    IsPlainFault failed f
    ⊎ ((e : ImageError) × (f ≡ fault_of_image e) × ((bytes : List ℕ) → content path ≡ Some bytes → any.IsRefusal bytes e))

-- memory ran out, a file has failed, or the image of a process is refused
abbrev pub ImagesFault : Content → Bool → List (String Global × NamedProcess) → Fault → Type 0
ImagesFault content failed processes f =
    IsPlainFault failed f ⊎ ((e : ImageError) × (f ≡ fault_of_image e) × AreRefused content processes f)

-- it isn't the words that are at fault
abbrev pub IsNoUsage : Fault → Type 0
IsNoUsage (Usage usage) = ⊥
IsNoUsage f = Unit {0}
