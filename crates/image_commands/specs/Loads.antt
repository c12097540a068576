-- A scenario's file, and the images of its processes (docs/FORMATS.md, "Commands").
use Rattle.std.specs.Prelude.{◌≡◌, ℕ, List, [], ◌∷◌, ◌++◌, Some, String, slice_get}
use Rattle.std.specs.declared.alloc.Global.{Global}
use Rattle.std.specs.Str.{IsUtf8}
use Rattle.std.specs.String.{string_bytes}
use Rattle.interp.specs.Image.{TheImage}
use Rattle.scenario.specs.Scenario as scenario
use Rattle.scenario.specs.declared.order.Allowed.{Allowed}
use Rattle.scenario.specs.declared.process.NamedProcess.{NamedProcess}
use Rattle.scenario.specs.declared.scenario.Scenario.{Scenario}
use Rattle.scenario.specs.declared.scenario.ScenarioError.TheVariants.{Line}
use Rattle.image_commands.specs.Check.{HasImage, IsUnaccepted}
use Rattle.image_commands.specs.Files.{Content}
use Rattle.image_commands.specs.declared.fault.Fault.{Fault}
use Rattle.image_commands.specs.declared.fault.Fault.TheVariants as fault

-- these are the images of the processes, in their order
abbrev pub AreLoaded : Content → List (String Global × NamedProcess) → List TheImage → Type 0
AreLoaded content [] [] = Unit {0}
AreLoaded content (e ∷ es) (image ∷ images) = HasImage content (string_bytes e.1.path) image × AreLoaded content es images
AreLoaded content processes images = ⊥

-- the bytes are this scenario with such orders, and these are the images of its processes
pub record IsScenarioWithImages (content : Content)
    (allowed : Allowed) (bytes : List ℕ) (s : Scenario) (images : List TheImage) : Type 0 where
  pub written : scenario.IsScenario allowed bytes s
  pub loaded : AreLoaded content s.processes.entries images

-- the file of one process comes to the fault, and those of the processes before it are images
pub record AreRefused (content : Content) (processes : List (String Global × NamedProcess)) (f : Fault) : Type 0 where
  pub before : List (String Global × NamedProcess)
  pub process : String Global × NamedProcess
  pub after : List (String Global × NamedProcess)
  pub whole : processes ≡ before ++ process ∷ after
  pub images : List TheImage
  pub loaded : AreLoaded content before images
  pub refused : (bytes : List ℕ) → content (string_bytes process.1.path) ≡ Some bytes → IsUnaccepted bytes f

-- why the bytes of a scenario's file can't be carried out: they are no text, or one that is refused at a line; or an image is refused.
-- Want of memory says nothing
abbrev pub IsUnloadable : Content → Allowed → List ℕ → Fault → Type 0
IsUnloadable content allowed bytes (fault.Scenario line) = scenario.IsRefusal allowed bytes (Line line)
IsUnloadable content allowed bytes fault.InputOutput = ¬ IsUtf8 bytes
IsUnloadable content allowed bytes fault.Memory = Unit {0}
IsUnloadable content allowed bytes (fault.Usage usage) = ⊥
IsUnloadable content allowed bytes f = (s : Scenario) × scenario.IsScenario allowed bytes s × AreRefused content s.processes.entries f

-- a process has the image at this path
abbrev pub IsImagePath : List (String Global × NamedProcess) → List ℕ → Type 0
IsImagePath processes path = (i : ℕ) × (e : String Global × NamedProcess) × (slice_get processes i ≡ Some e)
    × (path ≡ string_bytes e.1.path)

-- the scenario is that of the file at the path
abbrev pub IsReadAs : Content → Allowed → List ℕ → Scenario → Type 0
IsReadAs content allowed path s =
    (bytes : List ℕ) × ((known : List ℕ) → content path ≡ Some known → bytes ≡ known) × scenario.IsScenario allowed bytes s

-- the same, with the images of its processes
abbrev pub IsLoadedAs : Content → Allowed → List ℕ → Scenario → List TheImage → Type 0
IsLoadedAs content allowed path s images = IsReadAs content allowed path s × AreLoaded content s.processes.entries images
