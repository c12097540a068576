-- How the program ends: the words, the files that they name, and whether a file or a stream failed decide it.
use Rattle.std.specs.Prelude.{◌≡◌, ◌≢◌, ◌⊎◌, ℕ, Bool, true, List, Option, Some}
use Rattle.std.specs.Io.KnownBytes.{Appends}
use Rattle.std.specs.String.{string_bytes}
use Rattle.cli.specs.Asks.{AsksFor, IsRefusal, own_input_text}
use Rattle.cli.specs.Asks.{Order, Run, Tell, Live, Draw, Check, Explain, Why, Asm, Pack, Dis, Native, Migrate}
use Rattle.cli.specs.declared.refusal.UsageRefusal.TheVariants as refusal
use Rattle.block_order.specs.declared.blocks.Blocks.{Blocks}
use Rattle.listing.specs.RulePage.{page_text}
use Rattle.scenario.specs.Scenario.{IsScenario}
use Rattle.scenario.specs.declared.order.Allowed.TheVariants.{All, Inputs}
use Rattle.scenario.specs.declared.scenario.Scenario.{Scenario}
use Rattle.image_commands.specs.Asm.{IsAssembled, IsUnassembled}
use Rattle.image_commands.specs.Check.{IsUnaccepted}
use Rattle.image_commands.specs.Dis.{IsUnlisted}
use Rattle.image_commands.specs.Explain.{IsUnexplained}
use Rattle.image_commands.specs.Fault.{FaultOf, Tells}
use Rattle.image_commands.specs.Files.{Content, IsWritten, Sameness}
use Rattle.image_commands.specs.Hints.{command_in, has_hints}
use Rattle.image_commands.specs.Migrate.{IsUnconverted, MakesState}
use Rattle.image_commands.specs.Native.{IsMachineCode}
use Rattle.image_commands.specs.Pack.{IsMade, IsUnmade}
use Rattle.image_commands.specs.Loads.{IsImagePath, IsUnloadable}
use Rattle.image_commands.specs.declared.fault.Fault.{Fault}
use Rattle.image_commands.specs.declared.fault.Fault.TheVariants.{Usage, Memory, InputOutput}
use Rattle.tracer.specs.Draw.{IsDrawn}
use Rattle.tracer.specs.Report.{IsReport, path_of}
use Rattle.tracer.specs.Run.{IsCutText}

-- ---- an order that is carried out

-- no process of the scenario at this path has its image at the place
abbrev pub SparesImages : Content → List ℕ → List ℕ → Type 0
SparesImages content scenario place = (bytes : List ℕ) → content scenario ≡ Some bytes
    → (s : Scenario) × IsScenario All bytes s × ((path : List ℕ) → IsImagePath s.processes.entries path → path ≢ place)

-- the files after an order: `asm` and `pack` write the image file of their source, `native` the machine code of its image, `draw`
-- the picture of its scenario, `migrate` the state that its image makes, the others leave all as it was
abbrev pub Leaves : Order → Content → Content → Type 0
Leaves (Asm source image state form) content content' =
    IsWritten source image (λ bytes file. IsAssembled bytes state form file) content content'
Leaves (Pack source image state form name) content content' =
    IsWritten source image (λ bytes file. (blocks : Blocks) × IsMade state form name bytes file blocks) content content'
Leaves (Native image code) content content' = IsWritten image code (λ bytes file. IsMachineCode bytes file) content content'
Leaves (Draw scenario picture only) content content' =
    IsWritten scenario picture (λ bytes file. IsDrawn content bytes only file) content content'
    × SparesImages content scenario picture
Leaves (Migrate image state converted) content content' =
    IsWritten image converted (MakesState content state) content content' × (state ≢ converted)
Leaves order content content' = content' ≡ content

-- the order prints this text, by its file; `explain --why` the page of its rule, whatever the files are
abbrev pub IsAnswer : Content → Order → List ℕ → Type 0
IsAnswer content (Why rule) text = text ≡ page_text rule
IsAnswer content order text = (bytes : List ℕ) → content (path_of order) ≡ Some bytes → IsReport content order bytes text

-- the command's words ask for an order that prints this text and leaves these files
pub record IsAnswered (words : List (List ℕ)) (content content' : Content) (text : List ℕ) : Type 0 where
  pub order : Order
  pub asked : AsksFor words order
  pub answer : IsAnswer content order text
  pub left : Leaves order content content'

-- those of the words do, and the text was printed
pub record IsDone (words : List (List ℕ)) (content content' : Content) (out out' : Option (List ℕ)) : Type 0 where
  pub text : List ℕ
  pub answered : IsAnswered (command_in words) content content' text
  pub printed : Appends out out' text

-- ---- one that comes to a fault

-- the fault is the reason why the order's file, with these bytes, is refused; or an image that a scenario names
abbrev pub IsRefused : Content → Order → List ℕ → Fault → Type 0
IsRefused content (Run scenario) bytes f = IsUnloadable content All bytes f
IsRefused content (Tell scenario json named) bytes f = IsUnloadable content All bytes f
IsRefused content (Live scenario workers budget) bytes f = IsUnloadable content Inputs bytes f
IsRefused content (Draw scenario picture only) bytes f = IsUnloadable content All bytes f
IsRefused content (Check image) bytes f = IsUnaccepted bytes f
IsRefused content (Asm source image state form) bytes f = IsUnassembled bytes f
IsRefused content (Explain image) bytes f = IsUnexplained bytes f
IsRefused content (Why rule) bytes f = ⊥
IsRefused content (Pack source image state form name) bytes f = IsUnmade state name bytes f
IsRefused content (Dis image) bytes f = IsUnlisted bytes f
IsRefused content (Native image code) bytes f = IsUnaccepted bytes f
IsRefused content (Migrate image state converted) bytes f = IsUnconverted content state bytes f

-- the order comes to the fault
abbrev pub IsFault : Content → Bool → Order → Fault → Type 0
IsFault content failed order f = FaultOf content failed (path_of order) (IsRefused content order) f

-- the order's OUT may be a file that it reads
abbrev pub WritesOver : Sameness → Content → Order → Type 0
WritesOver one content (Asm source image state form) = one source image ≡ true
WritesOver one content (Pack source image state form name) = one source image ≡ true
WritesOver one content (Native image code) = one image code ≡ true
WritesOver one content (Migrate image state converted) = (one image converted ≡ true) ⊎ (one state converted ≡ true)
WritesOver one content (Draw scenario picture only) = (one scenario picture ≡ true) ⊎ ((bytes : List ℕ) → content scenario ≡ Some bytes
    → (s : Scenario) × IsScenario All bytes s × (path : List ℕ) × IsImagePath s.processes.entries path × (one path picture ≡ true))
WritesOver one content order = ⊥

-- the command's words come to the fault: they are refused, or ask for an order that comes to it or whose OUT may be a file that it reads
abbrev pub IsCause : List (List ℕ) → Content → Sameness → Bool → Fault → Type 0
IsCause words content one failed (Usage usage) = IsRefusal words (refusal.Usage usage)
    ⊎ ((string_bytes usage.text ≡ own_input_text) × (order : Order) × AsksFor words order × WritesOver one content order)
IsCause words content one failed Memory = Unit {0}
IsCause words content one failed f = (order : Order) × AsksFor words order × IsFault content failed order f

-- a run that memory ended has this text: the lines of the orders that were refused until then
abbrev pub IsShort : Content → Order → List ℕ → Type 0
IsShort content (Run scenario) text = (bytes : List ℕ) → content scenario ≡ Some bytes → IsCutText content bytes text
IsShort content order text = ⊥

-- the words ask for such a run, and its text was printed
pub record IsCutShort (words : List (List ℕ)) (content : Content) (out out' : Option (List ℕ)) : Type 0 where
  pub order : Order
  pub asked : AsksFor (command_in words) order
  pub text : List ℕ
  pub short : IsShort content order text
  pub printed : Appends out out' text

-- the stream for reports has failed; or memory ended a run, of which the lines until then were printed. `failed` says whether that
-- stream has failed, `deaf` whether the one for faults has, after which the status says nothing of memory
abbrev pub IsHalfPrinted : List (List ℕ) → Content → Bool → Bool → Option (List ℕ) → Option (List ℕ) → ℕ → Type 0
IsHalfPrinted words content failed deaf out out' status =
    (failed ≡ true) ⊎ (((status ≡ 5) ⊎ (deaf ≡ true)) × IsCutShort words content out out')

-- the words come to a fault, which was told; `failed` says whether a file or the stream for reports has failed, `deaf` whether
-- that for faults has
pub record IsTold (words : List (List ℕ))
    (content : Content) (one : Sameness) (failed deaf : Bool) (err err' : Option (List ℕ)) (status : ℕ)
    : Type 0 where
  pub fault : Fault
  pub cause : IsCause (command_in words) content one failed fault
  pub told : Tells (has_hints words) fault deaf err err' status
