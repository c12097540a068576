-- What a command prints, by the file that it reads.
use Rattle.std.specs.Prelude.{◌≡◌, ℕ, List, []}
use Rattle.cli.specs.Asks.{Order, Run, Tell, Live, Draw, Check, Explain, Why, Asm, Pack, Dis, Native, Migrate}
use Rattle.listing.specs.FileListing.{IsFileExplained}
use Rattle.block_order.specs.declared.blocks.Blocks.{Blocks}
use Rattle.listing.specs.RulePage.{page_text}
use Rattle.image_commands.specs.Asm.{IsAssembled}
use Rattle.image_commands.specs.Check.{IsAccepted, accepted_text}
use Rattle.image_commands.specs.Dis.{IsListing}
use Rattle.image_commands.specs.Files.{Content}
use Rattle.image_commands.specs.Migrate.{MakesState}
use Rattle.image_commands.specs.Native.{IsMachineCode}
use Rattle.image_commands.specs.Pack.{IsMade}
use Rattle.tracer.specs.Draw.{IsDrawn}
use Rattle.tracer.specs.Live.{IsLiveText}
use Rattle.tracer.specs.Run.{IsRunText}
use Rattle.tracer.specs.Tell.{IsToldText}

-- the path of the file that an order reads first; `explain --why` reads none
abbrev pub path_of : Order → List ℕ
path_of (Run scenario) = scenario
path_of (Tell scenario json named) = scenario
path_of (Live scenario workers budget) = scenario
path_of (Draw scenario picture only) = scenario
path_of (Check image) = image
path_of (Asm source image state form) = source
path_of (Explain image) = image
path_of (Why rule) = rule
path_of (Pack source image state form name) = source
path_of (Dis image) = image
path_of (Native image code) = image
path_of (Migrate image state converted) = image

-- the order prints this text where that file has these bytes
abbrev pub IsReport : Content → Order → List ℕ → List ℕ → Type 0
IsReport content (Run scenario) bytes text = IsRunText content bytes text
IsReport content (Tell scenario json named) bytes text = IsToldText content json named bytes text
IsReport content (Live scenario workers budget) bytes text = IsLiveText content workers budget bytes text
IsReport content (Draw scenario picture only) bytes text = ((file : List ℕ) × IsDrawn content bytes only file) × (text ≡ [])
IsReport content (Check image) bytes text = (count : ℕ) × IsAccepted bytes count × (text ≡ accepted_text count)
IsReport content (Asm source image state form) bytes text = ((file : List ℕ) × IsAssembled bytes state form file) × (text ≡ [])
IsReport content (Explain image) bytes text = IsFileExplained bytes text
IsReport content (Why rule) bytes text = text ≡ page_text rule
IsReport content (Pack source image state form name) bytes text =
    ((file : List ℕ) × (blocks : Blocks) × IsMade state form name bytes file blocks)
    × (text ≡ [])
IsReport content (Dis image) bytes text = IsListing bytes text
IsReport content (Native image code) bytes text = ((file : List ℕ) × IsMachineCode bytes file) × (text ≡ [])
IsReport content (Migrate image state converted) bytes text = ((file : List ℕ) × MakesState content state bytes file) × (text ≡ [])
