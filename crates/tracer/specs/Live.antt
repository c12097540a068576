-- The command `live` (docs/FORMATS.md, "Commands").
use Rattle.std.specs.Prelude.{ℕ, List, []}
use Rattle.interp.specs.Image.{TheImage}
use Rattle.live.specs.Live.{IsLive}
use Rattle.live.specs.declared.ended.Ended.{Ended}
use Rattle.scenario.specs.Process.{names_of}
use Rattle.scenario.specs.declared.order.Allowed.TheVariants.{Inputs}
use Rattle.scenario.specs.declared.scenario.Scenario.{Scenario}
use Rattle.image_commands.specs.Files.{Content}
use Rattle.image_commands.specs.Loads.{IsScenarioWithImages}

-- the bytes are a scenario of inputs, and so many workers, each with this budget, leave this text of it with the images of its processes
pub record IsLiveText (content : Content) (workers budget : ℕ) (bytes text : List ℕ) : Type 0 where
  pub scenario : Scenario
  pub images : List TheImage
  pub loaded : IsScenarioWithImages content Inputs bytes scenario images
  pub ended : List Ended
  pub live : IsLive (names_of scenario.processes) images workers budget ended [] text
