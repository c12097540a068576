-- The command `run` (docs/FORMATS.md, "Commands").
use Rattle.std.specs.Prelude.{ℕ, List, []}
use Rattle.interp.specs.Image.{TheImage}
use Rattle.runner.specs.Run.{IsCut, IsRun}
use Rattle.scenario.specs.Process.{names_of}
use Rattle.scenario.specs.declared.order.Allowed.TheVariants.{All}
use Rattle.scenario.specs.declared.scenario.Scenario.{Scenario}
use Rattle.image_commands.specs.Files.{Content}
use Rattle.image_commands.specs.Loads.{IsScenarioWithImages}

-- the bytes are a scenario, whose run with the images of its processes has this text
pub record IsRunText (content : Content) (bytes text : List ℕ) : Type 0 where
  pub scenario : Scenario
  pub images : List TheImage
  pub loaded : IsScenarioWithImages content All bytes scenario images
  pub run : IsRun (names_of scenario.processes) images scenario.steps.items [] text

-- the same of its first orders, and of the lines of those that were refused
pub record IsCutText (content : Content) (bytes text : List ℕ) : Type 0 where
  pub scenario : Scenario
  pub images : List TheImage
  pub loaded : IsScenarioWithImages content All bytes scenario images
  pub cut : IsCut images scenario.steps.items [] text
