-- The command `run` in another style (docs/FORMATS.md, "Other ways to print a run").
use Rattle.std.specs.Prelude.{ℕ, Bool, List}
use Rattle.interp.specs.Image.{TheImage}
use Rattle.runner.specs.Reports.{IsTelling}
use Rattle.scenario.specs.Process.{names_of}
use Rattle.scenario.specs.declared.order.Allowed.TheVariants.{All}
use Rattle.scenario.specs.declared.scenario.Scenario.{Scenario}
use Rattle.image_commands.specs.Files.{Content}
use Rattle.image_commands.specs.Loads.{IsScenarioWithImages}

-- the bytes are a scenario, whose run with the images of its processes has this text: in JSON or not, and with names or not
pub record IsToldText (content : Content) (json named : Bool) (bytes text : List ℕ) : Type 0 where
  pub scenario : Scenario
  pub images : List TheImage
  pub loaded : IsScenarioWithImages content All bytes scenario images
  pub telling : IsTelling (names_of scenario.processes) images scenario.steps.items json named text
