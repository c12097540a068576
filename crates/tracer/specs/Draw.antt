-- The command `draw` (docs/FORMATS.md, "Commands").
use Rattle.std.specs.Prelude.{ℕ, Bool, List, length}
use Rattle.interp.specs.Image.{TheImage}
use Rattle.diagram.specs.Picture.{IsPicture}
use Rattle.diagram.specs.Run.{TheRun}
use Rattle.runner.specs.Run.{IsChronicle}
use Rattle.scenario.specs.declared.order.Allowed.TheVariants.{All}
use Rattle.scenario.specs.declared.scenario.Scenario.{Scenario}
use Rattle.image_commands.specs.Files.{Content}
use Rattle.image_commands.specs.Loads.{IsScenarioWithImages}

-- the bytes are a scenario, and its orders lead with the images of its processes to a run with a picture of this text: of all packets,
-- or of
-- messages alone
pub record IsDrawn (content : Content) (bytes : List ℕ) (only : Bool) (text : List ℕ) : Type 0 where
  pub scenario : Scenario
  pub images : List TheImage
  pub loaded : IsScenarioWithImages content All bytes scenario images
  pub run : TheRun
  pub chronicle : IsChronicle images scenario.steps.items run.entries run.moments run.sent run.shown
  pub picture : IsPicture (length scenario.processes.entries) run only text
