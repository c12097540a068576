use Rattle.std.proofs.Common.{◌≡◌, map, take}
use Rattle.interp.specs.Image.{image_in}
use Rattle.image_commands.specs.Loads.{AreLoaded}
use Rattle.image_commands.proofs.loader.load_images.Given as goal

abbrev pub invariant-loop-index : goal.invariant-loop-index
invariant-loop-index g l =
    AreLoaded (g.F.Files.content l.fn.files) (take l.index l.processes.entries) (map image_in l.images.items)
    × (g.F.Files.content l.files ≡ g.F.Files.content l.fn.files)
