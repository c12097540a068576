use Rattle.std.proofs.Common.{map}
use Rattle.interp.specs.Image.{image_in}
use Rattle.runner.proofs.Beginnings.{open-memory}
use Rattle.runner.proofs.player.Player.open.Goals as goal

pub want_of_memory-requires : goal.want_of_memory-requires
want_of_memory-requires c = open-memory (map image_in c.args.images.items) c.in-Err.refusal c.requires c.in-Err.ensures
