use Rattle.std.proofs.Common.{length}
use Rattle.image_commands.proofs.conversion.+show_all.Given as goal

abbrev pub decreases-show_all : goal.decreases-show_all
decreases-show_all l = length l.old.now
