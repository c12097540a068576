use Rattle.std.proofs.Common.{length}
use Rattle.c_sessions.proofs.lifetime.+load_each.Given as goal

abbrev pub decreases-load_each : goal.decreases-load_each
decreases-load_each l = length l.lengths.now
