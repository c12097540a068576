use Rattle.std.proofs.Common.{◌≡◌}
use Rattle.recovery.specs.Plan.{told_below}
use Rattle.recovery.proofs.collection.Collecting.has_all.Given as goal

abbrev pub invariant-loop-peer : goal.invariant-loop-peer
invariant-loop-peer l = l.all ≡ told_below l.self.told l.me l.peer
