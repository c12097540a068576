use Rattle.std.proofs.Common.{◌≡◌, replicate}
use Rattle.recovery.specs.Collected.{none_told}
use Rattle.recovery.proofs.collection.Collecting.begin.Given as goal

abbrev pub invariant-loop-made : goal.invariant-loop-made
invariant-loop-made l = l.told.items ≡ replicate l.made (none_told l.kept.length)
