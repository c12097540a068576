use Rattle.std.proofs.Common.{◌≡◌}
use Rattle.native.specs.Targets.{marked}
use Rattle.native.proofs.targets.targets_of.Given as goal

abbrev pub invariant-slots : goal.invariant-slots
invariant-slots l = l.targets.items ≡ marked l.tasks l.slot
