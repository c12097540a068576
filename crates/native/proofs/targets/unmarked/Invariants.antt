use Rattle.std.proofs.Common.{◌≡◌, false}
use Rattle.std.specs.Prelude.{replicate}
use Rattle.native.proofs.targets.unmarked.Given as goal

abbrev pub invariant-fill : goal.invariant-fill
invariant-fill l = l.targets.items ≡ replicate l.counter false
