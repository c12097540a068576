use Rattle.std.proofs.Common.{◌≡◌}
use Rattle.std.specs.Prelude.{replicate}
use Rattle.native.proofs.image_code.zeros.Given as goal

abbrev pub invariant-fill : goal.invariant-fill
invariant-fill l = l.list.items ≡ replicate l.counter 0
