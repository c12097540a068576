use Rattle.std.proofs.Common.{◌≡◌}
use Rattle.recovery.specs.Restoration.{asks_below}
use Rattle.recovery.proofs.restoration.Restoring.ask_all.Given as goal

abbrev pub invariant-loop-to : goal.invariant-loop-to
invariant-loop-to l = l.self ≡ asks_below l.to l.fn.self
