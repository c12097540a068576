use Rattle.std.proofs.Common.{◌≡◌}
use Rattle.recovery.specs.Collection.{asks_below}
use Rattle.recovery.proofs.collection.Collecting.ask_all.Given as goal

abbrev pub invariant-loop-to : goal.invariant-loop-to
invariant-loop-to l = l.self ≡ asks_below l.me l.to l.fn.self
