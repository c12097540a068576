use Rattle.std.proofs.Common.{◌≡◌}
use Rattle.node.specs.Transmission.{ticked_below}
use Rattle.node.proofs.node.Node.tick.Given as goal

abbrev pub invariant-loop-to : goal.invariant-loop-to
invariant-loop-to l = l.self ≡ ticked_below l.me l.to l.fn.self
