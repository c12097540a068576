use Rattle.std.proofs.Common.{◌≡◌}
use Rattle.node.specs.Transmission.{released_below}
use Rattle.node.proofs.node.Node.release.Given as goal

abbrev pub invariant-loop-to : goal.invariant-loop-to
invariant-loop-to l = l.self ≡ released_below l.me l.to l.fn.self
