use Rattle.std.proofs.Common.{◌≡◌}
use Rattle.node.specs.Transmission.{sends}
use Rattle.node.proofs.node.Node.send.Given as goal

abbrev pub invariant-loop-sent : goal.invariant-loop-sent
invariant-loop-sent l = l.self ≡ sends l.to l.first l.sent l.fn.self
