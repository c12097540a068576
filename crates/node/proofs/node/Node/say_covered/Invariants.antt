use Rattle.std.proofs.Common.{◌≡◌}
use Rattle.node.specs.Checkpoints.{says_below}
use Rattle.node.proofs.node.Node.say_covered.Given as goal

abbrev pub invariant-loop-to : goal.invariant-loop-to
invariant-loop-to l = l.self ≡ says_below l.me l.to l.fn.self
