use Rattle.std.proofs.Common.{◌≡◌, take}
use Rattle.node.specs.Node.{given_to}
use Rattle.node.proofs.commit.log.Given as goal

abbrev pub invariant-loop-done : goal.invariant-loop-done
invariant-loop-done l = l.logs.items ≡ given_to l.number (take l.done l.given) l.fn.logs.items
