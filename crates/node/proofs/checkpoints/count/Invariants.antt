use Rattle.std.proofs.Common.{◌≡◌, ◌++◌, take, drop}
use Rattle.node.specs.Checkpoints.{counts_from}
use Rattle.node.proofs.checkpoints.count.Given as goal

abbrev pub invariant-loop-q : goal.invariant-loop-q
invariant-loop-q l = l.covered.items ≡ counts_from 0 l.receipts (take l.q l.fn.covered.items) ++ drop l.q l.fn.covered.items
