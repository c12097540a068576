use Rattle.std.proofs.Common.{◌≡◌, take}
use Rattle.node.specs.Status.{entries_kept}
use Rattle.node.proofs.queries.entries.Given as goal

abbrev pub invariant-loop-log : goal.invariant-loop-log
invariant-loop-log l = l.entries ≡ entries_kept (take l.log-index l.logs)
