use Rattle.std.proofs.Common.{◌≡◌, ◌++◌, take, map}
use Rattle.recovery.specs.Own.{queue_of}
use Rattle.recovery.proofs.own.add.Given as goal

abbrev pub invariant-loop-log : goal.invariant-loop-log
invariant-loop-log l = l.queues.items ≡ l.fn.queues.items ++ map queue_of (take l.log-index l.logs)
