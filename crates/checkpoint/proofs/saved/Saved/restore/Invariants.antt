use Rattle.std.proofs.Common.{◌≡◌, ◌++◌, ◌+◌, ◌-◌, take, map, replicate}
use Rattle.sender_log.specs.Queue.{no_queue}
use Rattle.checkpoint.specs.Saved.{queue_again}
use Rattle.checkpoint.proofs.saved.Saved.restore.Given as goal

abbrev pub invariant-loop-dst : goal.invariant-loop-dst
invariant-loop-dst l = l.log ≡ record { owner = l.self.me; queues = map queue_again (take l.dst l.self.queues) ++ replicate (l.self.count + 1 - l.dst) no_queue }
