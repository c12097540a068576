use Rattle.std.proofs.Common.{length, take}
use Rattle.machine.specs.Openings.{AreIdle}
use Rattle.machine.proofs.machine.idle_processes.Given as goal

abbrev pub invariant-loop-len : goal.invariant-loop-len
invariant-loop-len l = AreIdle (length l.lengths) (take l.len-index l.lengths) l.processes.items
