-- Those below the index have forgotten, and the others are as they were
use Rattle.std.proofs.Common.{◌≡◌, ◌++◌, map, take, drop}
use Rattle.session_process.specs.Process.{unnumbered_at}
use Rattle.machine.proofs.machine.Machine.forget_after.Given as goal

abbrev pub invariant-loop-process : goal.invariant-loop-process
invariant-loop-process l = l.process-items ≡ map (unnumbered_at l.p l.rsn) (take l.process-index l.initial.process-items) ++ drop l.process-index l.initial.process-items
