use Rattle.native.proofs.Preservation.{KeptTo}
use Rattle.native.proofs.saved_registers.saved_of.Given as goal

abbrev pub invariant-loop-task : goal.invariant-loop-task
invariant-loop-task l = KeptTo l.tasks l.saved l.task-index
