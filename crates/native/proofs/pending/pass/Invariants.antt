use Rattle.native.proofs.Uncounted.{Passed}
use Rattle.native.proofs.pending.pass.Given as goal

abbrev pub invariant-loop-slot : goal.invariant-loop-slot
invariant-loop-slot l = Passed l.tasks l.initial.pending.items l.pending.items l.changed l.slot
