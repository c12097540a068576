use Rattle.native.proofs.Uncounted.{Filled, Settling}
use Rattle.native.proofs.pending.pending_of.Given as goal

abbrev pub invariant-fill : goal.invariant-fill
invariant-fill l = Filled l.pending.items l.counter

abbrev pub invariant-passes : goal.invariant-passes
invariant-passes l = Settling l.tasks l.pending.items l.counter
