use Rattle.native.proofs.Told.{Telling}
use Rattle.native.proofs.slot_tasks.tasks_of.Given as goal

abbrev pub invariant-slots : goal.invariant-slots
invariant-slots l = Telling l.image.slots l.image.table l.image.len l.ops l.pool l.tasks.items l.slot
