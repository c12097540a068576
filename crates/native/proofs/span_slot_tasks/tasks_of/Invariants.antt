use Rattle.std.proofs.Common.{◌≡◌}
use Rattle.native.specs.SpanTasks.{tasks_in}
use Rattle.native.proofs.span_slot_tasks.tasks_of.Given as goal

abbrev pub invariant-slots : goal.invariant-slots
invariant-slots l = l.tasks.items ≡ tasks_in l.slots l.state_len l.slot
