use Rattle.native.proofs.span_slot_tasks.tasks_of.Goals as goal

pub slots-init : goal.slots-init
slots-init c = c.in_ok-tasks.ensures.items
