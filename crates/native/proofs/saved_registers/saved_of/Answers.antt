use Rattle.std.proofs.Common.{◌≡◌, arith, refl}
use Rattle.std.proofs.lemmas.List.{get_or_read}
use Rattle.native.specs.SlotTasks.{task_at}
use Rattle.native.specs.declared.task.SlotTask.TheVariants as task
use Rattle.native.proofs.Preservation.{keeps_next, keeps_all, keeps_is}
use Rattle.native.proofs.saved_registers.saved_of.Goals as goal

pub loop-task-init : goal.loop-task-init
loop-task-init c = record { keeps = λ k t l f. absurd (omega arith); is = refl }

pub loop-task-preserved : goal.loop-task-preserved
loop-task-preserved c =
    let tasks = c.args.tasks.now in
    let i = c.loop-task.task-index in
    let v = c.task-item.result in
    let is : v ≡ task_at tasks i = get_or_read tasks _ _ (omega (arith, c.loop-task-test.true)) c.task-item.is task.Dead in
    keeps_next tasks c.loop-task.saved c.and_task-saved.result i v (omega (arith, c.loop-task-test.true)) is c.and_task-saved.ensures.value c.and_task-saved.ensures.more c.and_task-saved.ensures.writes c.loop-task.invariant

pub returns-clause-all : goal.returns-clause-all
returns-clause-all c = keeps_all c.args.tasks.now c.loop-task.saved c.loop-task.task-index c.loop-task.invariant (omega (arith, c.loop-task-test.false))

pub returns-clause-value : goal.returns-clause-value
returns-clause-value c = keeps_is c.args.tasks.now c.loop-task.saved c.loop-task.task-index c.loop-task.invariant (omega (arith, c.loop-task-test.false))
