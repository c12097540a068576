use Rattle.native.proofs.Told.{value_of, told_of}
use Rattle.native.proofs.slot_tasks.task_there.Goals as goal

pub returns-clause-value : goal.returns-clause-value
returns-clause-value c =
    value_of c.args.image.now.form c.is_reached-reached.ensures.typing c.requires c.args.slot c.only_if.result c.op_task.result c.is_reached-reached.result c.is_reached-reached.ensures.reached c.only_if.ensures c.op_task.ensures

pub returns-clause-told : goal.returns-clause-told
returns-clause-told c =
    told_of c.args.image.now.form c.is_reached-reached.ensures.typing c.requires c.args.slot c.only_if.result c.op_task.result c.is_reached-reached.result c.is_reached-reached.ensures.reached c.only_if.ensures c.op_task.ensures
