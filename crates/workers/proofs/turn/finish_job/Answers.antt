use Rattle.std.proofs.Common.{refl}
use Rattle.world.specs.declared.call.Call.TheVariants.{Finish}
use Rattle.machine.specs.Arrival.{finished_of}
use Rattle.workers.proofs.Continuation.{continues-one}
use Rattle.workers.proofs.turn.finish_job.Goals as goal

pub returns-in-Ok-clause-session : goal.returns-in-Ok-clause-session
returns-in-Ok-clause-session g c =
    continues-one c.args.session.now c.finish.new.self c.args.seat.now c.finish.new.by (Finish c.args.done.task.who.me) (finished_of c.in-Ok.field-0) c.in-Ok.ensures.takes.1 refl
