use Rattle.native.proofs.Preservation.{saves_more}
use Rattle.native.proofs.saved_registers.saved_for.Goals as goal

pub returns-in-Placed-clause-all : goal.returns-in-Placed-clause-all
returns-in-Placed-clause-all c = saves_more c.args.tasks.now c.saved_of-saved.result c.and_register.result c.and_register.ensures.more c.saved_of-saved.ensures.all
