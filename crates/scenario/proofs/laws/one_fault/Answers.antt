use Rattle.scenario.proofs.OneFault.{no_fault, one_fault}
use Rattle.scenario.proofs.laws.one_fault.Goals as goal

pub returns-clause-once : goal.returns-clause-once
returns-clause-once c = one_fault

pub returns-clause-none : goal.returns-clause-none
returns-clause-none c = no_fault
