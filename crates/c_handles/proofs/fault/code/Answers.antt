use Rattle.std.proofs.Common.{rules}
use Rattle.c_handles.proofs.fault.code.Goals as goal

pub returns-in-Err-clause-fault : goal.returns-in-Err-clause-fault
returns-in-Err-clause-fault g c = search rules
