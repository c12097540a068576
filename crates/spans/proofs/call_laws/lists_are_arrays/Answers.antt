use Rattle.spans.proofs.Slices.{takes-slice, writes-bytes}
use Rattle.spans.proofs.call_laws.lists_are_arrays.Goals as goal

pub returns-clause-takes : goal.returns-clause-takes
returns-clause-takes c = takes-slice

pub returns-clause-writes : goal.returns-clause-writes
returns-clause-writes c = writes-bytes
