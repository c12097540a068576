use Rattle.std.proofs.Common.{rules}
use Rattle.c_handles.proofs.buffer.measure.Goals as goal

pub returns-then-bytes-out : goal.returns-then-bytes-out
returns-then-bytes-out g c = search rules
