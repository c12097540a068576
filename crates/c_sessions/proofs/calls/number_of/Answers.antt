use Rattle.std.proofs.Common.{arith}
use Rattle.world.specs.Bounds.{WIRE}
use Rattle.c_sessions.specs.Inside.Calls.{HasKey}
use Rattle.c_sessions.proofs.calls.number_of.Goals as goal

pub overflow_cast-result : goal.overflow_cast-result
unfolding WIRE
overflow_cast-result c = let low : HasKey c.args.answer.now = c.requires in let at = rw c.in-Placed.is at low in omega (arith, at)
