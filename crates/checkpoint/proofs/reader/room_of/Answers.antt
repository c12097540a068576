use Rattle.std.proofs.Common.{arith}
use Rattle.checkpoint.proofs.FieldLemmas.{payload_short}
use Rattle.checkpoint.proofs.reader.room_of.Goals as goal

pub loop-preserved : goal.loop-preserved
loop-preserved c = omega (arith, c.loop.invariant, payload_short c.args.form c.loop.rest.now (c.in-Ok.payload.now, c.in-Ok.after.now) c.in-Ok.ensures.exact)
