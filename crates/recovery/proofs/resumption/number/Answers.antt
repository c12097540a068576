use Rattle.std.proofs.Common.{[], arith}
use Rattle.node.specs.Queue.{no_queue}
use Rattle.node.specs.Suspension.{numbered_by}
use Rattle.node.proofs.Suspensions.{joined-at}
use Rattle.recovery.proofs.resumption.number.Goals as goal

pub returns : goal.returns
returns c =
    let i = c.loop-place.invariant in
    joined-at numbered_by c.args.codes.now c.args.logs.now.items c.loop-place.logs.items [] no_queue c.loop-place.place (omega (arith, c.requires, i.long, c.loop-place.auto)) (omega (arith, i.long, c.loop-place-test.false)) i.long i.below i.above
