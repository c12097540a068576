use Rattle.std.proofs.Common.{arith}
use Rattle.node.specs.Queue.{no_queue, released_again}
use Rattle.node.proofs.PageLemmas.{map-at}
use Rattle.node.proofs.reentry.release_again.Goals as goal

pub returns : goal.returns
returns c =
    let i = c.loop-place.invariant in
    map-at (released_again c.args.durable) c.args.logs.now.items c.loop-place.logs.items no_queue no_queue i.long (λ k l. i.below k (omega (arith, l, i.long, c.loop-place-test.false)))
