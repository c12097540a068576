use Rattle.std.proofs.Common.{◌≡◌, ◌<◌, ◌+◌, length, get_or, arith, sym, ◌∙◌}
use Rattle.checkpoint.specs.Saved.{nothing_kept}
use Rattle.checkpoint.proofs.Restored.{own_more, queue_more, senders_below}
use Rattle.checkpoint.proofs.saved.Saved.restore.Goals as goal
use Rattle.checkpoint.proofs.saved.Saved.restore.Goals.{then-dst-me+in_ok-restore, else-dst-me}

pub new-requires-clause-senders : goal.new-requires-clause-senders
new-requires-clause-senders c = rw c.senders.ensures.value (senders_below c.args.self.now.me c.args.self.now.count c.args.self.now.senders c.senders.ensures.fits.few c.senders.ensures.fits.senders)

pub loop-dst-preserved : goal.loop-dst-preserved
loop-dst-preserved c =
    let s = c.args.self.now in
    let d = c.loop-dst.dst in
    let len : length s.queues ≡ s.count + 1 = c.me-me.ensures.fits.queues in
    let inside : d < length s.queues = omega (arith, c.loop-dst-test.true, c.count-dst-end.ensures.value, len) in
    elim c.if-dst-me.branch [
      | then-dst-me+in_ok-restore w ↦
          let k = c.index-queues-dst.result in
          let at : k ≡ get_or s.queues d k = rw (← c.queues-queues.ensures) c.index-queues-dst.is in
          w.log-is ∙ w.in_ok-restore.ensures ∙ queue_more s.me s.count d s.queues k c.loop-dst.log inside len at c.loop-dst.invariant
      | else-dst-me w ↦
          let own : d ≡ s.me = omega (arith, w.if-dst-me.false, c.me-me.ensures.value) in
          let at : nothing_kept ≡ get_or s.queues d nothing_kept = rw own (sym c.me-me.ensures.fits.nothing) in
          w.log-is ∙ own_more s.me s.count d s.queues c.loop-dst.log inside len at c.loop-dst.invariant
    ]
