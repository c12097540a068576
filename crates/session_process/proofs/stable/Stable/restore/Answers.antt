use Rattle.std.proofs.Common.{◌≡◌, length, ap, ◌∙◌, arith}
use Rattle.std.specs.Prelude.{slice_index_or}
use Rattle.sender_log.specs.Queue.{TheQueue}
use Rattle.sender_log.specs.Log.{queue_of}
use Rattle.checkpoint.specs.Saved.{TheSaved, nothing_kept, queue_again}
use Rattle.session_process.proofs.StableLemmas.{queue-at}
use Rattle.session_process.proofs.stable.Stable.restore.Goals as goal

pub restored-requires-clause-sent : goal.restored-requires-clause-sent
restored-requires-clause-sent c d =
    let queues = c.self.inside.saved.queues in
    let is : queue_of d c.in_ok-receipts.log ≡ queue_again (slice_index_or queues d nothing_kept) = ap (queue_of d) c.in_ok-receipts.ensures.log ∙ queue-at queues d in
    let first = ap (λ (q : TheQueue). q.first) is in
    let count = ap (λ (q : TheQueue). length q.payloads) is in
    let covered = ap (λ (s : TheSaved). length s.senders) c.self.view_is in
    omega (arith, first, count, covered, c.self.invariant.sent d, c.length.ensures.value)
