use Rattle.std.proofs.Common.{◌≡◌, ℕ, ◌+◌, ◌-◌, ◌<◌, length, true, false, refl, sym, ap, ◌∙◌, arith}
use Rattle.std.specs.Prelude.{◌==◌, count_by, nat_lt, slice_index_or}
use Rattle.std.proofs.lemmas.Bool.Decides.{nat_tests}
use Rattle.std.proofs.lemmas.List.{length-set}
use Rattle.limits.specs.declared.TheConstants.{PARTIES}
use Rattle.replay.proofs.PlanLemmas.{length-numbers_from}
use Rattle.sender_log.specs.Log.{TheLog, queue_of}
use Rattle.checkpoint.specs.Saved.{TheKept, TheSaved, kept_of, nothing_kept, saved_of}
use Rattle.session_process.proofs.StableLemmas.{kept-at, none-above, counts-below, counts-above}
use Rattle.session_process.proofs.stable.Stable.of.Goals as goal

pub loop-sender-preserved : goal.loop-sender-preserved
loop-sender-preserved c =
    let v = c.loop-sender.invariant in
    let k = c.loop-sender.sender in
    let senders = c.args.receipts.now.senders in
    let small : k < length c.loop-sender.counts = omega (arith, v.wide) in
    let is : c.next.result - 1 ≡ count_by (λ y. y == k) senders = omega (arith, c.next.ensures.value, length-numbers_from k 0 senders) in
    record {
      wide = length-set c.loop-sender.counts k (c.next.result - 1) ∙ v.wide;
      counted = counts-below c.loop-sender.counts (λ x. count_by (λ y. y == x) senders) k (c.next.result - 1) small is v.counted;
      zero = counts-above c.loop-sender.counts (λ x. count_by (λ y. y == x) senders) k (c.next.result - 1) small is v.zero;
    }

pub invariant_of-result : goal.invariant_of-result
invariant_of-result c =
    let v = c.loop-sender.invariant in
    let n = c.args.n in
    let saved = c.in_ok-saved.saved in
    let is : saved ≡ saved_of c.args.me n c.args.state.now c.args.receipts.now c.log.result.now = c.in_ok-saved.ensures ∙ c.in_ok-parsed.ensures in
    let senders : saved.senders ≡ c.args.receipts.now.senders = ap (λ (s : TheSaved). s.senders) is in
    let all : c.loop-sender.sender ≡ n + 1 = omega arith in
    let inside : (x : ℕ) → x < n + 1 → slice_index_or c.loop-sender.counts x 0 ≡ count_by (λ y. y == x) saved.senders =
    (λ x l. v.counted x (omega (arith, all, l)) ∙ ap (λ xs. count_by (λ y. y == x) xs) (sym senders)) in
    let above : (x : ℕ) → x < PARTIES → n < x → slice_index_or c.loop-sender.counts x 0 ≡ count_by (λ y. y == x) saved.senders =
    (λ x small l. v.zero x small (omega (arith, all, l)) ∙ sym (none-above c.args.me n x l c.args.receipts.now.senders c.requires.senders) ∙ ap (λ xs. count_by (λ y. y == x) xs) (sym senders)) in
    record {
      counts_are = λ x small. elim (nat_lt x (n + 1)) as (λ b. nat_lt x (n + 1) ≡ b → slice_index_or c.loop-sender.counts x 0 ≡ count_by (λ y. y == x) saved.senders) [
        | true ↦ λ e. inside x (grind (arith, nat_tests))
        | false ↦ λ e. above x small (grind (arith, nat_tests))
      ] refl;
      sent = λ d.
          let kept : slice_index_or saved.queues d nothing_kept ≡ kept_of (queue_of d c.log.result.now) = ap (λ (s : TheSaved). slice_index_or s.queues d nothing_kept) is ∙ kept-at c.log.result.now.queues d in
          let log : kept_of (queue_of d c.log.result.now) ≡ kept_of (queue_of d c.args.outbox.now.log) = ap (λ (l : TheLog). kept_of (queue_of d l)) c.log.ensures.value in
          let first = ap (λ (k : TheKept). k.first) (kept ∙ log) in
          let count = ap (λ (k : TheKept). length k.payloads) (kept ∙ log) in
          omega (arith, first, count, c.log.ensures.bound d, c.requires.made, ap length senders);
    }
