-- What a page tells is what the log has
use Rattle.std.proofs.Common.{◌≡◌, ◌≢◌, ℕ, suc, ◌+◌, ◌<◌, ◌≤◌, [], ◌++◌, length, Bool, true, false, refl, sym, ap, ◌∙◌, arith}
use Rattle.std.specs.Prelude.{Option, Some, None, ◌&&◌, not, nat_lt, nat_le, slice_index_or}
use Rattle.std.proofs.lemmas.Bool.Decides.{nat_tests}
use Rattle.world.specs.declared.message.Message.{Message}
use Rattle.world.specs.History.{nth}
use Rattle.world.specs.Phases.{is_down}
use Rattle.world.specs.Logs.{sent, is_entry}
use Rattle.world.specs.Plan.{is_number, message_of, logged_as, first_below}
use Rattle.cluster.specs.Cluster.{Cluster}
use Rattle.cluster.specs.Rules.{entry_of}
use Rattle.packets.specs.Pages.{entries_from}
use Rattle.packets.specs.Says.{first_told}
use Rattle.packets.proofs.PageLemmas.{all-told}
use Rattle.packets.proofs.Reports.{found_as, first-split, told-from, entries-over, logged-when, logged-off}
use Rattle.node.specs.Queue.{TheQueue, is_kept}
use Rattle.node.specs.Node.{TheNode, log_at}
use Rattle.node.specs.Pages.{entries_in}
use Rattle.node.specs.Stands.{Stands}
use Rattle.packets.proofs.Lists.{get-behind, get-some}
use Rattle.node.proofs.Records.{sent-is, sent-size, entry-is}

module _ (n : TheNode) (c : Cluster) (d : ℕ) (s : Stands n c n.me) (low : d ≤ c.world.count) (other : d ≢ n.me) where
  abbrev q : TheQueue
  q = log_at n.logs d

  logged : (m i : ℕ) → i < length q.payloads → logged_as c.world d m n.me (suc (q.dropped + i)) ≡ found_as n.me m (suc (q.dropped + i)) (slice_index_or q.payloads i []) (slice_index_or q.numbers i None)
  logged m i l =
      let ssn : ℕ = suc (q.dropped + i) in
      let k = s.logs d low other in
      let kept : is_kept ssn q ≡ true = (let above : nat_lt q.dropped ssn ≡ true = grind (arith, nat_tests) in let within : nat_le ssn (q.dropped + length q.payloads) ≡ true = grind (arith, nat_tests) in rw (above, within) refl) in
      let place : ssn ≡ suc (length k.before + i) = omega (arith, k.many) in
      let said : nth (sent c.world n.me d) ssn ≡ Some (slice_index_or q.payloads i []) =
      ap (λ h. nth h ssn) (sent-is n c n.me d s ∙ sym k.joined) ∙ ap (nth (k.before ++ q.payloads)) place ∙ get-behind k.before q.payloads i (slice_index_or q.payloads i []) (get-some q.payloads i l) in
      logged-when (is_entry c.world n.me d ssn) (c.world.numbers n.me d ssn) (slice_index_or q.numbers i None) (nth (sent c.world n.me d) ssn) n.me m ssn (slice_index_or q.payloads i [])
      (entry-is n c n.me d ssn s low other kept) (sym (k.numbers_are i l)) said

  unlogged : (m i : ℕ) → i < suc q.dropped → logged_as c.world d m n.me i ≡ None
  unlogged m i l =
      let k = s.logs d low other in
      let off : nat_lt (c.world.trims n.me d) i ≡ false = (let e : c.world.trims n.me d ≡ q.dropped = k.dropped_is in grind (arith, nat_tests)) in
      let none : is_entry c.world n.me d i ≡ false = no_entry (not (is_down (c.world.phase n.me))) (nat_lt (c.world.trims n.me d) i) (nat_le i (length (sent c.world n.me d))) off in
      logged-off (is_entry c.world n.me d i) (is_number m (c.world.numbers n.me d i)) (message_of n.me i (nth (sent c.world n.me d) i)) none
    where
      no_entry : (a b e : Bool) → b ≡ false → (a && b && e) ≡ false
      no_entry true true e f = absurd (cc)
      no_entry true false e f = refl
      no_entry false b e f = refl

  -- what the log has under a number
  pub log-told : (k m : ℕ) → k < m → entry_of c n.me d m ≡ first_told n.me (entries_in k q) m
  log-told k m l =
      let f : ℕ → Option Message = logged_as c.world d m n.me in
      let r = s.logs d low other in
      let size : suc (length (sent c.world n.me d)) ≡ suc q.dropped + length q.payloads = omega (arith, ap length (sent-is n c n.me d s), sent-size n c n.me d s low other) in
      let listed : first_told n.me (entries_from k q.dropped q.payloads q.numbers) m ≡ first_below (λ i. f (suc q.dropped + i)) (length q.payloads) = told-from n.me k m q.dropped q.payloads q.numbers (λ i. f (suc q.dropped + i)) l r.as_many
      (λ i z. ap f (let e : suc q.dropped + i ≡ suc (q.dropped + i) = omega arith in e) ∙ logged m i z) in
      ap (first_below f) size ∙ first-split f (suc q.dropped) (length q.payloads) (λ i z. unlogged m i z) ∙ sym listed
      ∙ sym (all-told n.me (suc k) [] (entries_from k q.dropped q.payloads q.numbers) m (entries-over k q.dropped q.payloads q.numbers) tt)
