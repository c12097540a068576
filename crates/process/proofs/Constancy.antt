-- What a tick and a durable checkpoint leave as it was
use Rattle.std.proofs.Common.{◌≡◌, ◌∙◌, ◌+◌, ◌-◌, ℕ, zero, suc, List, length, refl}
use Rattle.std.specs.Prelude.{◌==◌, nat_lt, is_none, slice_index_or, slice_set}
use Rattle.packets.specs.declared.packet.Body.{Body}
use Rattle.packets.specs.declared.packet.Body.TheVariants as body
use Rattle.rsn.specs.Receipts.{numbers_of, acknowledged_of, run_of}
use Rattle.node.specs.Queue.{TheQueue}
use Rattle.node.specs.Queue as queue
use Rattle.node.specs.Node.{TheNode, log_at, posts, tells, covered_of}
use Rattle.node.specs.Transmission as sending
use Rattle.node.specs.Checkpoints as saving
use Rattle.process.proofs.Holdings.{either}

-- nothing that a packet or a log is changes what it received and what its checkpoint covers
module _ {X : Type 0} (f : TheNode → X) (posts-stay : (to : ℕ) (b : Body) (n : TheNode) → f (posts to b n) ≡ f n) (logs-stay : (logs : List TheQueue) (n : TheNode) → f (record n { logs = logs }) ≡ f n) where
  sends-stay : (to first k : ℕ) (n : TheNode) → f (sending.sends to first k n) ≡ f n
  sends-stay to first zero n = refl
  sends-stay to first (suc k) n =
      let m = sending.sends to first k n in
      posts-stay to (body.Delivery m.life (first + k + 1) (queue.payload_of (first + k + 1) (log_at m.logs to))) m ∙ sends-stay to first k n

  released-to-stay : (to : ℕ) (n : TheNode) → f (sending.released_to to n) ≡ f n
  released-to-stay to n =
      let m = sending.unlocked to n in
      let above = (log_at n.logs to).released in
      sends-stay to (sending.first_to_send above (log_at m.logs to)) (sending.many_to_send m.limits.tick above (log_at m.logs to)) m ∙ logs-stay (slice_set n.logs to (queue.released_by (sending.freed n) (log_at n.logs to))) n

  released-stay : (me d : ℕ) (n : TheNode) → f (sending.released_below me d n) ≡ f n
  released-stay me zero n = refl
  released-stay me (suc d) n =
      let m = sending.released_below me d n in
      either (λ (x : TheNode). f x ≡ f n) (d == me) m (sending.released_to d m) (released-stay me d n) (released-to-stay d m ∙ released-stay me d n)

  says-stay : (me d : ℕ) (n : TheNode) → f (saving.says_below me d n) ≡ f n
  says-stay me zero n = refl
  says-stay me (suc d) n =
      let m = saving.says_below me d n in
      let before : f m ≡ f n = says-stay me d n in
      let said : f (saving.says_covered d m) ≡ f m = either (λ (x : TheNode). f x ≡ f m) (nat_lt 0 (covered_of d m)) (posts d (body.Saved (covered_of d m)) m) m (posts-stay d (body.Saved (covered_of d m)) m) refl in
      either (λ (x : TheNode). f x ≡ f n) (d == me) m (saving.says_covered d m) before (said ∙ before)

  thaws-stay : (n : TheNode) → f (saving.thaws n) ≡ f (saving.thawed n)
  thaws-stay n =
      let t = saving.thawed n in
      let m = sending.released t in
      says-stay m.me (m.count + 1) m ∙ released-stay t.me (t.count + 1) t

  resends-stay : (to first k left : ℕ) (n : TheNode) → f (sending.resends to first k left n) ≡ f n
  resends-stay to first zero left n = refl
  resends-stay to first (suc k) zero n = refl
  resends-stay to first (suc k) (suc left) n =
      let sent = sending.delivers to (first + 1) n in
      let again : f sent ≡ f n = posts-stay to (body.Delivery n.life (first + 1) (queue.payload_of (first + 1) (log_at n.logs to))) n in
      either (λ (x : TheNode). f x ≡ f n) (is_none (queue.number_of (first + 1) (log_at n.logs to))) (sending.resends to (first + 1) k left sent) (sending.resends to (first + 1) k (suc left) n)
      (resends-stay to (first + 1) k left sent ∙ again) (resends-stay to (first + 1) k (suc left) n)

  renumbers-stay : (to place k left : ℕ) (n : TheNode) → f (sending.renumbers to place k left n) ≡ f n
  renumbers-stay to place zero left n = refl
  renumbers-stay to place (suc k) zero n = refl
  renumbers-stay to place (suc k) (suc left) n =
      let told = tells to (covered_of to n + place + 1) n in
      let again : f told ≡ f n = posts-stay to (body.Number n.life (covered_of to n + place + 1) (n.base + slice_index_or (numbers_of to n.receipts) (covered_of to n + place + 1 - covered_of to n - 1) 0)) n in
      either (λ (x : TheNode). f x ≡ f n) (sending.is_told_at to place n) (sending.renumbers to (place + 1) k (suc left) n) (sending.renumbers to (place + 1) k left told)
      (renumbers-stay to (place + 1) k (suc left) n) (renumbers-stay to (place + 1) k left told ∙ again)

  ticked-below-stay : (me d : ℕ) (n : TheNode) → f (sending.ticked_below me d n) ≡ f n
  ticked-below-stay me zero n = refl
  ticked-below-stay me (suc d) n =
      let m = sending.ticked_below me d n in
      let sent = sending.resent d m in
      let before : f m ≡ f n = ticked-below-stay me d n in
      let again : f sent ≡ f m = resends-stay d (log_at m.logs d).dropped ((log_at m.logs d).released - (log_at m.logs d).dropped) m.limits.tick m in
      let told : f (sending.renumbered d sent) ≡ f sent = renumbers-stay d (run_of (acknowledged_of d sent.receipts)) (length (numbers_of d sent.receipts) - run_of (acknowledged_of d sent.receipts)) sent.limits.tick sent in
      either (λ (x : TheNode). f x ≡ f n) (d == me) m (sending.renumbered d sent) before (told ∙ again ∙ before)

  pub ticked-stay : (n : TheNode) → f (sending.ticked n) ≡ f n
  ticked-stay n = either (λ (x : TheNode). f x ≡ f n) n.frozen n (sending.ticked_below n.me (n.count + 1) n) refl (ticked-below-stay n.me (n.count + 1) n)

-- its checkpoint covers all, and nothing is behind it
pub covers : (n : TheNode) → ((saving.thaws n).receipts ≡ (saving.thawed n).receipts) × ((saving.thaws n).base ≡ n.base + length n.receipts.senders)
covers n = (thaws-stay (λ m. m.receipts) (λ to b m. refl) (λ l m. refl) n, thaws-stay (λ m. m.base) (λ to b m. refl) (λ l m. refl) n)
