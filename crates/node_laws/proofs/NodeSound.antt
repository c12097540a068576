-- What a node that is up says of lives
use Rattle.std.proofs.Common.{◌≡◌, ℕ, zero, suc, ◌+◌, ◌-◌, ◌≤◌, List, length, Bool, true, false, refl, sym, ap, ◌∙◌, subst}
use Rattle.std.specs.Prelude.{Option, Some, None, is_none, is_some, not, ◌&&◌, ◌||◌, ◌==◌, nat_lt, nat_le, slice_index_or}
use Rattle.rsn.specs.Receipts.{numbers_of, acknowledged_of, run_of}
use Rattle.packets.specs.declared.packet.Body as bodies
use Rattle.packets.specs.declared.packet.Body.TheVariants as packets
use Rattle.packets.specs.declared.packet.NodePacket.{NodePacket}
use Rattle.packets.specs.Packet.{is_exact, flags_of}
use Rattle.packets.proofs.Reports.{lost-is}
use Rattle.node.specs.declared.job.OpenJob.{OpenJob}
use Rattle.node.specs.declared.job.Given.{Given}
use Rattle.node.specs.Queue.{payload_of, number_of, is_kept}
use Rattle.node.specs.Node.{TheNode, log_at, posts, packet_of, worked, number_of as job_number, numbered, counted, tells, covered_of}
use Rattle.node.specs.Pages.{told_all, told_of, restored_all, restored_of}
use Rattle.node.specs.Answers.{heard_of, hears, asked_by, works_for, obeys, resumed_by}
use Rattle.node.specs.Transmission.{delivers, sends, first_to_send, many_to_send, unlocked, released_to, released_below, released, resends, resent, is_told_at, renumbers, renumbered, ticked_below, ticked}
use Rattle.node.specs.Checkpoints.{may_freeze, froze, thawed, says_covered, says_below, thaws, saved}
use Rattle.node.specs.Calls.{takes_more, delivered, recorded_by, acknowledged_by, did_work, told, is_for, handed}
use Rattle.node.proofs.Lists.{all-pushed}
use Rattle.node.proofs.Steps.{by-if}
use Rattle.node_laws.proofs.Sound.{Says, IsSound, AreSound, exact-is}

-- it keeps its number, its life, and whether it is exact; and what waits to be sent is sound where it was
pub record Keeps (lives : ℕ → ℕ) (back : ℕ → Type 0) (old new : TheNode) : Type 0 where
  pub me : new.me ≡ old.me
  pub life : new.life ≡ old.life
  pub exact : new.exact ≡ old.exact
  pub out : AreSound lives back old.out → AreSound lives back new.out

pub self : (lives : ℕ → ℕ) (back : ℕ → Type 0) (n : TheNode) → Keeps lives back n n
self lives back n = record { me = refl; life = refl; exact = refl; out = λ o. o }

-- what follows from a node, step by step
module _ (lives : ℕ → ℕ) (back : ℕ → Type 0) (first : TheNode) where
  abbrev On : TheNode → Type 0
  On = Keeps lives back first

  -- one packet more
  posting : (to : ℕ) (x : bodies.Body) (n : TheNode) → Says lives back n.me to x → On n → On (posts to x n)
  posting to x n h s = record { me = s.me; life = s.life; exact = s.exact; out = λ o. all-pushed (IsSound lives back) n.out (packet_of n to x) (s.out o) h }

  -- ---- messages and numbers

  delivering : (to ssn : ℕ) (n : TheNode) → On n → On (delivers to ssn n)
  delivering to ssn n s = posting to (packets.Delivery n.life ssn (payload_of ssn (log_at n.logs to))) n tt s

  sending : (to from k : ℕ) (n : TheNode) → On n → On (sends to from k n)
  sending to from zero n s = s
  sending to from (suc k) n s = delivering to (from + k + 1) (sends to from k n) (sending to from k n s)

  releasing-to : (to : ℕ) (n : TheNode) → On n → On (released_to to n)
  releasing-to to n s =
      let m : TheNode = unlocked to n in
      let above : ℕ = (log_at n.logs to).released in
      sending to (first_to_send above (log_at m.logs to)) (many_to_send m.limits.tick above (log_at m.logs to)) m (record { me = s.me; life = s.life; exact = s.exact; out = s.out })

  releasing-below : (me d : ℕ) (n : TheNode) → On n → On (released_below me d n)
  releasing-below me zero n s = s
  releasing-below me (suc d) n s =
      let m : TheNode = released_below me d n in
      by-if On (d == me) m (released_to d m) (λ e. releasing-below me d n s) (λ e. releasing-to d m (releasing-below me d n s))

  releasing : (n : TheNode) → On n → On (released n)
  releasing n s = releasing-below n.me (n.count + 1) n s

  sending-again : (to k left i : ℕ) (n : TheNode) → On n → On (resends to i k left n)
  sending-again to zero left i n s = s
  sending-again to (suc k) zero i n s = s
  sending-again to (suc k) (suc left) i n s =
      by-if On (is_none (number_of (i + 1) (log_at n.logs to))) (resends to (i + 1) k left (delivers to (i + 1) n)) (resends to (i + 1) k (suc left) n)
      (λ e. sending-again to k left (i + 1) (delivers to (i + 1) n) (delivering to (i + 1) n s)) (λ e. sending-again to k (suc left) (i + 1) n s)

  telling : (to ssn : ℕ) (n : TheNode) → On n → On (tells to ssn n)
  telling to ssn n s = posting to (packets.Number n.life ssn (n.base + slice_index_or (numbers_of to n.receipts) (ssn - covered_of to n - 1) 0)) n tt s

  numbers-again : (to place k left : ℕ) (n : TheNode) → On n → On (renumbers to place k left n)
  numbers-again to place zero left n s = s
  numbers-again to place (suc k) zero n s = s
  numbers-again to place (suc k) (suc left) n s =
      let m : TheNode = tells to (covered_of to n + place + 1) n in
      by-if On (is_told_at to place n) (renumbers to (place + 1) k (suc left) n) (renumbers to (place + 1) k left m) (λ e. numbers-again to (place + 1) k (suc left) n s)
      (λ e. numbers-again to (place + 1) k left m (telling to (covered_of to n + place + 1) n s))

  ticking-below : (me d : ℕ) (n : TheNode) → On n → On (ticked_below me d n)
  ticking-below me zero n s = s
  ticking-below me (suc d) n s =
      let m : TheNode = ticked_below me d n in
      let o : TheNode = resent d m in
      let here : On m = ticking-below me d n s in
      let many : ℕ = run_of (acknowledged_of d o.receipts) in
      by-if On (d == me) m (renumbered d o) (λ e. here)
      (λ e. numbers-again d many (length (numbers_of d o.receipts) - many) o.limits.tick o (sending-again d ((log_at m.logs d).released - (log_at m.logs d).dropped) m.limits.tick (log_at m.logs d).dropped m here))

  pub ticks : (n : TheNode) → On n → On (ticked n)
  ticks n s = by-if On n.frozen n (ticked_below n.me (n.count + 1) n) (λ e. s) (λ e. ticking-below n.me (n.count + 1) n s)

  -- ---- checkpoints

  pub freezes : (n : TheNode) → On n → On (froze n)
  freezes n s = by-if On (may_freeze n) (record n { frozen = true }) n (λ e. record { me = s.me; life = s.life; exact = s.exact; out = s.out }) (λ e. s)

  saying : (me d : ℕ) (n : TheNode) → On n → On (says_below me d n)
  saying me zero n s = s
  saying me (suc d) n s =
      let m : TheNode = says_below me d n in
      let here : On m = saying me d n s in
      by-if On (d == me) m (says_covered d m) (λ e. here) (λ e. by-if On (nat_lt 0 (covered_of d m)) (posts d (packets.Saved (covered_of d m)) m) m (λ t. posting d (packets.Saved (covered_of d m)) m tt here) (λ t. here))

  pub saves : (n : TheNode) → On n → On (saved n)
  saves n s =
      let o : TheNode = released (thawed n) in
      by-if On n.frozen (thaws n) n (λ e. saying o.me (o.count + 1) o (releasing (thawed n) (record { me = s.me; life = s.life; exact = s.exact; out = s.out }))) (λ e. s)

  -- ---- its handler ran

  pub works : (state : List ℕ) (given : List Given) (o : Option OpenJob) (n : TheNode) → On n → On (did_work state given o n)
  works state given None n s = s
  works state given (Some j) n s = posting j.sender (job_number j n) (worked j state given n) tt (record { me = s.me; life = s.life; exact = s.exact; out = s.out })

  -- ---- what it is told

  delivery : (from life ssn : ℕ) (x : List ℕ) (n : TheNode) → On n → On (delivered from life ssn x n)
  delivery from life ssn x n s =
      let place : ℕ = ssn - covered_of from n - 1 in
      let known : ℕ = length (numbers_of from n.receipts) in
      let opened : TheNode = record n { working = Some (record { sender = from; ssn = ssn; payload = x }) } in
      by-if On (is_some n.working || not (life == slice_index_or n.heard from 0)) n _ (λ e. s)
      (λ e. by-if On (nat_le ssn (covered_of from n)) (posts from (packets.Saved (covered_of from n)) n) _ (λ f. posting from (packets.Saved (covered_of from n)) n tt s)
      (λ f. by-if On (nat_lt place known) (tells from ssn n) _ (λ g. telling from ssn n s)
      (λ g. by-if On ((place == known) && takes_more n) opened n (λ h. record { me = s.me; life = s.life; exact = s.exact; out = s.out }) (λ h. s))))

  number : (from life ssn k : ℕ) (n : TheNode) → On n → On (recorded_by from life ssn k n)
  number from life ssn k n s =
      let m : TheNode = numbered from ssn k n in
      by-if On ((life == slice_index_or n.heard from 0) && is_kept ssn (log_at n.logs from)) (posts from (packets.Acknowledgement life k) m) n
      (λ e. posting from (packets.Acknowledgement life k) m tt (record { me = s.me; life = s.life; exact = s.exact; out = s.out })) (λ e. s)

  acknowledgement : (life k : ℕ) (n : TheNode) → On n → On (acknowledged_by life k n)
  acknowledgement life k n s =
      let m : TheNode = counted (k - n.base) n in
      by-if On ((life == n.life) && nat_lt n.base k && nat_le k (n.base + length n.receipts.senders) && not (slice_index_or n.receipts.acknowledged (k - n.base - 1) false)) (released m) n
      (λ e. releasing m (record { me = s.me; life = s.life; exact = s.exact; out = s.out })) (λ e. s)

  -- a page of one that is exact, in its life of now
  page-says : (n : TheNode) → n.exact ≡ true → (done : Bool) → is_exact (flags_of done false n.exact) ≡ true
  page-says n exact done = ap (λ b. is_exact (flags_of done false b)) exact ∙ exact-is done false

  asking : (d i k : ℕ) (n : TheNode) → n.exact ≡ true → n.life ≡ lives n.me → i ≤ lives d → On n → On (asked_by d i k n)
  asking d i k n exact life low s =
      let m : TheNode = hears d i n in
      let P : TheNode → Type 0 = λ z. (z.me ≡ n.me) × On z in
      let here : P m = by-if P (nat_lt (heard_of d n) i) _ n (λ e. (refl, record { me = s.me; life = s.life; exact = s.exact; out = s.out })) (λ e. (refl, s)) in
      let sound : Says lives back n.me d (told_of d i k n) = (low, λ w e. (lost-is (told_all d k n) n.exact, (page-says n exact (told_all d k n), life))) in
      by-if On (nat_lt i (heard_of d n)) n (posts d (told_of d i k n) m) (λ e. s) (λ e. posting d (told_of d i k n) m (subst (λ p. Says lives back p d (told_of d i k n)) (sym here.0) sound) here.1)

  resuming : (d i k r : ℕ) (n : TheNode) → n.exact ≡ true → n.life ≡ lives n.me → i ≤ lives d → On n → On (resumed_by d i k r n)
  resuming d i k r n exact life low s =
      let m : TheNode = obeys d k n in
      let P : TheNode → Type 0 = λ z. (z.me ≡ n.me) × On z in
      let here : P m = by-if P (slice_index_or n.resumed d true) n _ (λ e. (refl, s)) (λ e. (refl, record { me = s.me; life = s.life; exact = s.exact; out = s.out })) in
      let sound : Says lives back n.me d (restored_of d i r n) = (low, λ w e. (page-says n exact (restored_all d r n), life)) in
      by-if On (not (i == heard_of d n) || works_for d n.working) n (posts d (restored_of d i r n) m) (λ e. s) (λ e. posting d (restored_of d i r n) m (subst (λ p. Says lives back p d (restored_of d i r n)) (sym here.0) sound) here.1)

  told-on : (from to : ℕ) (b : bodies.Body) (n : TheNode) → n.exact ≡ true → n.life ≡ lives n.me → Says lives back from to b → On n → On (told from b n)
  told-on from to (packets.Delivery i ssn x) n exact life h s = delivery from i ssn x n s
  told-on from to (packets.Number i ssn k) n exact life h s = number from i ssn k n s
  told-on from to (packets.Acknowledgement i k) n exact life h s = acknowledgement i k n s
  told-on from to (packets.Saved k) n exact life h s = record { me = s.me; life = s.life; exact = s.exact; out = s.out }
  told-on from to (packets.Ask i k) n exact life h s = asking from i k n exact life h s
  told-on from to (packets.Resume i k r) n exact life h s = resuming from i k r n exact life h s
  told-on from to other n exact life h s = s

  pub hands : (x : NodePacket) (n : TheNode) → n.exact ≡ true → n.life ≡ lives n.me → IsSound lives back x → On n → On (handed x n)
  hands x n exact life h s = by-if On (is_for n x) (told x.from x.body n) n (λ e. told-on x.from x.to x.body n exact life h s) (λ e. s)
