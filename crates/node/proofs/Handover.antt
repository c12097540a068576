-- A packet is handed to a node, and a handler has run
use Rattle.std.proofs.Common.{◌≡◌, ◌≢◌, ℕ, ◌+◌, ◌-◌, ◌<◌, ◌≤◌, List, length, Bool, true, false, refl, ap, subst, arith}
use Rattle.std.specs.Prelude.{Option, Some, None, is_some, slice_get, slice_index_or, not, ◌&&◌, ◌||◌, ◌==◌, nat_lt, nat_le}
use Rattle.std.proofs.lemmas.Bool.Decides.{nat_tests}
use Rattle.rsn.specs.Receipts.{numbers_of}
use Rattle.theorems.proofs.Tests.{both, neither, not-false}
use Rattle.packets.specs.declared.packet.NodePacket.{NodePacket}
use Rattle.packets.specs.Packet.{in_range}
use Rattle.packets.specs.declared.packet.Body as bodies
use Rattle.packets.specs.declared.packet.Body.TheVariants as packets
use Rattle.cluster.specs.Parcels.{Body, Delivery, Number, Acknowledgement, Ask, Resume, Saved, In, parcel}
use Rattle.cluster.specs.Cluster.{Cluster}
use Rattle.node.specs.declared.node.TheConstants.{MOST_RECEIVED}
use Rattle.node.specs.declared.job.OpenJob.{OpenJob}
use Rattle.node.specs.declared.job.Given.{Given}
use Rattle.node.specs.Queue.{is_kept}
use Rattle.node.specs.Node.{TheNode, Within, MaySend, OfPeer, log_at, posts, tells, numbered, counted, covered_of}
use Rattle.node.specs.Transmission.{released}
use Rattle.node.specs.Calls.{delivered, takes_more, recorded_by, acknowledged_by, did_work, told, is_for, handed}
use Rattle.packets.specs.Says.{WasSaid}
use Rattle.node.specs.Stands.{Owes, Receives, Handles, IsHanded}
use Rattle.node.proofs.Views.{none-is}
use Rattle.node.proofs.Puts.{stays}
use Rattle.node.proofs.Steps.{owes-then, by-if}
use Rattle.node.proofs.Arrivals.{says-saved, tells-number, starts}
use Rattle.node.proofs.Records.{says-acknowledgement}
use Rattle.node.proofs.Acknowledgements.{counts}
use Rattle.node.proofs.Drops.{drops}
use Rattle.node.proofs.Sendings.{releasing}
use Rattle.node.proofs.Commits.{goes-worked}
use Rattle.node.proofs.Replies.{asks, resumes}

-- a packet that changes nothing
pub ignores : (given : Body) (from : ℕ) (n : TheNode) → Receives from given n n
ignores given from n c s g = stays n c s

module _ (from life ssn : ℕ) (x : List ℕ) (n : TheNode) (w : Within n) (live : n.frozen ≡ false) (low : from ≤ n.count) (other : from ≢ n.me) where
  abbrev P : TheNode → Type 0
  P new = Receives from (Delivery life ssn x) n new

  abbrev place : ℕ
  place = ssn - covered_of from n - 1

  abbrev known : ℕ
  known = length (numbers_of from n.receipts)

  abbrev opened : TheNode
  opened = record n { working = Some (record { sender = from; ssn = ssn; payload = x }) }

  tells-it : covered_of from n < ssn → place < known → P (tells from ssn n)
  tells-it above inside c s given = tells-number n from ssn low other above inside c s tt

  opens-job : (is_some n.working ≡ false) × (not (life == slice_index_or n.heard from 0) ≡ false) → covered_of from n < ssn → ((place == known) ≡ true) × (takes_more n ≡ true) → P opened
  opens-job idle above next =
      let here : (life == slice_index_or n.heard from 0) ≡ true = not-false (life == slice_index_or n.heard from 0) idle.1 in
      let heard : life ≡ slice_index_or n.heard from 0 = grind (arith, nat_tests) in
      let is : place ≡ known = (let t = next.0 in grind (arith, nat_tests)) in
      let a = both (nat_lt n.waiting n.limits.numbers && nat_lt (length n.receipts.senders) n.limits.receipts) (nat_lt (n.base + length n.receipts.senders) MOST_RECEIVED) next.1 in
      let b = both (nat_lt n.waiting n.limits.numbers) (nat_lt (length n.receipts.senders) n.limits.receipts) a.0 in
      let fewer : n.waiting < n.limits.numbers = (let t = b.0 in grind (arith, nat_tests)) in
      let room : n.waiting < 256 = omega (arith, fewer, w.allowed.numbers.1) in
      starts n from life ssn x live low other (none-is n.working idle.0) heard above is room

  delivers-to : P (delivered from life ssn x n)
  delivers-to =
      by-if P (is_some n.working || not (life == slice_index_or n.heard from 0)) n _ (λ e. ignores (Delivery life ssn x) from n)
      (λ e. by-if P (nat_le ssn (covered_of from n)) (posts from (packets.Saved (covered_of from n)) n) _ (λ f. says-saved n from (Delivery life ssn x) low other)
      (λ f. by-if P (nat_lt place known) (tells from ssn n) _ (λ g. tells-it (grind (arith, nat_tests)) (grind (arith, nat_tests)))
      (λ g. by-if P ((place == known) && takes_more n) opened n (λ h. opens-job (neither (is_some n.working) (not (life == slice_index_or n.heard from 0)) e) (grind (arith, nat_tests)) (both (place == known) (takes_more n) h))
      (λ h. ignores (Delivery life ssn x) from n))))

records : (from life ssn k : ℕ) (n : TheNode) → Within n → n.frozen ≡ false → from ≤ n.count → from ≢ n.me → Receives from (Number life ssn k) n (recorded_by from life ssn k n)
records from life ssn k n w live low other =
    by-if (λ new. Receives from (Number life ssn k) n new) ((life == slice_index_or n.heard from 0) && is_kept ssn (log_at n.logs from)) (posts from (packets.Acknowledgement life k) (numbered from ssn k n)) n
    (λ e. let t = both (life == slice_index_or n.heard from 0) (is_kept ssn (log_at n.logs from)) e in
    let here = t.0 in
    let heard : life ≡ slice_index_or n.heard from 0 = grind (arith, nat_tests) in
    says-acknowledgement n from life ssn k live low other heard (omega (arith, w.logs_wide, low)) t.1)
    (λ e. ignores (Number life ssn k) from n)

pub off : (b : Bool) → not b ≡ true → b ≡ false
off true e = absurd (cc)
off false e = refl

module _ (from life k : ℕ) (n : TheNode) (w : Within n) (live : n.frozen ≡ false) where
  abbrev fits : Bool
  fits = (life == n.life) && nat_lt n.base k && nat_le k (n.base + length n.receipts.senders)

  abbrev fresh : Bool
  fresh = not (slice_index_or n.receipts.acknowledged (k - n.base - 1) false)

  counts-it : (fits ≡ true) × (fresh ≡ true) → Receives from (Acknowledgement life k) n (released (counted (k - n.base) n))
  counts-it t =
      let a = both ((life == n.life) && nat_lt n.base k) (nat_le k (n.base + length n.receipts.senders)) t.0 in
      let b = both (life == n.life) (nat_lt n.base k) a.0 in
      let is : life ≡ n.life = (let u = b.0 in grind (arith, nat_tests)) in
      let above : n.base < k = (let u = b.1 in grind (arith, nat_tests)) in
      let within : k ≤ n.base + length n.receipts.senders = (let u = a.1 in grind (arith, nat_tests)) in
      owes-then (λ c. In (parcel from n.me (Acknowledgement life k)) c.parcels) n (counted (k - n.base) n) (released (counted (k - n.base) n))
      (counts n from life k (k - n.base) live is (omega (arith, above)) (omega (arith, above)) (omega (arith, within, above)) (off (slice_index_or n.receipts.acknowledged (k - n.base - 1) false) t.1))
      (releasing (counted (k - n.base) n) w.logs_wide)

  acknowledges : Receives from (Acknowledgement life k) n (acknowledged_by life k n)
  acknowledges =
      by-if (λ new. Receives from (Acknowledgement life k) n new) (fits && fresh) (released (counted (k - n.base) n)) n (λ e. counts-it (both fits fresh e)) (λ e. ignores (Acknowledgement life k) from n)

-- what a packet to the node says that is no page
said-me : (c : Cluster) (from to me : ℕ) (b y : Body) → to ≡ me → Some b ≡ Some y → In (parcel from to y) c.parcels → In (parcel from me b) c.parcels
said-me c from to me b y is e i =
    let same : y ≡ b = (cc) in
    subst (λ d. In (parcel from d b) c.parcels) is (subst (λ z. In (parcel from to z) c.parcels) same i)

-- each body
told-so : (from to : ℕ) (b : bodies.Body) (n : TheNode) → Within n → n.frozen ≡ false → from ≤ n.count → from ≢ n.me → to ≡ n.me → Owes (λ c. WasSaid c from to b) n (told from b n)
told-so from to (packets.Delivery i ssn x) n w live low other me c s put = delivers-to from i ssn x n w live low other c s (said-me c from to n.me (Delivery i ssn x) put.0 me put.1 put.2)
told-so from to (packets.Number i ssn k) n w live low other me c s put = records from i ssn k n w live low other c s (said-me c from to n.me (Number i ssn k) put.0 me put.1 put.2)
told-so from to (packets.Acknowledgement i k) n w live low other me c s put = acknowledges from i k n w live c s (said-me c from to n.me (Acknowledgement i k) put.0 me put.1 put.2)
told-so from to (packets.Saved k) n w live low other me c s put = drops n from k live low other (omega (arith, w.logs_wide, low)) c s (said-me c from to n.me (Saved k) put.0 me put.1 put.2)
told-so from to (packets.Ask i k) n w live low other me c s put = asks n from i k w live low other c s (said-me c from to n.me (Ask i k) put.0 me put.1 put.2)
told-so from to (packets.Resume i k a) n w live low other me c s put = resumes n from i k a w live low other c s (said-me c from to n.me (Resume i k a) put.0 me put.1 put.2)
told-so from to x n w live low other me c s put = stays n c s

-- a packet is handed to a node
pub handed-so : (x : NodePacket) (n : TheNode) → Within n → IsHanded x n (handed x n)
handed-so x n w =
    by-if (λ new. IsHanded x n new) (is_for n x) (told x.from x.body n) n (λ e. here (both (not n.frozen && (x.count == n.count) && (x.to == n.me) && nat_le x.from n.count) (not (x.from == n.me)) (both (not n.frozen && (x.count == n.count) && (x.to == n.me) && nat_le x.from n.count && not (x.from == n.me)) (in_range x.body) e).0)) (λ e c s put. stays n c s)
  where
    here : ((not n.frozen && (x.count == n.count) && (x.to == n.me) && nat_le x.from n.count) ≡ true) × (not (x.from == n.me) ≡ true) → IsHanded x n (told x.from x.body n)
    here t =
        let a = both (not n.frozen && (x.count == n.count) && (x.to == n.me)) (nat_le x.from n.count) t.0 in
        let b = both (not n.frozen && (x.count == n.count)) (x.to == n.me) a.0 in
        let live : n.frozen ≡ false = off n.frozen (both (not n.frozen) (x.count == n.count) b.0).0 in
        let me : x.to ≡ n.me = (let u = b.1 in grind (arith, nat_tests)) in
        let low : x.from ≤ n.count = (let u = a.1 in grind (arith, nat_tests)) in
        let other : x.from ≢ n.me = (let u = t.1 in grind (arith, nat_tests)) in
        told-so x.from x.to x.body n w live low other me

-- a handler has run
pub worked-so : (n : TheNode) (state : List ℕ) (given : List Given) → Within n → MaySend n given → Owes (Handles state given n) n (did_work state given n.working n)
worked-so n state given w may = by_job n.working refl w.own
  where
    inside : (i : ℕ) (g : Given) → slice_get given i ≡ Some g → g.to < length n.logs
    inside i g e = let m = may.others i g e in omega (arith, m.0, w.logs_wide)

    awake : (b : Bool) (j : OpenJob) → n.working ≡ Some j → (b ≡ true → is_some n.working ≡ false) → b ≡ false
    awake false j busy rests = refl
    awake true j busy rests = absurd (let e : is_some n.working ≡ false = rests refl in let f : is_some n.working ≡ true = ap is_some busy in cc)

    by_job : (o : Option OpenJob) → n.working ≡ o → OfPeer n.me n.count o → Owes (Handles state given n) n (did_work state given o n)
    by_job None busy peer c s h = stays n c s
    by_job (Some j) busy peer c s h = goes-worked n c j state given s busy (awake n.frozen j busy w.rests) inside (h j busy) peer
