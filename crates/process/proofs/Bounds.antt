-- What a node holds through each of its calls: no more than what is named, where it held no more before
use Rattle.std.proofs.Common.{◌≡◌, ◌∙◌, ◌≤◌, ◌<◌, ◌+◌, ◌-◌, ℕ, zero, suc, List, [], ◌∷◌, ◌++◌, length, Bool, true, false, refl, sym, ap, arith, length-append}
use Rattle.std.specs.Prelude.{Option, Some, None, not, ◌&&◌, ◌||◌, ◌==◌, nat_lt, nat_le, is_none, is_some, if◌then◌else◌, replicate, slice_get, slice_index_or, slice_set}
use Rattle.std.proofs.lemmas.Bool.Decides.{nat_tests}
use Rattle.theorems.proofs.Tests.{both, at_most}
use Rattle.packets.specs.declared.packet.Body.{Body}
use Rattle.packets.specs.declared.packet.Body.TheVariants as body
use Rattle.packets.specs.Packet.{in_range}
use Rattle.packets.specs.declared.packet.NodePacket.{NodePacket}
use Rattle.packets.specs.Outbox.{pushed}
use Rattle.packets.specs.declared.outbox.TheConstants.{OUTBOX}
use Rattle.rsn.specs.Receipts.{numbers_of, acknowledged_of, run_of}
use Rattle.node.specs.declared.node.TheConstants.{MOST_RECEIVED}
use Rattle.node.specs.declared.job.OpenJob.{OpenJob}
use Rattle.node.specs.declared.job.Given.{Given}
use Rattle.node.specs.Queue.{TheQueue}
use Rattle.node.specs.Queue as queue
use Rattle.node.specs.Node.{TheNode, log_at, posts, tells, numbered, counted, worked, number_of, covered_of}
use Rattle.node.specs.Pages.{told_of, restored_of}
use Rattle.node.specs.Calls as up
use Rattle.node.specs.Answers as asking
use Rattle.node.specs.Transmission as sending
use Rattle.node.specs.Checkpoints as saving
use Rattle.process.specs.Bounds.{unacknowledged, NodeNumbers}
use Rattle.process.proofs.Holdings.{either}

-- whichever of two, by what the test says
pub by-test : {A : Type 0} (P : A → Type 0) (b : Bool) (x y : A) → (b ≡ true → P x) → (b ≡ false → P y) → P (if b then x else y)
by-test P true x y h k = h refl
by-test P false x y h k = k refl

pub below : (a b : ℕ) → nat_lt a b ≡ true → a < b
below a b e = grind (arith, nat_tests)

pub not-true : (b : Bool) → not b ≡ true → b ≡ false
not-true true e = absurd (cc)
not-true false e = refl

-- ---- lists

pub pushed-few : (x : NodePacket) (xs : List NodePacket) → length xs ≤ OUTBOX → length (pushed x xs) ≤ OUTBOX
pushed-few x xs few = by-test (λ (v : List NodePacket). length v ≤ OUTBOX) (nat_lt (length xs) OUTBOX) (xs ++ x ∷ []) xs more (λ e. few)
  where
    more : nat_lt (length xs) OUTBOX ≡ true → length (xs ++ x ∷ []) ≤ OUTBOX
    more e = let less = below (length xs) OUTBOX e in let many = length-append xs (x ∷ []) in omega arith

pub one-more : (xs : List ℕ) (x : ℕ) → length (xs ++ x ∷ []) ≡ length xs + 1
one-more xs x = length-append xs (x ∷ [])

pub some-within : (xs : List OpenJob) (i : ℕ) (x : OpenJob) → slice_get xs i ≡ Some x → i < length xs
some-within [] i x e = absurd (cc)
some-within (y ∷ xs) zero x e = omega arith
some-within (y ∷ xs) (suc i) x e = let rest = some-within xs i x e in omega arith

pub one-more-flag : (flags : List Bool) → unacknowledged (flags ++ false ∷ []) ≡ unacknowledged flags + 1
one-more-flag [] = omega arith
one-more-flag (true ∷ flags) = one-more-flag flags
one-more-flag (false ∷ flags) = let rest = one-more-flag flags in omega arith

all-true : (k : ℕ) → unacknowledged (replicate k true) ≡ 0
all-true zero = refl
all-true (suc k) = all-true k

flags-of : (k : ℕ) → length (replicate k true) ≡ k
flags-of zero = refl
flags-of (suc k) = ap suc (flags-of k)

pub all-flags : (k : ℕ) → (length (replicate k true) ≡ k) × (unacknowledged (replicate k true) ≡ 0)
all-flags k = (flags-of k, all-true k)

pub flags-stay : (flags : List Bool) (i : ℕ) → length (slice_set flags i true) ≡ length flags
flags-stay [] i = refl
flags-stay (b ∷ flags) zero = refl
flags-stay (b ∷ flags) (suc i) = ap suc (flags-stay flags i)

pub one-flag-less : (flags : List Bool) (i : ℕ) → i < length flags → slice_index_or flags i false ≡ false → unacknowledged (slice_set flags i true) + 1 ≡ unacknowledged flags
one-flag-less [] i l e = absurd (omega arith)
one-flag-less (false ∷ flags) zero l e = omega arith
one-flag-less (true ∷ flags) zero l e = absurd (cc)
one-flag-less (true ∷ flags) (suc i) l e = one-flag-less flags i (omega arith) e
one-flag-less (false ∷ flags) (suc i) l e = let rest = one-flag-less flags i (omega arith) e in omega arith

-- ---- a call that takes no message in

-- the receipts are of the same messages, it waits for its checkpoint as before, and holds no more
pub record Goes (old new : TheNode) : Type 0 where
  pub senders : new.receipts.senders ≡ old.receipts.senders
  pub frozen : new.frozen ≡ old.frozen
  pub numbers : NodeNumbers old → NodeNumbers new

stays : (n : TheNode) → Goes n n
stays n = record { senders = refl; frozen = refl; numbers = λ h. h }

onward : (a b c : TheNode) → Goes a b → Goes b c → Goes a c
onward a b c g h = record { senders = h.senders ∙ g.senders; frozen = h.frozen ∙ g.frozen; numbers = λ n. h.numbers (g.numbers n) }

posted : (to : ℕ) (b : Body) (n : TheNode) → Goes n (posts to b n)
posted to b n =
    record {
      senders = refl;
      frozen = refl;
      numbers = λ h. record {
        allowed = h.allowed;
        receipts = h.receipts;
        flags = h.flags;
        waits = h.waits;
        counted = h.counted;
        room = h.room;
        rests = h.rests;
        packets = pushed-few (record { count = n.count; from = n.me; to = to; body = b }) n.out h.packets;
      };
    }

-- its logs change, and what it heard of others
logged : (logs : List TheQueue) (heard : List ℕ) (resumed : List Bool) (n : TheNode) → Goes n (record n { logs = logs; heard = heard; resumed = resumed })
logged logs heard resumed n =
    record {
      senders = refl;
      frozen = refl;
      numbers = λ h. record { allowed = h.allowed; receipts = h.receipts; flags = h.flags; waits = h.waits; counted = h.counted; room = h.room; rests = h.rests; packets = h.packets };
    }

sends : (to first k : ℕ) (n : TheNode) → Goes n (sending.sends to first k n)
sends to first zero n = stays n
sends to first (suc k) n =
    let m = sending.sends to first k n in
    onward n m (sending.delivers to (first + k + 1) m) (sends to first k n) (posted to (body.Delivery m.life (first + k + 1) (queue.payload_of (first + k + 1) (log_at m.logs to))) m)

released_to : (to : ℕ) (n : TheNode) → Goes n (sending.released_to to n)
released_to to n =
    let m = sending.unlocked to n in
    let above = (log_at n.logs to).released in
    onward n m (sending.released_to to n) (logged (slice_set n.logs to (queue.released_by (sending.freed n) (log_at n.logs to))) n.heard n.resumed n)
    (sends to (sending.first_to_send above (log_at m.logs to)) (sending.many_to_send m.limits.tick above (log_at m.logs to)) m)

released_below : (me d : ℕ) (n : TheNode) → Goes n (sending.released_below me d n)
released_below me zero n = stays n
released_below me (suc d) n =
    let m = sending.released_below me d n in
    let before : Goes n m = released_below me d n in
    either (λ (x : TheNode). Goes n x) (d == me) m (sending.released_to d m) before (onward n m (sending.released_to d m) before (released_to d m))

pub released : (n : TheNode) → Goes n (sending.released n)
released n = released_below n.me (n.count + 1) n

resends : (to s k left : ℕ) (n : TheNode) → Goes n (sending.resends to s k left n)
resends to s zero left n = stays n
resends to s (suc k) zero n = stays n
resends to s (suc k) (suc left) n =
    let sent = sending.delivers to (s + 1) n in
    either (λ (x : TheNode). Goes n x) (is_none (queue.number_of (s + 1) (log_at n.logs to))) (sending.resends to (s + 1) k left sent) (sending.resends to (s + 1) k (suc left) n)
    (onward n sent (sending.resends to (s + 1) k left sent) (posted to (body.Delivery n.life (s + 1) (queue.payload_of (s + 1) (log_at n.logs to))) n) (resends to (s + 1) k left sent)) (resends to (s + 1) k (suc left) n)

told-again : (to ssn : ℕ) (n : TheNode) → Goes n (tells to ssn n)
told-again to ssn n = posted to (body.Number n.life ssn (n.base + slice_index_or (numbers_of to n.receipts) (ssn - covered_of to n - 1) 0)) n

renumbers : (to place k left : ℕ) (n : TheNode) → Goes n (sending.renumbers to place k left n)
renumbers to place zero left n = stays n
renumbers to place (suc k) zero n = stays n
renumbers to place (suc k) (suc left) n =
    let told = tells to (covered_of to n + place + 1) n in
    either (λ (x : TheNode). Goes n x) (sending.is_told_at to place n) (sending.renumbers to (place + 1) k (suc left) n) (sending.renumbers to (place + 1) k left told)
    (renumbers to (place + 1) k (suc left) n) (onward n told (sending.renumbers to (place + 1) k left told) (told-again to (covered_of to n + place + 1) n) (renumbers to (place + 1) k left told))

ticked_below : (me d : ℕ) (n : TheNode) → Goes n (sending.ticked_below me d n)
ticked_below me zero n = stays n
ticked_below me (suc d) n =
    let m = sending.ticked_below me d n in
    let sent = sending.resent d m in
    let new = sending.renumbered d sent in
    let before : Goes n m = ticked_below me d n in
    let again : Goes m sent = resends d (log_at m.logs d).dropped ((log_at m.logs d).released - (log_at m.logs d).dropped) m.limits.tick m in
    let told : Goes sent new = renumbers d (run_of (acknowledged_of d sent.receipts)) (length (numbers_of d sent.receipts) - run_of (acknowledged_of d sent.receipts)) sent.limits.tick sent in
    either (λ (x : TheNode). Goes n x) (d == me) m new before (onward n m new before (onward m sent new again told))

pub ticked : (n : TheNode) → Goes n (sending.ticked n)
ticked n = either (λ (x : TheNode). Goes n x) n.frozen n (sending.ticked_below n.me (n.count + 1) n) (stays n) (ticked_below n.me (n.count + 1) n)

says_below : (me d : ℕ) (n : TheNode) → Goes n (saving.says_below me d n)
says_below me zero n = stays n
says_below me (suc d) n =
    let m = saving.says_below me d n in
    let before : Goes n m = says_below me d n in
    let said : Goes m (saving.says_covered d m) = either (λ (x : TheNode). Goes m x) (nat_lt 0 (covered_of d m)) (posts d (body.Saved (covered_of d m)) m) m (posted d (body.Saved (covered_of d m)) m) (stays m) in
    either (λ (x : TheNode). Goes n x) (d == me) m (saving.says_covered d m) before (onward n m (saving.says_covered d m) before said)

-- ---- what others say to it

-- a job is opened, where there is room for its message
opened : (j : OpenJob) (n : TheNode) → n.frozen ≡ false → up.takes_more n ≡ true → Goes n (record n { working = Some j })
opened j n f e =
    let a = both (nat_lt n.waiting n.limits.numbers && nat_lt (length n.receipts.senders) n.limits.receipts) (nat_lt (n.base + length n.receipts.senders) MOST_RECEIVED) e in
    let b = both (nat_lt n.waiting n.limits.numbers) (nat_lt (length n.receipts.senders) n.limits.receipts) a.0 in
    let w = below n.waiting n.limits.numbers b.0 in
    let r = below (length n.receipts.senders) n.limits.receipts b.1 in
    record {
      senders = refl;
      frozen = refl;
      numbers = λ h. record {
        allowed = h.allowed;
        receipts = h.receipts;
        flags = h.flags;
        waits = h.waits;
        counted = h.counted;
        room = λ some. let numbers = h.allowed.numbers.1 in let receipts = h.allowed.receipts.1 in (omega arith, omega arith);
        rests = λ now. absurd (let t : true ≡ false = sym now ∙ f in cc);
        packets = h.packets;
      };
    }

delivered : (from life ssn : ℕ) (x : List ℕ) (n : TheNode) → n.frozen ≡ false → Goes n (up.delivered from life ssn x n)
delivered from life ssn x n f =
    let place = ssn - covered_of from n - 1 in
    let known = length (numbers_of from n.receipts) in
    let job : OpenJob = record { sender = from; ssn = ssn; payload = x } in
    let taken = record n { working = Some job } in
    let next = if (place == known) && up.takes_more n then taken else n in
    let again = if nat_lt place known then tells from ssn n else next in
    let covered = if nat_le ssn (covered_of from n) then posts from (body.Saved (covered_of from n)) n else again in
    let next_is : Goes n next = by-test (λ (m : TheNode). Goes n m) ((place == known) && up.takes_more n) taken n (λ e. opened job n f (both (place == known) (up.takes_more n) e).1) (λ e. stays n) in
    let again_is : Goes n again = either (λ (m : TheNode). Goes n m) (nat_lt place known) (tells from ssn n) next (told-again from ssn n) next_is in
    let covered_is : Goes n covered = either (λ (m : TheNode). Goes n m) (nat_le ssn (covered_of from n)) (posts from (body.Saved (covered_of from n)) n) again (posted from (body.Saved (covered_of from n)) n) again_is in
    either (λ (m : TheNode). Goes n m) (is_some n.working || not (life == slice_index_or n.heard from 0)) n covered (stays n) covered_is

recorded_by : (from life ssn k : ℕ) (n : TheNode) → Goes n (up.recorded_by from life ssn k n)
recorded_by from life ssn k n =
    let m = numbered from ssn k n in
    let set : Goes n m = logged (slice_set n.logs from (queue.recorded ssn k (log_at n.logs from))) n.heard n.resumed n in
    either (λ (x : TheNode). Goes n x) ((life == slice_index_or n.heard from 0) && queue.is_kept ssn (log_at n.logs from)) (posts from (body.Acknowledgement life k) m) n
    (onward n m (posts from (body.Acknowledgement life k) m) set (posted from (body.Acknowledgement life k) m)) (stays n)

-- a number that waited waits no more
counted_is : (k : ℕ) (n : TheNode) → k - 1 < length n.receipts.senders → slice_index_or n.receipts.acknowledged (k - 1) false ≡ false → Goes n (counted k n)
counted_is k n l e =
    record {
      senders = refl;
      frozen = refl;
      numbers = λ h.
          let long = h.flags in
          let less = one-flag-less n.receipts.acknowledged (k - 1) (omega arith) e in
          let same = flags-stay n.receipts.acknowledged (k - 1) in
          let many = h.counted in
          let most = h.waits in
          record {
            allowed = h.allowed;
            receipts = h.receipts;
            flags = same ∙ h.flags;
            waits = omega arith;
            counted = omega arith;
            room = λ some. let r = h.room some in (r.0, omega (arith, r.1));
            rests = h.rests;
            packets = h.packets;
          };
    }

acknowledged_by : (life k : ℕ) (n : TheNode) → Goes n (up.acknowledged_by life k n)
acknowledged_by life k n =
    let flag = slice_index_or n.receipts.acknowledged (k - n.base - 1) false in
    let m = counted (k - n.base) n in
    by-test (λ (x : TheNode). Goes n x) ((life == n.life) && nat_lt n.base k && nat_le k (n.base + length n.receipts.senders) && not flag) (sending.released m) n
    (λ e.
    let a = both ((life == n.life) && nat_lt n.base k && nat_le k (n.base + length n.receipts.senders)) (not flag) e in
    let b = both ((life == n.life) && nat_lt n.base k) (nat_le k (n.base + length n.receipts.senders)) a.0 in
    let c = both (life == n.life) (nat_lt n.base k) b.0 in
    let low = below n.base k c.1 in
    let high = at_most k (n.base + length n.receipts.senders) b.1 in
    onward n m (sending.released m) (counted_is (k - n.base) n (omega arith) (not-true flag a.1)) (released m)) (λ e. stays n)

asked_by : (d i k : ℕ) (n : TheNode) → Goes n (asking.asked_by d i k n)
asked_by d i k n =
    let m = asking.hears d i n in
    let hears : Goes n m = either (λ (x : TheNode). Goes n x) (nat_lt (asking.heard_of d n) i) (record n { heard = slice_set n.heard d i; resumed = slice_set n.resumed d false }) n (logged n.logs (slice_set n.heard d i) (slice_set n.resumed d false) n) (stays n) in
    either (λ (x : TheNode). Goes n x) (nat_lt i (asking.heard_of d n)) n (posts d (told_of d i k n) m) (stays n) (onward n m (posts d (told_of d i k n) m) hears (posted d (told_of d i k n) m))

resumed_by : (d i k s : ℕ) (n : TheNode) → Goes n (asking.resumed_by d i k s n)
resumed_by d i k s n =
    let m = asking.obeys d k n in
    let forgot = slice_set n.logs d (queue.forgotten_above k (log_at n.logs d)) in
    let obeys : Goes n m = either (λ (x : TheNode). Goes n x) (slice_index_or n.resumed d true) n (record n { logs = forgot; resumed = slice_set n.resumed d true }) (stays n) (logged forgot n.heard (slice_set n.resumed d true) n) in
    either (λ (x : TheNode). Goes n x) (not (i == asking.heard_of d n) || asking.works_for d n.working) n (posts d (restored_of d i s n) m) (stays n) (onward n m (posts d (restored_of d i s n) m) obeys (posted d (restored_of d i s n) m))

told : (from : ℕ) (b : Body) (n : TheNode) → n.frozen ≡ false → Goes n (up.told from b n)
told from (body.Delivery i ssn x) n f = delivered from i ssn x n f
told from (body.Number i ssn k) n f = recorded_by from i ssn k n
told from (body.Acknowledgement i k) n f = acknowledged_by i k n
told from (body.Saved k) n f = logged (slice_set n.logs from (queue.dropped_to k (log_at n.logs from))) n.heard n.resumed n
told from (body.Ask i k) n f = asked_by from i k n
told from (body.Resume i k s) n f = resumed_by from i k s n
told from (body.Told i j k flags page) n f = stays n
told from (body.Restored i j c s flags pairs) n f = stays n

pub handed : (x : NodePacket) (n : TheNode) → Goes n (up.handed x n)
handed x n = by-test (λ (m : TheNode). Goes n m) (up.is_for n x) (up.told x.from x.body n) n (λ e. told x.from x.body n (live e)) (λ e. stays n)
  where
    live : up.is_for n x ≡ true → n.frozen ≡ false
    live e =
        let a = both (not n.frozen && (x.count == n.count) && (x.to == n.me) && nat_le x.from n.count && not (x.from == n.me)) (in_range x.body) e in
        let b = both (not n.frozen && (x.count == n.count) && (x.to == n.me) && nat_le x.from n.count) (not (x.from == n.me)) a.0 in
        let c = both (not n.frozen && (x.count == n.count) && (x.to == n.me)) (nat_le x.from n.count) b.0 in
        let d = both (not n.frozen && (x.count == n.count)) (x.to == n.me) c.0 in
        not-true n.frozen (both (not n.frozen) (x.count == n.count) d.0).0

-- ---- a message is taken in, and a checkpoint covers what was

-- its job is done
pub did_work : (j : OpenJob) (state : List ℕ) (xs : List Given) (n : TheNode) → n.working ≡ Some j → NodeNumbers n → NodeNumbers (posts j.sender (number_of j n) (worked j state xs n))
did_work j state xs n is h =
    let some : is_some n.working ≡ true = ap is_some is in
    let room = h.room some in
    let few = room.0 in
    let most = room.1 in
    let flags = h.flags in
    let many = length-append n.receipts.senders (j.sender ∷ []) in
    let longer = length-append n.receipts.acknowledged (false ∷ []) in
    let one = one-more-flag n.receipts.acknowledged in
    let was = h.counted in
    (posted j.sender (number_of j n) (worked j state xs n)).numbers
    (record {
      allowed = h.allowed;
      receipts = omega arith;
      flags = omega arith;
      waits = omega arith;
      counted = omega arith;
      room = λ none. absurd (cc (none));
      rests = λ e. refl;
      packets = h.packets;
    })

-- of what its checkpoint covers nothing is a receipt
thawed : (n : TheNode) → NodeNumbers n → NodeNumbers (saving.thawed n)
thawed n h =
    record {
      allowed = h.allowed;
      receipts = omega arith;
      flags = refl;
      waits = omega arith;
      counted = refl;
      room = λ some. (omega arith, omega arith);
      rests = λ e. absurd (cc (e));
      packets = h.packets;
    }

-- so it holds, once what waited is released and all are told
pub thaws : (n : TheNode) → Goes (saving.thawed n) (saving.thaws n)
thaws n =
    let t = saving.thawed n in
    let m = sending.released t in
    onward t m (saving.thaws n) (released t) (says_below m.me (m.count + 1) m)

pub thaws-numbers : (n : TheNode) → NodeNumbers n → NodeNumbers (saving.thaws n)
thaws-numbers n h = (thaws n).numbers (thawed n h)

-- no job is open where it may wait for a checkpoint
pub none-works : (n : TheNode) → saving.may_freeze n ≡ true → is_some n.working ≡ false
none-works n e = by-job n.working (both (not n.frozen) (is_none n.working) e).1
  where
    by-job : (o : Option OpenJob) → is_none o ≡ true → is_some o ≡ false
    by-job None e2 = refl
    by-job (Some j) e2 = absurd (cc)
