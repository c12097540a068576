-- What is kept of a node comes back, is in its range, and is what the cluster's checkpoint covers
use Rattle.std.proofs.Common.{◌≡◌, ◌≢◌, ℕ, zero, suc, ◌+◌, ◌-◌, ◌*◌, ◌^◌, ◌<◌, ◌≤◌, List, [], ◌∷◌, ◌++◌, length, map, take, Bool, true, false, refl, sym, ap, ◌∙◌, subst, arith}
use Rattle.std.specs.Prelude.{Some, None, sum, ◌==◌, nat_lt, nat_le, if◌then◌else◌, slice_index_or}
use Rattle.std.specs.List.{list_all, AllByRecursion}
use Rattle.std.proofs.lemmas.Bool.Decides.{nat_tests}
use Rattle.std.proofs.lemmas.List.{take_all, length-map, length-replicate, get_or-map, get_or-replicate}
use Rattle.limits.specs.declared.TheConstants.{STATE_BYTES}
use Rattle.rsn.specs.Receipts.{numbers_of}
use Rattle.world.specs.declared.message.Message.{Message}
use Rattle.world.specs.History.{count_of}
use Rattle.theorems.specs.Growth.{Begins}
use Rattle.theorems.proofs.Changes.{at-itself, choose}
use Rattle.theorems.proofs.ListLemmas.{take-push, take-length, take-take, begins-take}
use Rattle.world.specs.World.{put}
use Rattle.world.specs.Phases.{Replaying}
use Rattle.world.specs.Calls.{peers}
use Rattle.cluster.specs.Parcels.{Delivery, Restored}
use Rattle.cluster.specs.Cluster.{Cluster}
use Rattle.cluster.specs.Rules.{Act, Arrives, Works, Replays, Recovers, Keeps, does, told_by, kept_by, goes_on, taken_back}
use Rattle.cluster.proofs.Growth.{plan-begins}
use Rattle.packets.specs.declared.kept.Kept.{Kept}
use Rattle.packets.specs.declared.kept.KeptLog.{KeptLog}
use Rattle.packets.specs.Packet.{is_number}
use Rattle.packets.specs.Kept.{is_log, kept_in_range, IsKeptLog, KeptFits}
use Rattle.node.specs.declared.node.TheConstants.{MOST_GIVEN, MOST_RECEIVED}
use Rattle.node.specs.Queue.{TheQueue, no_queue}
use Rattle.node.specs.Node.{TheNode, Within, log_at}
use Rattle.node.specs.Checkpoints.{counts_from}
use Rattle.node.specs.Stands.{Stands, KeepsOf}
use Rattle.node.specs.Kept.{with_own, without_own, log_of, kept_of, is_short, is_process, comes_back, queue_of, resting, IsKeptOf, Covers, KeptStays}
use Rattle.node.proofs.StandsLemmas.{stands-with, stands-staged}
use Rattle.node.proofs.Arrivals.{counted}
use Rattle.node.proofs.Commits.{long}
use Rattle.node.proofs.Freezes.{counts-at, counts-length}
use Rattle.node.proofs.Counts.{all-low, sum-without, counted-total, counted-own, without-long, own-again, others-again}

-- ---- what holds of all of a list

pub by-place : {X : Type 0} (P : X → Type 0) (xs : List X) (e : X) → ((d : ℕ) → P (slice_index_or xs d e)) → AllByRecursion P xs
by-place P [] e h = tt
by-place P (x ∷ xs) e h = (h 0, by-place P xs e (λ d. h (suc d)))

all-without : {X : Type 0} (P : X → Type 0) (me : ℕ) (xs : List X) → AllByRecursion P xs → AllByRecursion P (without_own me xs)
all-without P zero [] h = tt
all-without P zero (x ∷ xs) h = h.1
all-without P (suc me) [] h = tt
all-without P (suc me) (x ∷ xs) h = (h.0, all-without P me xs h.1)

all-mapped : {X Y : Type 0} (Q : Y → Type 0) (f : X → Y) (xs : List X) → AllByRecursion (λ x. Q (f x)) xs → AllByRecursion Q (map f xs)
all-mapped Q f [] h = tt
all-mapped Q f (x ∷ xs) h = (h.0, all-mapped Q f xs h.1)

all-true : {X : Type 0} (p : X → Bool) (xs : List X) → AllByRecursion (λ x. p x ≡ true) xs → list_all p xs ≡ true
all-true p [] h = refl
all-true p (x ∷ xs) h = rw (h.0, all-true p xs h.1) refl

pub map-without : {X Y : Type 0} (f : X → Y) (me : ℕ) (xs : List X) → map f (without_own me xs) ≡ without_own me (map f xs)
map-without f zero [] = refl
map-without f zero (x ∷ xs) = refl
map-without f (suc me) [] = refl
map-without f (suc me) (x ∷ xs) = ap (λ ys. f x ∷ ys) (map-without f me xs)

-- ---- its ranges

module _ (n : TheNode) (w : Within n) where
  abbrev k : Kept
  k = kept_of n

  abbrev counts : List ℕ
  counts = counts_from 0 n.receipts n.covered

  wide-counts : length counts ≡ suc n.count
  wide-counts = counts-length 0 n.receipts n.covered ∙ w.wide

  own-none : slice_index_or counts n.me 0 ≡ 0
  own-none = counted-own n.me n.count n.base n.covered n.receipts w.wide w.within w.peers

  sum-is : sum k.counts ≡ k.length
  sum-is =
      let total = counted-total n.me n.count n.base n.covered n.receipts w.wide w.peers in
      let less = sum-without n.me counts (omega (arith, wide-counts, w.within)) in
      omega (arith, total, less, own-none)

  many-counts : length k.counts ≡ n.count
  many-counts = omega (arith, without-long n.me counts (omega (arith, wide-counts, w.within)), wide-counts)

  wide-logs : length (map log_of n.logs) ≡ suc n.count
  wide-logs = length-map n.logs log_of ∙ w.logs_wide

  many-logs : length k.logs ≡ n.count
  many-logs = omega (arith, without-long n.me (map log_of n.logs) (omega (arith, wide-logs, w.within)), wide-logs)

  -- each log has no more than so many messages, with those that were dropped
  all-short : AllByRecursion (λ (q : TheQueue). q.dropped + length q.payloads ≤ MOST_GIVEN * k.length) n.logs
  all-short = by-place (λ (q : TheQueue). q.dropped + length q.payloads ≤ MOST_GIVEN * k.length) n.logs no_queue w.short

  of-logs : (p : KeptLog → Bool) → ((q : TheQueue) → q.dropped + length q.payloads ≤ MOST_GIVEN * k.length → p (log_of q) ≡ true) → list_all p k.logs ≡ true
  of-logs p h = all-true p k.logs (all-without (λ l. p l ≡ true) n.me (map log_of n.logs) (all-mapped (λ l. p l ≡ true) log_of n.logs (each n.logs all-short)))
    where
      each : (qs : List TheQueue) → AllByRecursion (λ (q : TheQueue). q.dropped + length q.payloads ≤ MOST_GIVEN * k.length) qs → AllByRecursion (λ q. p (log_of q) ≡ true) qs
      each [] a = tt
      each (q ∷ qs) a = (h q a.0, each qs a.1)

  young : k.length ≤ MOST_RECEIVED
  young = w.young

  logs-range : list_all is_log k.logs ≡ true
  logs-range = of-logs is_log (λ q l.
      let some : nat_lt 0 (q.dropped + 1) ≡ true = grind (arith, nat_tests) in
      let low : q.dropped + 1 < 2 ^ 63 = omega (arith, l, young) in
      let small : nat_lt (q.dropped + 1) (2 ^ 63) ≡ true = grind (arith, nat_tests) in
      rw (some, small) refl)

  logs-short : list_all (is_short (MOST_GIVEN * k.length + 2)) k.logs ≡ true
  logs-short = of-logs (is_short (MOST_GIVEN * k.length + 2)) (λ q l.
      let low : q.dropped + 1 + length q.payloads < MOST_GIVEN * k.length + 2 = omega (arith, l) in
      grind (arith, nat_tests))

  in-range : kept_in_range k ≡ true
  in-range =
      let small : is_number k.length ≡ true = (let low : k.length < 2 ^ 63 = omega (arith, young) in grind (arith, nat_tests)) in
      let sum : (sum k.counts == k.length) ≡ true = (let e : sum k.counts ≡ k.length = sum-is in grind (arith, nat_tests)) in
      rw (small, sum, logs-range) refl

  of-process : is_process k ≡ true
  of-process =
      let some : nat_lt 0 n.me ≡ true = (let l : 0 < n.me = omega (arith, w.inside) in grind (arith, nat_tests)) in
      let own : nat_le n.me n.count ≡ true = (let l : n.me ≤ n.count = w.within in grind (arith, nat_tests)) in
      let few : nat_le n.count 15 ≡ true = (let l : n.count ≤ 15 = w.few in grind (arith, nat_tests)) in
      let counts : (length k.counts == n.count) ≡ true = (let e : length k.counts ≡ n.count = many-counts in grind (arith, nat_tests)) in
      let logs : (length k.logs == n.count) ≡ true = (let e : length k.logs ≡ n.count = many-logs in grind (arith, nat_tests)) in
      rw (some, own, few, counts, logs) refl

  -- it can come back
  pub kept-comes : comes_back k ≡ true
  kept-comes =
      let low : nat_le k.length MOST_RECEIVED ≡ true = (let l : k.length ≤ MOST_RECEIVED = young in grind (arith, nat_tests)) in
      rw (of-process, in-range, low, logs-short) refl

  -- and it can be written
  pub kept-fits : length n.state ≤ STATE_BYTES → AllByRecursion IsKeptLog k.logs → KeptFits k
  kept-fits state logs =
      record {
        few = w.few;
        some = w.inside;
        own = w.within;
        state = state;
        room = record {
          length_is = omega (arith, young);
          counts = all-low (2 ^ 64) k.counts (omega (arith, sum-is, young));
          logs = logs;
          counts_are = many-counts;
          logs_are = many-logs;
        };
        range = in-range;
      }

  -- ---- the cluster's checkpoint

  -- its own place is filled in with none
  counts-again : with_own 0 n.me k.counts ≡ counts
  counts-again = ap (λ z. with_own z n.me k.counts) (sym own-none) ∙ own-again n.me counts 0 (omega (arith, wide-counts, w.within))

  log-again : (d : ℕ) → d ≤ n.count → d ≢ n.me → log_at (with_own no_queue n.me (map queue_of k.logs)) d ≡ queue_of (log_of (log_at n.logs d))
  log-again d low apart =
      let queues : List TheQueue = map queue_of (map log_of n.logs) in
      let wide : length queues ≡ suc n.count = length-map (map log_of n.logs) queue_of ∙ wide-logs in
      ap (λ xs. log_at (with_own no_queue n.me xs) d) (map-without queue_of n.me (map log_of n.logs))
      ∙ others-again n.me d queues no_queue no_queue (omega (arith, wide, w.within)) apart
      ∙ get_or-map queue_of (map log_of n.logs) d (log_of no_queue) no_queue (omega (arith, wide-logs, low))
      ∙ ap queue_of (get_or-map log_of n.logs d no_queue (log_of no_queue) (omega (arith, w.logs_wide, low)))

  module _ (c : Cluster) (s : Stands (resting n) c n.me) where
    abbrev h : List Message
    h = c.world.history n.me

    abbrev durable : Cluster
    durable = does c (Keeps n.me)

    many : length h ≡ k.length
    many = long n.count n.base n.covered n.receipts h (c.world.acknowledged n.me) s.received

    whole : take k.length h ≡ h
    whole = take_all k.length h (omega (arith, many))

    counts-are : (q : ℕ) → q ≤ c.world.count → slice_index_or counts q 0 ≡ count_of q h
    counts-are q l =
        let inside : q < length n.covered = omega (arith, w.wide, l, s.count) in
        let low : q ≤ n.count = omega (arith, l, s.count) in
        counts-at 0 q n.receipts n.covered inside ∙ ap (λ z. slice_index_or n.covered q 0 + length (numbers_of z n.receipts)) (let e : 0 + q ≡ q = omega arith in e) ∙ counted (resting n) c n.me q s low

    logs-are : (d : ℕ) → d ≤ c.world.count → d ≢ n.me → KeepsOf (queue_of (log_of (log_at n.logs d))) (durable.world.saved_trims n.me d) (c.world.handlers.sends n.me h d) (λ _. None)
    logs-are d low apart =
        let r = s.logs d low apart in
        let q : TheQueue = log_at n.logs d in
        let again : q.dropped + 1 - 1 ≡ q.dropped = omega arith in
        let trims : durable.world.saved_trims n.me d ≡ c.world.trims n.me d = at-itself n.me (λ b. (if b then c.world.trims n.me else c.world.saved_trims n.me) d ≡ c.world.trims n.me d) refl in
        record {
          before = r.before;
          many = r.many ∙ sym again;
          joined = r.joined;
          dropped_is = trims ∙ r.dropped_is ∙ sym again;
          as_many = length-replicate (length q.payloads) None;
          numbers_are = λ i l. get_or-replicate (length q.payloads) i None None l;
          beyond = λ i l. refl;
        }

    pub kept-of : IsKeptOf k durable n.me
    kept-of =
        record {
          me = refl;
          count = s.count;
          saved = at-itself n.me (λ b. (if b then length h else c.world.saved n.me) ≡ k.length) many;
          many = omega (arith, many);
          state = ap (c.world.handlers.state n.me) whole ∙ s.state;
          counts = λ q l. ap (λ xs. slice_index_or xs q 0) counts-again ∙ counts-are q l ∙ ap (count_of q) (sym whole);
          logs = λ d l o. rw (log-again d (omega (arith, l, s.count)) o, whole) (logs-are d l o);
        }

pub kept-covers : (n : TheNode) → Within n → Covers (kept_of n) n
kept-covers n w c s = ((s.inside, s.stage), kept-of n w c s)

-- a node that waits for its checkpoint stands whatever it has still to send
pub resting-stands : (n : TheNode) (c : Cluster) → n.frozen ≡ true → Stands n c n.me → Stands (resting n) c n.me
resting-stands n c wait s =
    let empty : Stands (record n { out = [] }) c n.me = stands-with n c n.me s s.logs s.gates s.heard s.resumed tt in
    stands-staged (record n { out = [] }) c n.me empty (s.stage ∙ rw wait refl) s.phase s.works

-- ---- what is kept stays that

-- of p the cluster d has the checkpoint of c, and the messages that it covers
pub record SameKept (c d : Cluster) (p : ℕ) : Type 0 where
  pub count : c.world.count ≡ d.world.count
  pub handlers : c.world.handlers ≡ d.world.handlers
  pub saved : c.world.saved p ≡ d.world.saved p
  pub saved_trims : (r : ℕ) → c.world.saved_trims p r ≡ d.world.saved_trims p r
  pub history : c.world.saved p ≤ length (c.world.history p) → (take (c.world.saved p) (d.world.history p) ≡ take (c.world.saved p) (c.world.history p)) × (c.world.saved p ≤ length (d.world.history p))

holds : {c d : Cluster} {p : ℕ} → c.world.count ≡ d.world.count → c.world.handlers ≡ d.world.handlers → c.world.saved p ≡ d.world.saved p → ((r : ℕ) → c.world.saved_trims p r ≡ d.world.saved_trims p r)
    → (c.world.saved p ≤ length (c.world.history p) → (take (c.world.saved p) (d.world.history p) ≡ take (c.world.saved p) (c.world.history p)) × (c.world.saved p ≤ length (d.world.history p))) → SameKept c d p
holds a b e f g = record { count = a; handlers = b; saved = e; saved_trims = f; history = g }

apart-from : (p q : ℕ) → q ≢ p → (p == q) ≡ false
apart-from p q e = let f : p ≢ q = (λ g. e (sym g)) in grind (arith, nat_tests)

-- a message more
works : (c : Cluster) (p q : ℕ) (m : Message) → c.world.saved p ≤ length (c.world.history p)
    → (take (c.world.saved p) (if p == q then c.world.history q ++ m ∷ [] else c.world.history p) ≡ take (c.world.saved p) (c.world.history p)) × (c.world.saved p ≤ length (if p == q then c.world.history q ++ m ∷ [] else c.world.history p))
works c p q m = choose q
    (λ j t. c.world.saved j ≤ length (c.world.history j) → (take (c.world.saved j) (if t then c.world.history q ++ m ∷ [] else c.world.history j) ≡ take (c.world.saved j) (c.world.history j)) × (c.world.saved j ≤ length (if t then c.world.history q ++ m ∷ [] else c.world.history j)))
    (λ l. (take-push (c.world.history q) (m ∷ []) (c.world.saved q) l, more (c.world.history q) m (c.world.saved q) l)) (λ j o l. (refl, l)) p
  where
    more : (g : List Message) (x : Message) (i : ℕ) → i ≤ length g → i ≤ length (g ++ x ∷ [])
    more [] x i l = omega (arith, l)
    more (y ∷ g) x zero l = omega arith
    more (y ∷ g) x (suc i) l = omega (arith, more g x i (omega (arith, l)))

at-least : (xs ys zs : List Message) → xs ++ ys ≡ zs → length xs ≤ length zs
at-least [] ys zs e = omega arith
at-least (x ∷ xs) ys [] e = absurd (cc)
at-least (x ∷ xs) ys (z ∷ zs) e = let f : xs ++ ys ≡ zs = (cc) in omega (arith, at-least xs ys zs f)

-- a recovery keeps what the checkpoint covers
recovers : (c : Cluster) (p q j : ℕ) → c.world.saved p ≤ length (c.world.history p)
    → (take (c.world.saved p) (if p == q then kept_by c q j else c.world.history p) ≡ take (c.world.saved p) (c.world.history p)) × (c.world.saved p ≤ length (if p == q then kept_by c q j else c.world.history p))
recovers c p q j = choose q
    (λ i t. c.world.saved i ≤ length (c.world.history i) → (take (c.world.saved i) (if t then kept_by c q j else c.world.history i) ≡ take (c.world.saved i) (c.world.history i)) × (c.world.saved i ≤ length (if t then kept_by c q j else c.world.history i)))
    here (λ i o l. (refl, l)) p
  where
    here : c.world.saved q ≤ length (c.world.history q) → (take (c.world.saved q) (kept_by c q j) ≡ take (c.world.saved q) (c.world.history q)) × (c.world.saved q ≤ length (kept_by c q j))
    here l =
        let first : List Message = take (c.world.saved q) (c.world.history q) in
        let size : length first ≡ c.world.saved q = take-length (c.world.history q) (c.world.saved q) l in
        let begins : Begins first (kept_by c q j) = plan-begins (told_by c q) first (j - c.world.saved q) in (
          begins-take first (kept_by c q j) begins (c.world.saved q) (omega (arith, size)) ∙ take-take (c.world.history q) (c.world.saved q) (c.world.saved q) (omega arith),
          subst (λ n. n ≤ length (kept_by c q j)) size (at-least first begins.0 (kept_by c q j) begins.1),
        )

kept-same : (c : Cluster) (p : ℕ) (a : Act) → a ≢ Keeps p → SameKept c (does c a) p
kept-same c p (Arrives q r (Restored i j n s (Some u) f)) other = holds refl refl refl (λ r. refl) (λ l. (refl, l))
kept-same c p (Arrives q zero (Delivery i ssn x)) other = holds refl refl refl (λ r. refl) (λ l. (refl, l))
kept-same c p (Works q m) other = holds refl refl refl (λ r. refl) (works c p q m)
kept-same c p (Replays q j) other = by_end (nat_lt (c.world.saved q + suc j) (length (c.world.history q)))
  where
    by_end : (b : Bool) → SameKept c (if b then record c { world = record c.world { phase = put c.world.phase q (Replaying (suc j) false false) } } else goes_on c q (peers c.world q false)) p
    by_end true = holds refl refl refl (λ r. refl) (λ l. (refl, l))
    by_end false = holds refl refl refl (λ r. refl) (λ l. (refl, l))
kept-same c p (Recovers q j) other = by_end (nat_lt (c.world.saved q) j)
  where
    by_end : (b : Bool) → SameKept c (if b then record (taken_back c q j) { world = record (taken_back c q j).world { phase = put c.world.phase q (Replaying 0 false false) } } else goes_on (taken_back c q j) q (peers c.world q false)) p
    by_end true = holds refl refl refl (λ r. refl) (recovers c p q j)
    by_end false = holds refl refl refl (λ r. refl) (recovers c p q j)
kept-same c p (Arrives zero q (Restored i j n s None f)) other = holds refl refl refl (λ r. refl) (λ l. (refl, l))
kept-same c p (Keeps q) other = let apart : (p == q) ≡ false = apart-from p q (λ e. other (ap Keeps e)) in holds refl refl (rw apart refl) (λ r. rw apart refl) (λ l. (refl, l))
kept-same c p act other = holds refl refl refl (λ r. refl) (λ l. (refl, l))

pub kept-still : (k : Kept) (c d : Cluster) (p : ℕ) → SameKept c d p → IsKeptOf k c p → IsKeptOf k d p
kept-still k c d p e s =
    let within : c.world.saved p ≤ length (c.world.history p) = omega (arith, s.saved, s.many) in
    let h = e.history within in
    let first : take k.length (d.world.history p) ≡ take k.length (c.world.history p) = (let P : ℕ → Type 0 = λ n. take n (d.world.history p) ≡ take n (c.world.history p) in subst P s.saved h.0) in
    record {
      me = s.me;
      count = s.count ∙ e.count;
      saved = sym e.saved ∙ s.saved;
      many = omega (arith, s.saved, h.1);
      state = rw (sym e.handlers, first) s.state;
      counts = λ q l. rw first (s.counts q (subst (λ m. q ≤ m) (sym e.count) l));
      logs = λ r l o. rw (sym e.handlers, first, sym (e.saved_trims r)) (s.logs r (subst (λ m. r ≤ m) (sym e.count) l) o);
    }

pub kept-stays : KeptStays
kept-stays k p [] c others s = s
kept-stays k p (a ∷ acts) c others s = kept-stays k p acts (does c a) others.1 (kept-still k c (does c a) p (kept-same c p a others.0) s)
