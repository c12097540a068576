-- A node makes a checkpoint, and it becomes durable
use Rattle.std.proofs.Common.{◌≡◌, ◌≢◌, ℕ, zero, suc, ◌+◌, ◌<◌, ◌≤◌, List, [], ◌∷◌, ◌++◌, length, take, drop, Bool, true, false, refl, sym, ap, ◌∙◌, subst, arith}
use Rattle.std.specs.Prelude.{Option, Some, None, is_none, not, ◌==◌, nat_lt, nat_le, if◌then◌else◌, slice_index_or, slice_set}
use Rattle.std.proofs.lemmas.Bool.Decides.{nat_tests}
use Rattle.std.proofs.lemmas.List.{take_all, get_or_past, append-nil, length-append, length-take, length-drop}
use Rattle.rsn.specs.Receipts.{Received, numbers_of}
use Rattle.rsn.proofs.ReceiptLemmas.{numbers_from-bound}
use Rattle.world.specs.declared.message.Message.{Message}
use Rattle.world.specs.History.{count_of}
use Rattle.world.specs.Phases.{Up}
use Rattle.world.specs.Bounds.{count_below}
use Rattle.world.specs.Logs.{run_to, payloads}
use Rattle.theorems.proofs.Changes.{at-itself}
use Rattle.theorems.proofs.RunLemmas.{run_to-whole}
use Rattle.theorems.proofs.Tests.{both, different}
use Rattle.cluster.specs.Cluster.{Cluster, Live, Frozen, waiting}
use Rattle.cluster.specs.Rules.{Freezes, Keeps, Thaws, May, does}
use Rattle.node.specs.declared.job.OpenJob.{OpenJob}
use Rattle.node.specs.Node.{TheNode, Within, log_at, covered_of}
use Rattle.node.specs.Transmission.{released}
use Rattle.node.specs.Checkpoints.{may_freeze, froze, counts_from, thawed, says_covered, says_below, thaws, saved}
use Rattle.node.specs.Stands.{Stands, HasReceived, IsShut, sent_by, freed_in, most_released, GoesOn, Acts, Saves, phase_of, InOrderFrom}
use Rattle.node.proofs.Logs.{leading-bound}
use Rattle.cluster.proofs.Goes.{goes-act, goes-then}
use Rattle.node.proofs.Sent.{all-still}
use Rattle.node.proofs.Puts.{stands-takes}
use Rattle.node.proofs.StandsLemmas.{stands-staged}
use Rattle.node.proofs.Steps.{acts-self, acts-then, owes-at, by-if}
use Rattle.node.proofs.Numbers.{InOrderFrom-same, InOrderFrom-joined}
use Rattle.node.proofs.Arrivals.{counted, says-covered}
use Rattle.node.proofs.Records.{sent-size}
use Rattle.node.proofs.Commits.{long}
use Rattle.node.proofs.Handover.{off}
use Rattle.node.proofs.Sendings.{OnlyPosts, only-then, releasing}

-- ---- a checkpoint is made

idle : (o : Option OpenJob) → is_none o ≡ true → phase_of o ≡ Up
idle None e = refl
idle (Some j) e = absurd (cc)

pub freezes : (n : TheNode) → Acts n (froze n)
freezes n = by-if (Acts n) (may_freeze n) (record n { frozen = true }) n (λ e. here (both (not n.frozen) (is_none n.working) e)) (λ e. acts-self n)
  where
    here : (not n.frozen ≡ true) × (is_none n.working ≡ true) → Acts n (record n { frozen = true })
    here t c s u =
        goes-act true n.me (λ d. Stands (record n { frozen = true }) d n.me) c (Freezes n.me) (s.inside, stands-takes n c n.me (off n.frozen t.0) s, s.phase ∙ idle n.working t.1) tt tt refl
        (stands-staged n c n.me s (at-itself n.me (λ b. (if b then Frozen else c.stage n.me) ≡ Frozen) refl) s.phase s.works)

-- ---- what was received is counted

pub counts-length : (a : ℕ) (r : Received) (ks : List ℕ) → length (counts_from a r ks) ≡ length ks
counts-length a r [] = refl
counts-length a r (k ∷ ks) = ap suc (counts-length (suc a) r ks)

pub counts-at : (a q : ℕ) (r : Received) (ks : List ℕ) → q < length ks → slice_index_or (counts_from a r ks) q 0 ≡ slice_index_or ks q 0 + length (numbers_of (a + q) r)
counts-at a q r [] l = absurd (omega (arith, l))
counts-at a zero r (k ∷ ks) l = ap (λ z. k + length (numbers_of z r)) (let e : a ≡ a + 0 = omega arith in e)
counts-at a (suc q) r (k ∷ ks) l = counts-at (suc a) q r ks (omega (arith, l)) ∙ ap (λ z. slice_index_or ks q 0 + length (numbers_of z r)) (let e : suc a + q ≡ a + suc q = omega arith in e)

pub counts-long : (q : ℕ) (r : Received) (ks : List ℕ) → length (counts_from 0 r (take q ks) ++ drop q ks) ≡ length ks
counts-long q r ks = omega (arith, length-append (counts_from 0 r (take q ks)) (drop q ks), counts-length 0 r (take q ks), length-take q ks, length-drop q ks)

-- the one that is counted next is as it was
pub counts-next : (a q : ℕ) (r : Received) (ks : List ℕ) → q < length ks → slice_index_or (counts_from a r (take q ks) ++ drop q ks) q 0 ≡ slice_index_or ks q 0
counts-next a q r [] l = absurd (omega (arith, l))
counts-next a zero r (k ∷ ks) l = refl
counts-next a (suc q) r (k ∷ ks) l = counts-next (suc a) q r ks (omega (arith, l))

-- and then it is counted
pub counts-more : (a q : ℕ) (r : Received) (ks : List ℕ) → q < length ks
    → slice_set (counts_from a r (take q ks) ++ drop q ks) q (slice_index_or ks q 0 + length (numbers_of (a + q) r)) ≡ counts_from a r (take (suc q) ks) ++ drop (suc q) ks
counts-more a q r [] l = absurd (omega (arith, l))
counts-more a zero r (k ∷ ks) l = ap (λ z. (k + length (numbers_of z r)) ∷ ks) (let e : a + 0 ≡ a = omega arith in e)
counts-more a (suc q) r (k ∷ ks) l =
    let rest = counts-more (suc a) q r ks (omega (arith, l)) in
    let place : a + suc q ≡ suc a + q = omega arith in
    ap (λ xs. (k + length (numbers_of a r)) ∷ xs)
    (ap (λ z. slice_set (counts_from (suc a) r (take q ks) ++ drop q ks) q (slice_index_or ks q 0 + length (numbers_of z r))) place ∙ rest)

-- no sender has more than were received
pub counts-within : (base : ℕ) (covered : List ℕ) (r : Received) (q : ℕ) → ((s : ℕ) → slice_index_or covered s 0 ≤ base) → slice_index_or (counts_from 0 r covered) q 0 ≤ base + length r.senders
counts-within base covered r q low = by_place (nat_lt q (length covered)) refl
  where
    by_place : (b : Bool) → nat_lt q (length covered) ≡ b → slice_index_or (counts_from 0 r covered) q 0 ≤ base + length r.senders
    by_place true e =
        let inside : q < length covered = grind (arith, nat_tests) in
        omega (arith, counts-at 0 q r covered inside, low q, numbers_from-bound (0 + q) 0 r.senders)
    by_place false e =
        let beyond : length (counts_from 0 r covered) ≤ q = (let f : length covered ≤ q = grind (arith, nat_tests) in omega (arith, f, counts-length 0 r covered)) in
        omega (arith, get_or_past (counts_from 0 r covered) q 0 beyond)

-- ---- it is durable

none-below : (f : ℕ → Bool) (n : ℕ) → ((k : ℕ) → k < n → f k ≡ false) → count_below f n ≡ 0
none-below f zero none = refl
none-below f (suc n) none = let e : count_below f n ≡ 0 = none-below f n (λ k l. none k (omega (arith, l))) in rw (none n (omega arith)) (omega (arith, e))

module _ (n : TheNode) (c : Cluster) (s : Stands n c n.me) (wait : n.frozen ≡ true) (wide : length n.covered ≡ suc n.count) where
  abbrev kept : Cluster
  kept = does c (Keeps n.me)

  abbrev c' : Cluster
  c' = does kept (Thaws n.me)

  abbrev h : List Message
  h = c.world.history n.me

  abbrev all : ℕ → Bool
  all k = nat_le k (length h)

  many : length h ≡ n.base + length n.receipts.senders
  many = long n.count n.base n.covered n.receipts h (c.world.acknowledged n.me) s.received

  waits-there : c.stage n.me ≡ Frozen
  waits-there = s.stage ∙ rw wait refl

  may-thaw : May kept (Thaws n.me)
  may-thaw = (s.inside, waits-there, at-itself n.me (λ b. (if b then length h else c.world.saved n.me) ≡ length h) refl)

  acknowledged-is : c'.world.acknowledged n.me ≡ all
  acknowledged-is = at-itself n.me (λ b. (if b then all else c.world.acknowledged n.me) ≡ all) refl

  released-is : (d : ℕ) → c'.world.released n.me d ≡ length (c.world.handlers.sends n.me h d)
  released-is d =
      let inner : (n.me == 0) ≡ false = (let z : 0 < n.me = s.inside.0 in grind (arith, nat_tests)) in
      at-itself n.me (λ b. (if b then (λ e. length (payloads c.world n.me h e)) else c.world.released n.me) d ≡ length (c.world.handlers.sends n.me h d)) (rw inner refl)

  received : HasReceived n.count (thawed n).base (thawed n).covered (thawed n).receipts h all
  received =
      record {
        before = h;
        behind = [];
        joined = append-nil h;
        ordered = (let r = s.received in subst (InOrderFrom (λ q. 0)) r.joined (InOrderFrom-joined (λ q. 0) r.before r.behind r.ordered (InOrderFrom-same (λ q. count_of q r.before) (λ q. 0 + count_of q r.before) r.behind (λ q. let e : count_of q r.before ≡ 0 + count_of q r.before = omega arith in e) r.in_order)));
        many = many;
        covered_is = λ q l. counts-at 0 q n.receipts n.covered (omega (arith, l, wide)) ∙ ap (λ z. slice_index_or n.covered q 0 + length (numbers_of z n.receipts)) (let e : 0 + q ≡ q = omega arith in e) ∙ counted n c n.me q s l;
        senders = refl;
        in_order = tt;
        flags = refl;
        acknowledged_is = λ k l. absurd (omega (arith, l));
        below = λ k l. (let e : suc k ≤ length h = omega (arith, l, many) in grind (arith, nat_tests));
        above = λ k l. grind (arith, nat_tests);
      }

  none-waits : waiting c' n.me ≡ 0
  none-waits =
      ap (λ (a : ℕ → Bool). count_below (λ k. not (a (suc k))) (length h)) acknowledged-is
      ∙ none-below (λ k. not (all (suc k))) (length h) (λ k l. (let e : nat_le (suc k) (length h) ≡ true = grind (arith, nat_tests) in rw e refl))

  saved-is : c'.world.saved n.me ≡ length h
  saved-is = at-itself n.me (λ b. (if b then length h else c.world.saved n.me) ≡ length h) refl

  -- its checkpoint covers all
  all-saved : (d : ℕ) → sent_by c.world.handlers n.me h d (c'.world.saved n.me) ≡ length (c.world.handlers.sends n.me h d)
  all-saved d = ap (sent_by c.world.handlers n.me h d) saved-is ∙ ap (λ (l : List Message). length (c.world.handlers.sends n.me l d)) (take_all (length h) h (omega arith))

  most-is : (durable : Bool) (d : ℕ) → most_released durable c' n.me d ≡ length (c.world.handlers.sends n.me h d)
  most-is true d = all-saved d
  most-is false d = released-is d

  gates : (d : ℕ) → d ≤ c.world.count → d ≢ n.me → IsShut (log_at n.logs d) (length h) (most_released n.limits.durable c' n.me d) (sent_by c.world.handlers n.me h d)
  gates d l o =
      let g = s.gates d l o in
      record { within = g.within; waits = λ k m. omega (arith, leading-bound k (log_at n.logs d).held, g.within, most-is n.limits.durable d, sent-size n c n.me d s l o) }

  free : (durable : Bool) (d : ℕ) → sent_by c.world.handlers n.me h d (freed_in durable c' n.me) ≤ c'.world.released n.me d
  free true d = omega (arith, all-saved d, released-is d)
  free false d =
      let run : run_to all (length h) ≡ length h = run_to-whole all (length h) (λ m a b. grind (arith, nat_tests)) in
      let e : sent_by c.world.handlers n.me h d (run_to (c'.world.acknowledged n.me) (length h)) ≡ length (c.world.handlers.sends n.me h d) =
      ap (λ (a : ℕ → Bool). sent_by c.world.handlers n.me h d (run_to a (length h))) acknowledged-is ∙ ap (sent_by c.world.handlers n.me h d) run ∙ ap (λ (l : List Message). length (c.world.handlers.sends n.me l d)) (take_all (length h) h (omega arith)) in
      omega (arith, e, released-is d)

  may-keep : May c (Keeps n.me)
  may-keep = (s.inside, waits-there)

  stands-thawed : Stands (thawed n) c' n.me
  stands-thawed =
      record {
        me = refl;
        count = s.count;
        inside = s.inside;
        stage = at-itself n.me (λ b. (if b then Live else c.stage n.me) ≡ Live) refl;
        greeted = s.greeted;
        phase = s.phase;
        works = s.works;
        life = s.life;
        state = s.state;
        durable = s.durable;
        exact = s.exact;
        saved = at-itself n.me (λ b. (if b then length h else c.world.saved n.me) ≡ (thawed n).base) many;
        received = subst (HasReceived n.count (thawed n).base (thawed n).covered (thawed n).receipts h) (sym acknowledged-is) received;
        waits = none-waits;
        logs = s.logs;
        gates = gates;
        free = λ d. free n.limits.durable d;
        heard = s.heard;
        resumed = s.resumed;
        out = all-still c c' n.me n.out refl (λ x i. i) (λ f i. i) s.out;
      }

  goes-thawed : GoesOn n.me (thawed n) kept
  goes-thawed = goes-act true n.me (λ d. Stands (thawed n) d n.me) kept (Thaws n.me) may-thaw tt tt refl stands-thawed

-- ---- the peers are told

pub only-says : (n : TheNode) (me d : ℕ) → OnlyPosts n (says_below me d n)
only-says n me zero = refl
only-says n me (suc d) = by-if (OnlyPosts n) (d == me) (says_below me d n) (says_covered d (says_below me d n)) (λ e. only-says n me d)
    (λ e. only-then n (says_below me d n) (says_covered d (says_below me d n)) (only-says n me d) (one (says_below me d n)))
  where
    one : (m : TheNode) → OnlyPosts m (says_covered d m)
    one m = by-if (OnlyPosts m) (nat_lt 0 (covered_of d m)) _ m (λ e. refl) (λ e. refl)

saying-below : (n : TheNode) (d : ℕ) → d ≤ suc n.count → Acts n (says_below n.me d n)
saying-below n zero low = acts-self n
saying-below n (suc d) low = by-if (Acts n) (d == n.me) (says_below n.me d n) (says_covered d (says_below n.me d n)) (λ e. saying-below n d (omega (arith, low)))
    (λ e. let m = says_below n.me d n in
    let only = only-says n n.me d in
    let apart : d ≢ n.me = different d n.me e in
    let count : m.count ≡ n.count = ap (λ (z : TheNode). z.count) only in
    let me : m.me ≡ n.me = ap (λ (z : TheNode). z.me) only in
    acts-then n m (says_covered d m) (saying-below n d (omega (arith, low)))
    (by-if (Acts m) (nat_lt 0 (covered_of d m)) _ m (λ f. says-covered m d (omega (arith, low, count)) (λ g. apart (g ∙ me))) (λ f. acts-self m)))

pub saves : (n : TheNode) → Within n → Saves n (saved n)
saves n w = (stays_so, here)
  where
    stays_so : n.frozen ≡ false → saved n ≡ n
    stays_so e = by-if (λ m. m ≡ n) n.frozen (thaws n) n (λ f. absurd (cc (e, f))) (λ f. refl)

    m : TheNode
    m = released (thawed n)

    behind : Acts (thawed n) (thaws n)
    behind = acts-then (thawed n) m (thaws n) (releasing (thawed n) w.logs_wide) (saying-below m (m.count + 1) (omega arith))

    here : n.frozen ≡ true → (c : Cluster) → Stands n c n.me → May c (Keeps n.me) × GoesOn n.me (saved n) (does c (Keeps n.me))
    here e c s =
        let kept : Cluster = does c (Keeps n.me) in
        let thaw : GoesOn n.me (thawed n) kept = goes-thawed n c s e w.wide in (
          may-keep n c s e w.wide,
          by-if (λ x. GoesOn n.me x kept) n.frozen (thaws n) n
              (λ f. goes-then true n.me (λ d. Stands (thawed n) d n.me) (λ d. Stands (thaws n) d n.me) kept thaw (λ d t. owes-at (λ z. Unit {0}) (thawed n) (thaws n) d n.me behind t tt))
              (λ f. absurd (cc (e, f))),
        )
