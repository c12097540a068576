-- The handler ran
use Rattle.std.proofs.Common.{◌≡◌, ◌≢◌, ℕ, zero, suc, ◌+◌, ◌<◌, ◌≤◌, take, List, [], ◌∷◌, ◌++◌, length, map, Bool, true, false, refl, sym, ap, ◌∙◌, subst, arith}
use Rattle.std.specs.Prelude.{Option, Some, None, not, max, nat_le, slice_get, slice_index_or, ◌==◌, if◌then◌else◌}
use Rattle.std.proofs.lemmas.Bool.Decides.{nat_tests}
use Rattle.std.proofs.lemmas.List.{length-set, take_all, take-append-le}
use Rattle.rsn.specs.Receipts.{Received, accepted}
use Rattle.world.specs.declared.message.Message.{Message}
use Rattle.world.specs.History.{Payload, nth, count_of}
use Rattle.world.specs.Phases.{Up}
use Rattle.world.specs.Bounds.{count_below}
use Rattle.world.specs.Logs.{run_to}
use Rattle.theorems.proofs.RunLemmas.{run_to-is, run_to-ends}
use Rattle.theorems.specs.Invariants.Exact.{Names}
use Rattle.theorems.proofs.Changes.{at-itself}
use Rattle.cluster.specs.Cluster.{Cluster, waiting}
use Rattle.cluster.specs.Rules.{Act, Works, May, does}
use Rattle.node.specs.declared.job.OpenJob.{OpenJob}
use Rattle.node.specs.declared.job.Given.{Given}
use Rattle.cluster.specs.Parcels.{Number}
use Rattle.node.specs.Queue.{TheQueue, appended, leading}
use Rattle.node.specs.Node.{TheNode, posts, log_at, logged, given_to, next_number, worked, number_of, OfPeer}
use Rattle.node.specs.Stands.{Stands, HasReceived, KeepsOf, IsShut, sent_by, GoesOn, Answers, IsNextAfter, payloads_to, job_of}
use Rattle.packets.proofs.Lists.{get-behind}
use Rattle.node.proofs.Lists.{count-append}
use Rattle.node.proofs.Logs.{length-push, changed-at, leading-bound, leading-push}
use Rattle.node.proofs.Numbers.{InOrderFrom-push}
use Rattle.node.proofs.Sent.{all-still}
use Rattle.node.proofs.Puts.{stands-takes, stands-well, posted, goes-on}

append-append : {X : Type 0} (xs ys zs : List X) → xs ++ (ys ++ zs) ≡ (xs ++ ys) ++ zs
append-append [] ys zs = refl
append-append (x ∷ xs) ys zs = ap (λ l. x ∷ l) (append-append xs ys zs)

map-push : (xs : List Message) (m : Message) → map (λ (k : Message). k.sender) (xs ++ m ∷ []) ≡ map (λ (k : Message). k.sender) xs ++ m.sender ∷ []
map-push [] m = refl
map-push (x ∷ xs) m = ap (λ l. x.sender ∷ l) (map-push xs m)

get-pushed : {X : Type 0} (xs : List X) (x d : X) (k : ℕ) → k < suc (length xs) → (b : Bool) → (k == length xs) ≡ b → slice_index_or (xs ++ x ∷ []) k d ≡ (if b then x else slice_index_or xs k d)
get-pushed [] x d zero l true e = refl
get-pushed [] x d zero l false e = absurd (grind (arith, nat_tests))
get-pushed [] x d (suc k) l b e = absurd (omega (arith, l))
get-pushed (y ∷ xs) x d zero l true e = absurd (grind (arith, nat_tests))
get-pushed (y ∷ xs) x d zero l false e = refl
get-pushed (y ∷ xs) x d (suc k) l true e = get-pushed xs x d k (omega (arith, l)) true (grind (arith, nat_tests, e))
get-pushed (y ∷ xs) x d (suc k) l false e = get-pushed xs x d k (omega (arith, l)) false (grind (arith, nat_tests, e))

length-append : {X : Type 0} (xs ys : List X) → length (xs ++ ys) ≡ length xs + length ys
length-append [] ys = omega arith
length-append (x ∷ xs) ys = let e : length (xs ++ ys) ≡ length xs + length ys = length-append xs ys in omega (arith, e)

length-map : (xs : List Message) → length (map (λ (k : Message). k.sender) xs) ≡ length xs
length-map [] = refl
length-map (x ∷ xs) = ap suc (length-map xs)

-- how long its history is
pub long : (count base : ℕ) (covered : List ℕ) (r : Received) (h : List Message) (a : ℕ → Bool) → HasReceived count base covered r h a → length h ≡ base + length r.senders
long count base covered r h a s =
    let e : length r.senders ≡ length s.behind = ap length s.senders ∙ length-map s.behind in
    let f : length h ≡ length s.before + length s.behind = ap length (sym s.joined) ∙ length-append s.before s.behind in
    omega (arith, e, f, s.many)

-- one message more, which nobody acknowledged
pub received-more : (count base : ℕ) (covered : List ℕ) (r : Received) (h : List Message) (a : ℕ → Bool) (m : Message) → HasReceived count base covered r h a → m.ssn ≡ suc (count_of m.sender h) → HasReceived count base covered (accepted m.sender r) (h ++ m ∷ []) a
received-more count base covered r h a m s next =
    record {
      before = s.before;
      behind = s.behind ++ m ∷ [];
      joined = append-append s.before s.behind (m ∷ []) ∙ ap (λ l. l ++ m ∷ []) s.joined;
      ordered = s.ordered;
      many = s.many;
      covered_is = s.covered_is;
      senders = ap (λ l. l ++ m.sender ∷ []) s.senders ∙ sym (map-push s.behind m);
      in_order = InOrderFrom-push (λ q. count_of q s.before) s.behind m s.in_order (next ∙ ap suc counted);
      flags = length-push r.acknowledged false ∙ ap suc s.flags ∙ sym (length-push r.senders m.sender);
      acknowledged_is = λ k l. flag k (omega (arith, l, length-push r.senders m.sender)) (k == length r.acknowledged) refl;
      below = s.below;
      above = λ k l. s.above k (let e : length (h ++ m ∷ []) ≡ suc (length h) = length-push h m in omega (arith, e, l));
    }
  where
    counted : count_of m.sender h ≡ count_of m.sender s.before + count_of m.sender s.behind
    counted = ap (count_of m.sender) (sym s.joined) ∙ count-append m.sender s.before s.behind

    flag : (k : ℕ) → k < suc (length r.senders) → (b : Bool) → (k == length r.acknowledged) ≡ b → slice_index_or (r.acknowledged ++ false ∷ []) k false ≡ a (suc (base + k))
    flag k l true e =
        let last : k ≡ length r.acknowledged = grind (arith, nat_tests) in
        let beyond : length h < suc (base + k) = omega (arith, last, s.flags, long count base covered r h a s) in
        get-pushed r.acknowledged false false k (omega (arith, l, s.flags)) true e ∙ sym (s.above (suc (base + k)) beyond)
    flag k l false e =
        let less : k < length r.senders = grind (arith, nat_tests, s.flags, l) in
        get-pushed r.acknowledged false false k (omega (arith, l, s.flags)) false e ∙ s.acknowledged_is k less

-- a queue with one message more
kept-more : (q : TheQueue) (dropped : ℕ) (xs : List Payload) (numbers : ℕ → Option ℕ) (x : Payload) (k : ℕ) → KeepsOf q dropped xs numbers → KeepsOf (appended x k q) dropped (xs ++ x ∷ []) numbers
kept-more q dropped xs numbers x k s =
    record {
      before = s.before;
      many = s.many;
      joined = append-append s.before q.payloads (x ∷ []) ∙ ap (λ l. l ++ x ∷ []) s.joined;
      dropped_is = s.dropped_is;
      as_many = length-push q.numbers None ∙ ap suc s.as_many ∙ sym (length-push q.payloads x);
      numbers_are = λ i l. number i (omega (arith, l, length-push q.payloads x)) (i == length q.numbers) refl;
      beyond = λ i l. s.beyond i (let e : length (q.payloads ++ x ∷ []) ≡ suc (length q.payloads) = length-push q.payloads x in omega (arith, e, l));
    }
  where
    number : (i : ℕ) → i < suc (length q.payloads) → (b : Bool) → (i == length q.numbers) ≡ b → slice_index_or (q.numbers ++ None ∷ []) i None ≡ numbers (suc (q.dropped + i))
    number i l true e =
        let last : i ≡ length q.numbers = grind (arith, nat_tests) in
        get-pushed q.numbers None None i (omega (arith, l, s.as_many)) true e ∙ sym (s.beyond (suc (q.dropped + i)) (omega (arith, last, s.as_many)))
    number i l false e =
        let less : i < length q.payloads = grind (arith, nat_tests, s.as_many, l) in
        get-pushed q.numbers None None i (omega (arith, l, s.as_many)) false e ∙ s.numbers_are i less

none-more : {X : Type 0} (xs : List X) → xs ++ [] ≡ xs
none-more [] = refl
none-more (x ∷ xs) = ap (λ l. x ∷ l) (none-more xs)

-- the queues with what a handler gave
log-more : (logs : List TheQueue) (d dropped : ℕ) (xs : List Payload) (numbers : ℕ → Option ℕ) (k : ℕ) (g : Given) → g.to < length logs → KeepsOf (log_at logs d) dropped xs numbers
    → KeepsOf (log_at (logged k g logs) d) dropped (xs ++ (if d == g.to then g.payload ∷ [] else [])) numbers
log-more logs d dropped xs numbers k g inside s = changed-at (λ q. KeepsOf q dropped (xs ++ (if d == g.to then g.payload ∷ [] else [])) numbers) logs g.to (appended g.payload k (log_at logs g.to)) d inside here there
  where
    here : d ≡ g.to → KeepsOf (appended g.payload k (log_at logs g.to)) dropped (xs ++ (if d == g.to then g.payload ∷ [] else [])) numbers
    here same =
        let e : (d == g.to) ≡ true = grind (arith, nat_tests) in
        let P : ℕ → Type 0 = λ j. KeepsOf (appended g.payload k (log_at logs j)) dropped (xs ++ g.payload ∷ []) numbers in
        rw e (subst P same (kept-more (log_at logs d) dropped xs numbers g.payload k s))

    there : d ≢ g.to → KeepsOf (log_at logs d) dropped (xs ++ (if d == g.to then g.payload ∷ [] else [])) numbers
    there apart = let e : (d == g.to) ≡ false = grind (arith, nat_tests) in rw (e, none-more xs) s

pub logs-more : (logs : List TheQueue) (d dropped : ℕ) (xs : List Payload) (numbers : ℕ → Option ℕ) (k : ℕ) (given : List Given) → ((i : ℕ) (g : Given) → slice_get given i ≡ Some g → g.to < length logs)
    → KeepsOf (log_at logs d) dropped xs numbers → KeepsOf (log_at (given_to k given logs) d) dropped (xs ++ payloads_to d given) numbers
logs-more logs d dropped xs numbers k [] inside s = rw (none-more xs) s
logs-more logs d dropped xs numbers k (g ∷ given) inside s =
    let one = log-more logs d dropped xs numbers k g (inside 0 g refl) s in
    let many : length (logged k g logs) ≡ length logs = length-set logs g.to (appended g.payload k (log_at logs g.to)) in
    let rest = logs-more (logged k g logs) d dropped (xs ++ (if d == g.to then g.payload ∷ [] else [])) numbers k given (λ i z e. omega (arith, many, inside (suc i) z e)) one in
    let P : List Payload → Type 0 = λ ys. KeepsOf (log_at (given_to k given (logged k g logs)) d) dropped ys numbers in
    subst P (sym (append-append xs (if d == g.to then g.payload ∷ [] else []) (payloads_to d given))) rest

-- and what waits in them does for a later number
pub shut-more : (logs : List TheQueue) (d n released : ℕ) (sent : ℕ → ℕ) (k : ℕ) (given : List Given) → n < k → ((i : ℕ) (g : Given) → slice_get given i ≡ Some g → g.to < length logs)
    → IsShut (log_at logs d) n released sent → IsShut (log_at (given_to k given logs) d) n released sent
shut-more logs d n released sent k [] late inside s = s
shut-more logs d n released sent k (g ∷ given) late inside s =
    let many : length (logged k g logs) ≡ length logs = length-set logs g.to (appended g.payload k (log_at logs g.to)) in
    shut-more (logged k g logs) d n released sent k given late (λ i z e. omega (arith, many, inside (suc i) z e))
    (changed-at (λ q. IsShut q n released sent) logs g.to (appended g.payload k (log_at logs g.to)) d (inside 0 g refl) here (λ apart. s))
  where
    one : (q : TheQueue) → IsShut q n released sent → IsShut (appended g.payload k q) n released sent
    one q t =
        record {
          within = omega (arith, t.within, length-push q.held k, length-push q.payloads g.payload);
          waits = λ j l. (let e : leading j (q.held ++ k ∷ []) ≡ leading j q.held = leading-push j k q.held (omega (arith, l, late)) in rw e (t.waits j l));
        }

    here : d ≡ g.to → IsShut (appended g.payload k (log_at logs g.to)) n released sent
    here same = let P : ℕ → Type 0 = λ z. IsShut (appended g.payload k (log_at logs z)) n released sent in subst P same (one (log_at logs d) s)

-- after one message more it still has released no more than these let go
pub shut-next : (q : TheQueue) (n released : ℕ) (sent more : ℕ → ℕ) → ((k : ℕ) → k ≤ n → more k ≡ sent k) → more (suc n) ≡ q.dropped + length q.payloads → IsShut q n released sent → IsShut q (suc n) released more
shut-next q n released sent more same all s =
    record {
      within = s.within;
      waits = λ k l. split k l (nat_le k n) refl;
    }
  where
    split : (k : ℕ) → k ≤ suc n → (b : Bool) → nat_le k n ≡ b → q.released + leading k q.held ≤ max released (more k)
    split k l true e = let m : k ≤ n = grind (arith, nat_tests) in rw (same k m) (s.waits k m)
    split k l false e =
        let last : k ≡ suc n = grind (arith, nat_tests) in
        let is : more k ≡ q.dropped + length q.payloads = ap more last ∙ all in
        omega (arith, is, leading-bound k q.held, s.within)

module _ (n : TheNode) (c : Cluster) (j : OpenJob) (state : List ℕ) (given : List Given) (s : Stands n c n.me) (busy : n.working ≡ Some j) (live : n.frozen ≡ false) (inside : (i : ℕ) (g : Given) → slice_get given i ≡ Some g → g.to < length n.logs) (answers : Answers c n.me (job_of j) state given) where
  abbrev act : Act
  act = Works n.me (job_of j)

  abbrev c' : Cluster
  c' = does c act

  abbrev more : List Message
  more = c.world.history n.me ++ job_of j ∷ []

  history-is : c'.world.history n.me ≡ c.world.history n.me ++ job_of j ∷ []
  history-is = at-itself n.me (λ t. (if t then c.world.history n.me ++ job_of j ∷ [] else c.world.history n.me) ≡ c.world.history n.me ++ job_of j ∷ []) refl

  next : j.ssn ≡ suc (count_of j.sender (c.world.history n.me))
  next = subst (IsNextAfter (c.world.history n.me)) busy s.works

  may : May c act
  may = (s.inside, stands-takes n c n.me live s, s.phase ∙ rw busy refl)

  still : not (c.world.acknowledged n.me (suc (length (c.world.history n.me)))) ≡ true
  still = let e : c.world.acknowledged n.me (suc (length (c.world.history n.me))) ≡ false = s.received.above (suc (length (c.world.history n.me))) (omega arith) in rw e refl

  waits : waiting c' n.me ≡ n.waiting + 1
  waits = ap (λ h. count_below (λ k. not (c.world.acknowledged n.me (suc k))) (length h)) history-is ∙ ap (count_below (λ k. not (c.world.acknowledged n.me (suc k)))) (length-push (c.world.history n.me) (job_of j))
      ∙ rw still (let e : waiting c n.me ≡ n.waiting = s.waits in omega (arith, e))

  many : length (c.world.history n.me) ≡ n.base + length n.receipts.senders
  many = long n.count n.base n.covered n.receipts (c.world.history n.me) (c.world.acknowledged n.me) s.received

  -- what the first messages sent they send still
  sent-still : (d k : ℕ) → k ≤ length (c.world.history n.me) → sent_by c.world.handlers n.me more d k ≡ sent_by c.world.handlers n.me (c.world.history n.me) d k
  sent-still d k l = ap (λ h. length (c.world.handlers.sends n.me h d)) (take-append-le k (c.world.history n.me) (job_of j ∷ []) l)

  logs-worked : (d : ℕ) → d ≤ c.world.count → d ≢ n.me → KeepsOf (log_at (given_to (next_number n) given n.logs) d) (c.world.trims n.me d) (c.world.handlers.sends n.me more d) (c.world.numbers n.me d)
  logs-worked d l o =
      subst (λ xs. KeepsOf (log_at (given_to (next_number n) given n.logs) d) (c.world.trims n.me d) xs (c.world.numbers n.me d)) (sym (answers.sends_are d))
      (logs-more n.logs d (c.world.trims n.me d) (c.world.handlers.sends n.me (c.world.history n.me) d) (c.world.numbers n.me d) (next_number n) given inside (s.logs d l o))

  within-saved : c.world.saved n.me ≤ length (c.world.history n.me)
  within-saved = omega (arith, s.saved, many)

  -- what it may release when its history is this
  abbrev most : List Message → ℕ → ℕ
  most h d = if n.limits.durable then sent_by c.world.handlers n.me h d (c.world.saved n.me) else c.world.released n.me d

  most-still : (d : ℕ) → most (c.world.history n.me) d ≡ most more d
  most-still d = ap (λ z. if n.limits.durable then z else c.world.released n.me d) (sym (sent-still d (c.world.saved n.me) within-saved))

  gates-worked : (d : ℕ) → d ≤ c.world.count → d ≢ n.me → IsShut (log_at (given_to (next_number n) given n.logs) d) (suc (length (c.world.history n.me))) (most more d) (sent_by c.world.handlers n.me more d)
  gates-worked d l o =
      let q = log_at (given_to (next_number n) given n.logs) d in
      let k = logs-worked d l o in
      let whole : take (suc (length (c.world.history n.me))) more ≡ more = take_all (suc (length (c.world.history n.me))) more (omega (arith, length-push (c.world.history n.me) (job_of j))) in
      let all : sent_by c.world.handlers n.me more d (suc (length (c.world.history n.me))) ≡ q.dropped + length q.payloads =
      ap (λ h. length (c.world.handlers.sends n.me h d)) whole ∙ ap length (sym k.joined) ∙ length-append k.before q.payloads ∙ ap (λ z. z + length q.payloads) k.many in
      subst (λ z. IsShut q (suc (length (c.world.history n.me))) z (sent_by c.world.handlers n.me more d)) (most-still d)
      (shut-next q (length (c.world.history n.me)) (most (c.world.history n.me) d) (sent_by c.world.handlers n.me (c.world.history n.me) d) (sent_by c.world.handlers n.me more d) (sent-still d) all
      (shut-more n.logs d (length (c.world.history n.me)) (most (c.world.history n.me) d) (sent_by c.world.handlers n.me (c.world.history n.me) d) (next_number n) given (omega (arith, many)) inside (s.gates d l o)))

  -- what is let go when its history is this
  abbrev goes : Bool → List Message → ℕ
  goes durable h = if durable then c.world.saved n.me else run_to (c.world.acknowledged n.me) (length h)

  free-worked : (durable : Bool) (d : ℕ) → sent_by c.world.handlers n.me (c.world.history n.me) d (goes durable (c.world.history n.me)) ≤ c.world.released n.me d → sent_by c.world.handlers n.me more d (goes durable more) ≤ c.world.released n.me d
  free-worked true d f = omega (arith, f, sent-still d (c.world.saved n.me) within-saved)
  free-worked false d f =
      let ends : run_to (c.world.acknowledged n.me) (length more) ≡ run_to (c.world.acknowledged n.me) (length (c.world.history n.me)) =
      ap (run_to (c.world.acknowledged n.me)) (length-push (c.world.history n.me) (job_of j)) ∙ run_to-ends (c.world.acknowledged n.me) (length (c.world.history n.me)) (s.received.above (suc (length (c.world.history n.me))) (omega arith)) in
      let e : sent_by c.world.handlers n.me more d (run_to (c.world.acknowledged n.me) (length more)) ≡ sent_by c.world.handlers n.me (c.world.history n.me) d (run_to (c.world.acknowledged n.me) (length (c.world.history n.me))) =
      ap (sent_by c.world.handlers n.me more d) ends ∙ sent-still d (run_to (c.world.acknowledged n.me) (length (c.world.history n.me))) (run_to-is (c.world.acknowledged n.me) (length (c.world.history n.me))).0 in
      omega (arith, e, f)

  pub stands-worked : Stands (worked j state given n) c' n.me
  stands-worked =
      record {
        me = refl;
        count = s.count;
        inside = s.inside;
        stage = s.stage;
        greeted = s.greeted;
        phase = at-itself n.me (λ t. (if t then Up else c.world.phase n.me) ≡ Up) refl;
        works = tt;
        life = s.life;
        state = ap (c.world.handlers.state n.me) history-is ∙ answers.state_is;
        saved = s.saved;
        durable = s.durable;
        exact = s.exact;
        received = subst (λ h. HasReceived n.count n.base n.covered (accepted j.sender n.receipts) h (c.world.acknowledged n.me)) (sym history-is) (received-more n.count n.base n.covered n.receipts (c.world.history n.me) (c.world.acknowledged n.me) (job_of j) s.received next);
        waits = waits;
        logs = λ d l o. subst (λ h. KeepsOf (log_at (given_to (next_number n) given n.logs) d) (c.world.trims n.me d) (c.world.handlers.sends n.me h d) (c.world.numbers n.me d)) (sym history-is) (logs-worked d l o);
        gates = λ d l o. subst (λ h. IsShut (log_at (given_to (next_number n) given n.logs) d) (length h) (most h d) (sent_by c.world.handlers n.me h d)) (sym history-is)
            (subst (λ z. IsShut (log_at (given_to (next_number n) given n.logs) d) z (most more d) (sent_by c.world.handlers n.me more d)) (sym (length-push (c.world.history n.me) (job_of j))) (gates-worked d l o));
        free = λ d. subst (λ h. sent_by c.world.handlers n.me h d (goes n.limits.durable h) ≤ c.world.released n.me d) (sym history-is) (free-worked n.limits.durable d (s.free d));
        heard = s.heard;
        resumed = s.resumed;
        out = all-still c c' n.me n.out refl (λ x i. i) (λ f i. i) s.out;
      }

  names : Names (c'.world.history n.me) (next_number n) j.sender j.ssn
  names =
      let at : slice_get (c.world.history n.me ++ job_of j ∷ []) (length (c.world.history n.me) + 0) ≡ Some (job_of j) = get-behind (c.world.history n.me) (job_of j ∷ []) 0 (job_of j) refl in
      let place : next_number n ≡ suc (length (c.world.history n.me) + 0) = omega (arith, long n.count n.base n.covered n.receipts (c.world.history n.me) (c.world.acknowledged n.me) s.received) in
      record { message = job_of j; at = ap (nth (c'.world.history n.me)) place ∙ ap (λ h. slice_get h (length (c.world.history n.me) + 0)) history-is ∙ at; sender = refl; ssn = refl }

  pub goes-worked : OfPeer n.me n.count (Some j) → GoesOn n.me (posts j.sender (number_of j n) (worked j state given n)) c
  goes-worked peer =
      goes-on n.me (posts j.sender (number_of j n) (worked j state given n)) c act may tt tt refl
      (posted (worked j state given n) c' j.sender (number_of j n) (Number n.life j.ssn (next_number n)) refl stands-worked peer.0 peer.1 (stands-well (worked j state given n) c' n.me stands-worked, sym s.life, names) tt tt)
