-- What a process that comes back has released, and what waits
use Rattle.std.proofs.Common.{◌≡◌, ℕ, suc, ◌+◌, ◌-◌, ◌<◌, ◌≤◌, List, [], ◌∷◌, ◌++◌, length, map, take, drop, refl, sym, ap, ◌∙◌, subst, arith}
use Rattle.std.specs.Prelude.{Option, Some, None, min, slice_get}
use Rattle.std.proofs.lemmas.List.{length-append, length-set, take_all, take-append-le}
use Rattle.packets.specs.declared.kept.Kept.{Kept}
use Rattle.packets.specs.declared.kept.KeptLog.{KeptLog}
use Rattle.world.specs.declared.message.Message.{Message}
use Rattle.world.specs.History.{Payload}
use Rattle.world.specs.Handlers.{Handlers}
use Rattle.node.specs.declared.job.Given.{Given}
use Rattle.packets.specs.declared.page.Pair.{Pair}
use Rattle.node.specs.Queue.{TheQueue, no_queue, appended, dropped_to, leading}
use Rattle.node.specs.Node.{log_at, logged, given_to}
use Rattle.node.specs.Kept.{with_own, queue_of}
use Rattle.node.specs.Stands.{Each, KeepsOf, IsShut, sent_by, payloads_to}
use Rattle.node.proofs.Commits.{logs-more, shut-more, shut-next}
use Rattle.node.proofs.Drops.{shut-dropped}
use Rattle.node.proofs.Logs.{changed-at, length-push}
use Rattle.recovery.specs.Intake.{noted}
use Rattle.recovery.specs.Stands.{IsHeldBack}
use Rattle.recovery.proofs.Lists.{each-append}
use Rattle.recovery.proofs.Preservation.{at-each, each-take, each-drop}

-- ---- what a checkpoint keeps

-- all that it holds is released
abbrev IsFree : TheQueue → Type 0
IsFree q = (q.released ≡ q.dropped + length q.payloads) × (q.held ≡ [])

free-kept : (ls : List KeptLog) → Each IsFree (map queue_of ls)
free-kept [] = tt
free-kept (l ∷ ls) = ((refl, refl), free-kept ls)

free-at : (k : Kept) (d : ℕ) → IsFree (log_at (with_own no_queue k.me (map queue_of k.logs)) d)
free-at k d =
    let all : Each IsFree (map queue_of k.logs) = free-kept k.logs in
    at-each IsFree (with_own no_queue k.me (map queue_of k.logs)) no_queue (refl, refl)
    (each-append IsFree (take k.me (map queue_of k.logs)) (no_queue ∷ drop k.me (map queue_of k.logs)) (each-take IsFree k.me (map queue_of k.logs) all) ((refl, refl), each-drop IsFree k.me (map queue_of k.logs) all)) d

-- how many messages a queue keeps, with those that were dropped
many-kept : (q : TheQueue) (dropped : ℕ) (xs : List Payload) (numbers : ℕ → Option ℕ) → KeepsOf q dropped xs numbers → q.dropped + length q.payloads ≡ length xs
many-kept q dropped xs numbers s = sym (ap length (sym s.joined) ∙ length-append s.before q.payloads ∙ ap (λ z. z + length q.payloads) s.many)

-- a queue in which nothing waits, and from which all is released that the first messages sent
held-free : (q : TheQueue) (n base : ℕ) (sent : ℕ → ℕ) → IsFree q → q.dropped + length q.payloads ≡ sent base → IsHeldBack q n base sent
held-free q n base sent free all =
    record {
      released_is = free.0 ∙ all;
      shut = record {
        within = (let e : length q.held ≡ 0 = ap length free.1 in let r : q.released ≡ q.dropped + length q.payloads = free.0 in omega (arith, e, r));
        waits = λ k l. (let e : leading k q.held ≡ 0 = ap (leading k) free.1 in let r : q.released ≡ sent base = free.0 ∙ all in omega (arith, e, r));
      };
    }

pub held-kept : (k : Kept) (f : Handlers) (p : ℕ) (h : List Message) (d trims : ℕ) → length h ≤ k.length → KeepsOf (log_at (with_own no_queue k.me (map queue_of k.logs)) d) trims (f.sends p h d) (λ _. None)
    → IsHeldBack (log_at (with_own no_queue k.me (map queue_of k.logs)) d) (length h) k.length (sent_by f p h d)
held-kept k f p h d trims few s =
    let q = log_at (with_own no_queue k.me (map queue_of k.logs)) d in
    held-free q (length h) k.length (sent_by f p h d) (free-at k d) (many-kept q trims (f.sends p h d) (λ _. None) s ∙ ap (λ z. length (f.sends p z d)) (sym (take_all k.length h few)))

-- ---- one message more

released-more : (logs : List TheQueue) (d k : ℕ) (given : List Given) → ((i : ℕ) (g : Given) → slice_get given i ≡ Some g → g.to < length logs) → (log_at (given_to k given logs) d).released ≡ (log_at logs d).released
released-more logs d k [] inside = refl
released-more logs d k (g ∷ given) inside =
    let many : length (logged k g logs) ≡ length logs = length-set logs g.to (appended g.payload k (log_at logs g.to)) in
    released-more (logged k g logs) d k given (λ i z e. omega (arith, many, inside (suc i) z e))
    ∙ changed-at (λ q. q.released ≡ (log_at logs d).released) logs g.to (appended g.payload k (log_at logs g.to)) d (inside 0 g refl)
    (λ same. let P : ℕ → Type 0 = λ z. (log_at logs z).released ≡ (log_at logs d).released in subst P same refl) (λ apart. refl)

module _ (f : Handlers) (p : ℕ) (h : List Message) (m : Message) where
  -- what the first of them sent they send still
  sent-first : (d k : ℕ) → k ≤ length h → sent_by f p (h ++ m ∷ []) d k ≡ sent_by f p h d k
  sent-first d k l = ap (λ z. length (f.sends p z d)) (take-append-le k h (m ∷ []) l)

  pub held-more : (logs : List TheQueue) (d base trims : ℕ) (numbers : ℕ → Option ℕ) (k : ℕ) (given : List Given) → base ≤ length h → length h < k → ((i : ℕ) (g : Given) → slice_get given i ≡ Some g → g.to < length logs)
      → f.sends p (h ++ m ∷ []) d ≡ f.sends p h d ++ payloads_to d given → KeepsOf (log_at logs d) trims (f.sends p h d) numbers → IsHeldBack (log_at logs d) (length h) base (sent_by f p h d)
      → IsHeldBack (log_at (given_to k given logs) d) (length (h ++ m ∷ [])) base (sent_by f p (h ++ m ∷ []) d)
  held-more logs d base trims numbers k given covers late inside sends s held =
      let q = log_at (given_to k given logs) d in
      let first : sent_by f p (h ++ m ∷ []) d base ≡ sent_by f p h d base = sent-first d base covers in
      let kept = many-kept q trims (f.sends p h d ++ payloads_to d given) numbers (logs-more logs d trims (f.sends p h d) numbers k given inside s) in
      let whole : take (suc (length h)) (h ++ m ∷ []) ≡ h ++ m ∷ [] = take_all (suc (length h)) (h ++ m ∷ []) (omega (arith, length-push h m)) in
      let all : sent_by f p (h ++ m ∷ []) d (suc (length h)) ≡ q.dropped + length q.payloads = ap (λ z. length (f.sends p z d)) whole ∙ ap length sends ∙ sym kept in
      let P : ℕ → Type 0 = λ z. IsShut q z (sent_by f p (h ++ m ∷ []) d base) (sent_by f p (h ++ m ∷ []) d) in
      let Q : ℕ → Type 0 = λ z. IsShut q (suc (length h)) z (sent_by f p (h ++ m ∷ []) d) in
      record {
        released_is = released-more logs d k given inside ∙ held.released_is ∙ sym first;
        shut = subst P (sym (length-push h m)) (subst Q (sym first)
            (shut-next q (length h) (sent_by f p h d base) (sent_by f p h d) (sent_by f p (h ++ m ∷ []) d) (sent-first d) all
            (shut-more logs d (length h) (sent_by f p h d base) (sent_by f p h d) k given late inside held.shut)));
      }

  pub grown-more : (d base : ℕ) (given : List Given) → base ≤ length h → f.sends p (h ++ m ∷ []) d ≡ f.sends p h d ++ payloads_to d given → sent_by f p h d base ≤ length (f.sends p h d)
      → sent_by f p (h ++ m ∷ []) d base ≤ length (f.sends p (h ++ m ∷ []) d)
  grown-more d base given covers sends less =
      let first = sent-first d base covers in
      let more : length (f.sends p (h ++ m ∷ []) d) ≡ length (f.sends p h d) + length (payloads_to d given) = ap length sends ∙ length-append (f.sends p h d) (payloads_to d given) in
      omega (arith, first, more, less)

-- ---- a page that a peer told

-- a queue that drops what is covered for good, and gets numbers
pub held-told : (q : TheQueue) (covered n base : ℕ) (sent : ℕ → ℕ) (pairs : List Pair) → IsHeldBack q n base sent → IsHeldBack (noted pairs (dropped_to covered q)) n base sent
held-told q covered n base sent pairs held =
    let shut : IsShut (dropped_to covered q) n (sent base) sent = shut-dropped q (min (covered - q.dropped) (length q.payloads)) n (sent base) sent (omega arith) held.shut in
    record { released_is = held.released_is; shut = record { within = shut.within; waits = shut.waits } }
