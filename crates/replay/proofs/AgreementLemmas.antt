-- What the world gathers, message by message
use Rattle.std.proofs.Common.{◌≡◌, ℕ, zero, suc, ◌+◌, ◌-◌, ◌<◌, ◌≤◌, List, [], ◌∷◌, ◌++◌, length, take, Bool, true, false, refl, sym, ap, ◌∙◌, append-nil, append_assoc, arith}
use Rattle.std.specs.Prelude.{◌==◌, ◌&&◌, not, nat_le, nat_lt, slice_get, count_by, cond, Option, Some, None, if◌then◌else◌}
use Rattle.std.proofs.lemmas.Bool.Decides.{nat_tests}
use Rattle.std.proofs.lemmas.List.{length-map, map-append, take_all}
use Rattle.std.proofs.lemmas.List.Sums.{sum_by-cons}
use Rattle.std.proofs.lemmas.Option.{slice_get_past}
use Rattle.sender_log.specs.Queue.{TheQueue, is_logged}
use Rattle.world.specs.declared.message.Message.{Message}
use Rattle.world.specs.History.{count_of}
use Rattle.world.specs.Logs.{is_entry, sent}
use Rattle.world.specs.Phases.{is_down}
use Rattle.world.specs.World.{World}
use Rattle.world.specs.Plan as world
use Rattle.replay.specs.Plan.{if_next, logged_as, logged_under, queue_in, senders_of, upcoming}
use Rattle.replay.specs.Agreement.{PlanIsGathered, SameIsFound, ShowsLog}

-- as many receipts of a sender as messages
count_of-senders : (s : ℕ) (h : List Message) → count_by (λ x. x == s) (senders_of h) ≡ count_of s h
count_of-senders s [] = refl
count_of-senders s (m ∷ h) = sum_by-cons (λ x. cond (x == s) 1 0) m.sender (senders_of h) ∙ ap (λ k. (if m.sender == s then 1 else 0) + k) (count_of-senders s h)

if_next-senders : (h : List Message) (o : Option Message) → world.if_next h o ≡ if_next (senders_of h) o
if_next-senders h None = refl
if_next-senders h (Some m) = rw (count_of-senders m.sender h) refl

-- what the world takes next is what comes next after the senders of its messages
chosen-upcoming : (w : World) (p : ℕ) (h : List Message) → world.chosen w p h ≡ upcoming (world.found w p) (senders_of h)
chosen-upcoming w p h = if_next-senders h (world.found w p (suc (length h))) ∙ ap (λ k. if_next (senders_of h) (world.found w p (suc k))) (sym (length-map h (λ (m : Message). m.sender)))

-- one message more of a plan
take-pushed : (g plan : List Message) (k : ℕ) → k < length plan → g ++ take (suc k) plan ≡ world.pushed (g ++ take k plan) (slice_get plan k)
take-pushed g [] k h = absurd (omega arith)
take-pushed g (x ∷ xs) zero h = ap (λ l. l ++ x ∷ []) (sym (append-nil g))
take-pushed g (x ∷ xs) (suc k) h = sym (append_assoc g (x ∷ []) (take (suc k) xs)) ∙ take-pushed (g ++ x ∷ []) xs k (omega arith) ∙ ap (λ l. world.pushed l (slice_get xs k)) (append_assoc g (x ∷ []) (take k xs))

pub plan-gathered : PlanIsGathered
plan-gathered w p h plan is = (gathered (length plan) (omega arith) ∙ ap (λ l. h ++ l) (take_all (length plan) plan (omega arith)), next (length plan) plan (take_all (length plan) plan (omega arith)) (omega arith) ∙ slice_get_past plan (length plan) (omega arith))
  where
    next : (k : ℕ) (ms : List Message) → take k plan ≡ ms → k ≤ length plan → world.chosen w p (h ++ ms) ≡ slice_get plan k
    next k ms e within = chosen-upcoming w p (h ++ ms) ∙ ap (upcoming (world.found w p)) (map-append (λ (m : Message). m.sender) h ms ∙ ap (λ l. senders_of h ++ senders_of l) (sym e)) ∙ is k within

    gathered : (k : ℕ) → k ≤ length plan → world.gather w p h k ≡ h ++ take k plan
    gathered zero within = sym (append-nil h)
    gathered (suc k) within =
        let before = gathered k (omega arith) in
        ap (λ g. world.pushed g (world.chosen w p g)) before ∙ ap (world.pushed (h ++ take k plan)) (next k (take k plan) refl (omega arith)) ∙ sym (take-pushed h plan k (omega arith))

-- beyond what is there nothing changes
first_below-longer : {X : Type 0} (f : ℕ → Option X) (n k : ℕ) → ((i : ℕ) → n ≤ i → f i ≡ None) → world.first_below f (n + k) ≡ world.first_below f n
first_below-longer f n zero none = let e : n + 0 ≡ n = omega arith in ap (world.first_below f) e
first_below-longer {X = X} f n (suc k) none =
    let more : n + suc k ≡ suc (n + k) = omega arith in
    rw (more, none (n + k) (omega arith)) (or_none (world.first_below f (n + k)) ∙ first_below-longer f n k none)
  where
    or_none : (o : Option X) → world.or_else o None ≡ o
    or_none None = refl
    or_none (Some x) = refl

first_below-same : {X : Type 0} (f g : ℕ → Option X) (n : ℕ) → ((i : ℕ) → i < n → f i ≡ g i) → world.first_below f n ≡ world.first_below g n
first_below-same f g zero same = refl
first_below-same f g (suc n) same = λ i. world.or_else (first_below-same f g n (λ j h. same j (omega arith)) i) (same n (omega arith) i)

-- one entry of a log
logged_as-same : (w : World) (s p m i : ℕ) (q : TheQueue) → ShowsLog w s p q → logged_as q s m i ≡ world.logged_as w p m s i
logged_as-same w s p m i q shows = by_entry (is_logged i q) refl
  where
    by_entry : (b : Bool) → is_logged i q ≡ b → logged_as q s m i ≡ world.logged_as w p m s i
    by_entry true e =
        let here = (shows i).1 e in
        let entry : is_entry w s p i ≡ true = sym (shows i).0 ∙ e in
        rw (e, entry, here.0, ← here.1) refl
    by_entry false e =
        let none : is_entry w s p i ≡ false = sym (shows i).0 ∙ e in
        rw (e, none) refl

and_false : (b : Bool) → (b && false) ≡ false
and_false true = refl
and_false false = refl

-- after its last message a queue has none
logged_as-past : (q : TheQueue) (s m i : ℕ) → q.first + length q.payloads ≤ i → logged_as q s m i ≡ None
logged_as-past q s m i h =
    let test : nat_lt (i - q.first) (length q.payloads) ≡ false = grind (arith, nat_tests) in
    rw (test, and_false (nat_le q.first i)) refl

-- nor has a log after what was sent
entry-past : (w : World) (s p m i : ℕ) → suc (length (sent w s p)) ≤ i → world.logged_as w p m s i ≡ None
entry-past w s p m i h =
    let test : nat_le i (length (sent w s p)) ≡ false = grind (arith, nat_tests) in
    rw (test, and_false (not (is_down (w.phase s)) && nat_lt (w.trims s p) i)) refl

-- the log of one sender
logged_under-same : (w : World) (s p m : ℕ) (q : TheQueue) → ShowsLog w s p q → logged_under q s m ≡ world.first_below (world.logged_as w p m s) (suc (length (sent w s p)))
logged_under-same w s p m q shows =
    let a : ℕ = q.first + length q.payloads in
    let b : ℕ = suc (length (sent w s p)) in
    let turned : a + b ≡ b + a = omega arith in
    sym (first_below-longer (logged_as q s m) a b (logged_as-past q s m)) ∙ first_below-same (logged_as q s m) (world.logged_as w p m s) (a + b) (λ i h. logged_as-same w s p m i q shows) ∙ ap (world.first_below (world.logged_as w p m s)) turned ∙ first_below-longer (world.logged_as w p m s) b a (entry-past w s p m)

pub same-found : SameIsFound
same-found w p logs size shows m = ap (world.first_below (λ s. logged_under (queue_in logs p s) s m)) size ∙ first_below-same (λ s. logged_under (queue_in logs p s) s m) (λ s. world.first_below (world.logged_as w p m s) (suc (length (sent w s p)))) (suc w.count) (λ s h. logged_under-same w s p m (queue_in logs p s) (shows s (omega arith)))
