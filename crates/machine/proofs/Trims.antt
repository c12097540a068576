-- The steps of trims
use Rattle.std.proofs.Common.{◌≡◌, ◌≢◌, ℕ, zero, suc, ◌+◌, ◌-◌, ◌<◌, ◌≤◌, [], length, set, min, max, Bool, true, false, refl, sym, ap, ◌∙◌, subst, arith, true≢false}
use Rattle.std.specs.Prelude.{◌==◌, nat_lt, None, if◌then◌else◌, slice_index_or}
use Rattle.std.proofs.lemmas.Bool.Decides.{nat_tests}
use Rattle.std.proofs.lemmas.List.{get_or-set_same, get_or-set_other, length-set}
use Rattle.sender_log.specs.Queue.{no_queue, count_up_to, trimmed}
use Rattle.sender_log.specs.Log.{TheLog, queue_of}
use Rattle.world.specs.declared.call.Call.TheVariants.{Trim}
use Rattle.world.specs.declared.answer.Answer.TheVariants.{Trimmed}
use Rattle.world.specs.Phases.{is_up, is_down}
use Rattle.world.specs.World.{World, put}
use Rattle.world.specs.Logs.{sent, covered}
use Rattle.world.specs.Calls.{trim, trimmed as trimmed_in, dropped}
use Rattle.theorems.specs.Invariants.Sound.{Sound}
use Rattle.world.specs.Refusals.{refusal_of}
use Rattle.session_process.specs.Process.{TheProcess, idle_process, trimmed_at}
use Rattle.session_process.specs.Mode.{is_live}
use Rattle.machine.specs.Checkpoints.{covered_at, drops, dropped_by, dropped_to, trimmed_log, trimmed_to, without_covered}
use Rattle.machine.specs.Simulation.{TheMachine, Shows, Stands, StandsAt, Steps, Keeps, process_at, log_at, is_up_at}
use Rattle.machine.proofs.OutboxLemmas.{stands-outbox}
use Rattle.machine.proofs.Status.{up-down, is_live-at, live-lost}
use Rattle.machine.proofs.OneProcess.{shows-one, unchanged-at}
use Rattle.machine.proofs.Steps.{step}
use Rattle.machine.proofs.Coverage.{drops-to, keeps-trimmed, width-to, covered-is, up-shown, own-covered}

-- the trim counts when the senders below k have dropped
abbrev pub trims_to : World → ℕ → ℕ → ℕ → ℕ → ℕ
trims_to w d k s = put (w.trims s) d (if nat_lt s k then trimmed_in w d s else w.trims s d)

-- the world when the senders below k have dropped
abbrev pub world_to : World → ℕ → ℕ → World
world_to w d k = record w { trims = trims_to w d k }

-- of the others they don't change
trims-other : (w : World) (d k q : ℕ) → (q == k) ≡ false → trims_to w d (suc k) q ≡ trims_to w d k q
trims-other w d k q e =
    let same : nat_lt q (suc k) ≡ nat_lt q k = by_place (nat_lt q k) refl in
    ap (λ b. put (w.trims q) d (if b then trimmed_in w d q else w.trims q d)) same
  where
    by_place : (b : Bool) → nat_lt q k ≡ b → nat_lt q (suc k) ≡ b
    by_place true t = grind (arith, nat_tests)
    by_place false t = grind (arith, nat_tests, e)

-- where a sender drops nothing, they stay
trims-stay : (w : World) (d k : ℕ) → trimmed_in w d k ≡ w.trims k d → (q e : ℕ) → trims_to w d (suc k) q e ≡ trims_to w d k q e
trims-stay w d k stays q e = by_key (q == k) refl
  where
    by_key : (b : Bool) → (q == k) ≡ b → trims_to w d (suc k) q e ≡ trims_to w d k q e
    by_key true t =
        let same : q ≡ k = grind (arith, nat_tests) in
        let after : nat_lt q (suc k) ≡ true = grind (arith, nat_tests) in
        let before : nat_lt q k ≡ false = grind (arith, nat_tests) in
        let there : trimmed_in w d q ≡ w.trims q d = subst (λ j. trimmed_in w d j ≡ w.trims j d) (sym same) stays in
        rw (after, before) (ap (λ n. put (w.trims q) d n e) there)
    by_key false t = ap (λ f. f e) (trims-other w d k q t)

-- all logs have a queue for each number
pub record AreWide (m : TheMachine) : Type 0 where
  pub outside : length m.outside.log.queues ≡ suc (length m.processes)
  pub inside : (p : ℕ) → 0 < p → p ≤ length m.processes → length (process_at m p).outbox.log.queues ≡ suc (length m.processes)

-- a queue of a log from which messages to d are dropped
queue-same : (l : TheLog) (d i : ℕ) → d < length l.queues → queue_of d (trimmed_log d i l) ≡ trimmed (count_up_to i (queue_of d l)) (queue_of d l)
queue-same l d i h = get_or-set_same l.queues d (trimmed (count_up_to i (queue_of d l)) (queue_of d l)) no_queue h

queue-other : (l : TheLog) (d i q : ℕ) → (q == d) ≡ false → queue_of q (trimmed_log d i l) ≡ queue_of q l
queue-other l d i q e = get_or-set_other l.queues d q (trimmed (count_up_to i (queue_of d l)) (queue_of d l)) no_queue (grind (arith, nat_tests))

-- where the trim counts are the same, a machine shows the world with either
retrimmed : (m : TheMachine) (w : World) (t t' : ℕ → ℕ → ℕ) → Shows m (record w { trims = t }) → ((p q : ℕ) → p ≤ length m.processes → t' p q ≡ t p q) → Shows m (record w { trims = t' })
retrimmed m w t t' shows same =
    record {
      count = shows.count;
      process = shows.process;
      logs = λ p q from to apart back. rw (same p q from) (shows.logs p q from to apart back);
      gates = shows.gates;
      shut = shows.shut;
      feeds = shows.feeds;
      shown = shows.shown;
      wire = shows.wire;
      started = shows.started;
      outside = shows.outside;
    }

module _ (m : TheMachine) (w : World) (d k : ℕ) (shows : Shows m (world_to w d k)) (sound : Sound w) (unsent : w.inputs 0 ≡ []) (wide : AreWide m) (to : d ≤ length m.processes) (from : k ≤ length m.processes) where
  up_at_k : is_up (w.phase k) ≡ is_up_at m k
  up_at_k = up-shown m (world_to w d k) shows k from

  -- what k drops and what it keeps, where it does
  module _ (b : drops m d k ≡ true) where
    apart : k ≢ d
    apart = λ e. absurd (let same : (k == d) ≡ true = grind (arith, nat_tests) in true≢false (sym b ∙ rw same refl))

    up : is_up_at m k ≡ true
    up = let other : (k == d) ≡ false = grind (arith, nat_tests, apart) in sym (rw other refl) ∙ b

    back : is_down (w.phase k) ≡ false
    back = up-down (w.phase k) (up_at_k ∙ up)

    was : Keeps (queue_of d (log_at m k)) (w.trims k d) (sent w k d) (w.numbers k d)
    was =
        let self : (d == d) ≡ true = grind (arith, nat_tests) in
        let below : nat_lt k k ≡ false = grind (arith, nat_tests) in
        let kept = shows.logs k d from to apart back in
        rw (self, below) at kept

    covers : covered_at m k d ≡ covered w k d
    covers = covered-is m (world_to w d k) shows k d to

    rises : max (w.trims k d) (min (covered_at m k d) (length (sent w k d))) ≡ trimmed_in w d k
    rises = let here : is_up (w.phase k) ≡ true = up_at_k ∙ up in rw (here, covers) refl

    now : Keeps (trimmed (count_up_to (covered_at m k d) (queue_of d (log_at m k))) (queue_of d (log_at m k))) (trimmed_in w d k) (sent w k d) (w.numbers k d)
    now = subst (λ n. Keeps (trimmed (count_up_to (covered_at m k d) (queue_of d (log_at m k))) (queue_of d (log_at m k))) n (sent w k d) (w.numbers k d)) rises (keeps-trimmed (queue_of d (log_at m k)) (w.trims k d) (covered_at m k d) (sent w k d) (w.numbers k d) was)

    many : count_up_to (covered_at m k d) (queue_of d (log_at m k)) ≡ trimmed_in w d k - w.trims k d
    many = let all = drops-to (queue_of d (log_at m k)) (w.trims k d) (covered_at m k d) (sent w k d) (w.numbers k d) was in let r = rises in omega (arith, all, r)

  -- the counts of k, when it has dropped
  trims-now : trims_to w d (suc k) k d ≡ trimmed_in w d k
  trims-now =
      let self : (d == d) ≡ true = grind (arith, nat_tests) in
      let below : nat_lt k (suc k) ≡ true = grind (arith, nat_tests) in
      rw (self, below) refl

  trims-aside : (e : ℕ) → (e == d) ≡ false → trims_to w d (suc k) k e ≡ trims_to w d k k e
  trims-aside e f = rw f refl

  -- where k drops nothing
  idle : drops m d k ≡ false → trimmed_in w d k ≡ w.trims k d
  idle b = by_own (k == d) refl
    where
      by_own : (c : Bool) → (k == d) ≡ c → trimmed_in w d k ≡ w.trims k d
      by_own true e = let same : d ≡ k = grind (arith, nat_tests) in subst (λ j. trimmed_in w j k ≡ w.trims k j) (sym same) (own-covered w sound unsent k)
      by_own false e = let down : is_up_at m k ≡ false = sym (rw e refl) ∙ b in let here : is_up (w.phase k) ≡ false = up_at_k ∙ down in rw here refl

  -- k drops as many as in the world
  pub dropped-is : dropped_by m d k ≡ trimmed_in w d k - w.trims k d
  dropped-is = by_drops (drops m d k) refl
    where
      by_drops : (b : Bool) → drops m d k ≡ b → (if b then count_up_to (covered_at m k d) (queue_of d (log_at m k)) else 0) ≡ trimmed_in w d k - w.trims k d
      by_drops true e = many e
      by_drops false e = let none = idle e in omega (arith, none)

-- the outside drops
module _ (m : TheMachine) (w : World) (d : ℕ) (shows : Shows m (world_to w d 0)) (sound : Sound w) (unsent : w.inputs 0 ≡ []) (wide : AreWide m) (to : d ≤ length m.processes) (b : drops m d 0 ≡ true) where
  abbrev lighter : TheMachine
  lighter = record m { outside = record m.outside { log = trimmed_log d (covered_at m 0 d) m.outside.log } }

  outside-logs : (p q : ℕ) → p ≤ length m.processes → q ≤ length m.processes → p ≢ q → is_down (w.phase p) ≡ false → Keeps (queue_of q (log_at lighter p)) (trims_to w d 1 p q) (sent w p q) (w.numbers p q)
  outside-logs zero q from aim apart back = by_key (q == d) refl
    where
      by_key : (c : Bool) → (q == d) ≡ c → Keeps (queue_of q (trimmed_log d (covered_at m 0 d) m.outside.log)) (trims_to w d 1 0 q) (sent w 0 q) (w.numbers 0 q)
      by_key true e =
          let same : d ≡ q = grind (arith, nat_tests) in
          let there : Keeps (queue_of d (trimmed_log d (covered_at m 0 d) m.outside.log)) (trims_to w d 1 0 d) (sent w 0 d) (w.numbers 0 d) =
          rw (queue-same m.outside.log d (covered_at m 0 d) (omega (arith, to, wide.outside)), trims-now m w d 0 shows sound unsent wide to from) (now m w d 0 shows sound unsent wide to from b) in
          subst (λ j. Keeps (queue_of j (trimmed_log d (covered_at m 0 d) m.outside.log)) (trims_to w d 1 0 j) (sent w 0 j) (w.numbers 0 j)) same there
      by_key false e = rw (queue-other m.outside.log d (covered_at m 0 d) q e, trims-aside m w d 0 shows sound unsent wide to from q e) (shows.logs 0 q from aim apart back)
  outside-logs (suc p) q from aim apart back =
      let inside : (suc p == 0) ≡ false = grind (arith, nat_tests) in
      let log : log_at lighter (suc p) ≡ log_at m (suc p) = rw inside refl in
      let was : Keeps (queue_of q (log_at m (suc p))) (trims_to w d 0 (suc p) q) (sent w (suc p) q) (w.numbers (suc p) q) = shows.logs (suc p) q from aim apart back in
      let counted : Keeps (queue_of q (log_at m (suc p))) (trims_to w d 1 (suc p) q) (sent w (suc p) q) (w.numbers (suc p) q) = subst (λ (f : ℕ → ℕ). Keeps (queue_of q (log_at m (suc p))) (f q) (sent w (suc p) q) (w.numbers (suc p) q)) (sym (trims-other w d 0 (suc p) inside)) was in
      subst (λ (l : TheLog). Keeps (queue_of q l) (trims_to w d 1 (suc p) q) (sent w (suc p) q) (w.numbers (suc p) q)) (sym log) counted

  outside-drops : Shows lighter (world_to w d 1)
  outside-drops =
      record {
        count = shows.count;
        process = shows.process;
        logs = outside-logs;
        gates = shows.gates;
        shut = shows.shut;
        feeds = shows.feeds;
        shown = shows.shown;
        wire = shows.wire;
        started = shows.started;
        outside = shows.outside;
      }

-- a process drops
module _ (m : TheMachine) (w : World) (d k : ℕ) (shows : Shows m (world_to w d k)) (sound : Sound w) (unsent : w.inputs 0 ≡ []) (wide : AreWide m) (to : d ≤ length m.processes) (positive : 0 < k) (from : k ≤ length m.processes) (b : drops m d k ≡ true) where
  inside : (k == 0) ≡ false
  inside = grind (arith, nat_tests)

  standing : StandsAt (length m.processes) k (process_at m k) (w.handlers.state k) (w.handlers.sends k) (w.history k) (w.phase k) (w.incarnation k) (w.acknowledged k) (w.saved k) (w.saved_trims k)
  standing = let place : suc (k - 1) ≡ k = omega arith in rw place at (shows.process (k - 1) (idle_process 0 0 0) (omega (arith, positive, from)))

  live : is_live (process_at m k).mode ≡ true
  live = is_live-at m k positive (up m w d k shows sound unsent wide to from b)

  here : StandsAt (length m.processes) k (trimmed_at d (covered_at m k d) (process_at m k)) (w.handlers.state k) (w.handlers.sends k) (w.history k) (w.phase k) (w.incarnation k) (w.acknowledged k) (w.saved k) (w.saved_trims k)
  here = stands-outbox (trimmed_at d (covered_at m k d) (process_at m k)).outbox standing (λ e. absurd (true≢false (sym e ∙ live-lost (process_at m k).mode live)))

  keeps : (q : ℕ) → q ≤ length m.processes → k ≢ q → is_down (w.phase k) ≡ false → Keeps (queue_of q (trimmed_log d (covered_at m k d) (process_at m k).outbox.log)) (trims_to w d (suc k) k q) (sent w k q) (w.numbers k q)
  keeps q aim apart back = by_key (q == d) refl
    where
      by_key : (c : Bool) → (q == d) ≡ c → Keeps (queue_of q (trimmed_log d (covered_at m k d) (process_at m k).outbox.log)) (trims_to w d (suc k) k q) (sent w k q) (w.numbers k q)
      by_key true e =
          let same : d ≡ q = grind (arith, nat_tests) in
          let log : log_at m k ≡ (process_at m k).outbox.log = rw inside refl in
          let after = subst (λ l. Keeps (trimmed (count_up_to (covered_at m k d) (queue_of d l)) (queue_of d l)) (trimmed_in w d k) (sent w k d) (w.numbers k d)) log (now m w d k shows sound unsent wide to from b) in
          let there : Keeps (queue_of d (trimmed_log d (covered_at m k d) (process_at m k).outbox.log)) (trims_to w d (suc k) k d) (sent w k d) (w.numbers k d) =
          rw (queue-same (process_at m k).outbox.log d (covered_at m k d) (omega (arith, to, wide.inside k positive from)), trims-now m w d k shows sound unsent wide to from) after in
          subst (λ j. Keeps (queue_of j (trimmed_log d (covered_at m k d) (process_at m k).outbox.log)) (trims_to w d (suc k) k j) (sent w k j) (w.numbers k j)) same there
      by_key false e =
          let was : Keeps (queue_of q (log_at m k)) (trims_to w d k k q) (sent w k q) (w.numbers k q) = shows.logs k q from aim apart back in
          let log : log_at m k ≡ (process_at m k).outbox.log = rw inside refl in
          let mine : Keeps (queue_of q (process_at m k).outbox.log) (trims_to w d k k q) (sent w k q) (w.numbers k q) = subst (λ l. Keeps (queue_of q l) (trims_to w d k k q) (sent w k q) (w.numbers k q)) log was in
          rw (queue-other (process_at m k).outbox.log d (covered_at m k d) q e, trims-aside m w d k shows sound unsent wide to from q e) mine

  process-drops : Shows (record m { processes = set m.processes (k - 1) (trimmed_at d (covered_at m k d) (process_at m k)) }) (world_to w d (suc k))
  process-drops =
      shows-one m (world_to w d k) shows k positive from (trimmed_at d (covered_at m k d) (process_at m k)) m.started m.calls w.started shows.started w.history w.phase w.saved w.saved_trims w.acknowledged w.released w.incarnation (trims_to w d (suc k)) w.numbers
      (λ q e. record { history_is = refl; phase_is = refl; saved_is = refl; saved_trims_is = refl; acknowledged_is = refl; released_is = refl; incarnation_is = refl; trims_is = trims-other w d k q e; numbers_is = refl })
      here keeps (λ q aim apart up. shows.gates k q positive from aim apart up) (λ q down. shows.shut k q positive from down)

-- the machine is as wide
wide-without : (m : TheMachine) (d k : ℕ) → k ≤ length m.processes → AreWide m → AreWide (without_covered m d k)
wide-without m d k from wide = by_drops (drops m d k) (k == 0) refl
  where
    by_drops : (b c : Bool) → (k == 0) ≡ c → AreWide (if b then (if c then record m { outside = record m.outside { log = trimmed_log d (covered_at m 0 d) m.outside.log } } else record m { processes = set m.processes (k - 1) (trimmed_at d (covered_at m k d) (process_at m k)) }) else m)
    by_drops false c e = wide
    by_drops true true e = record { outside = length-set m.outside.log.queues d _ ∙ wide.outside; inside = wide.inside }
    by_drops true false e =
        let positive : 0 < k = grind (arith, nat_tests) in
        let size = length-set m.processes (k - 1) (trimmed_at d (covered_at m k d) (process_at m k)) in
        record {
          outside = wide.outside ∙ ap suc (sym size);
          inside = λ p inside h. rw size (by_place p inside (omega (arith, h, size)) (p == k) refl);
        }
      where
        by_place : (p : ℕ) → 0 < p → p ≤ length m.processes → (c : Bool) → (p == k) ≡ c → length (slice_index_or (set m.processes (k - 1) (trimmed_at d (covered_at m k d) (process_at m k))) (p - 1) (idle_process 0 0 0)).outbox.log.queues ≡ suc (length m.processes)
        by_place p inside h true t =
            let equal : p ≡ k = grind (arith, nat_tests) in
            let positive : 0 < k = omega (arith, inside, equal) in
            let same : k - 1 ≡ p - 1 = omega (arith, equal) in
            let at = get_or-set_same m.processes (k - 1) (trimmed_at d (covered_at m k d) (process_at m k)) (idle_process 0 0 0) (omega (arith, positive, from)) in
            ap (λ j. length (slice_index_or (set m.processes (k - 1) (trimmed_at d (covered_at m k d) (process_at m k))) j (idle_process 0 0 0)).outbox.log.queues) (sym same)
            ∙ ap (λ (z : TheProcess). length z.outbox.log.queues) at ∙ length-set (process_at m k).outbox.log.queues d _ ∙ wide.inside k positive from
        by_place p inside h false t =
            let other = unchanged-at m k (trimmed_at d (covered_at m k d) (process_at m k)) (grind (arith, nat_tests, e)) from p inside t in
            ap (λ (z : TheProcess). length z.outbox.log.queues) other ∙ wide.inside p inside h

one-drops : (m : TheMachine) (w : World) (d k : ℕ) → Shows m (world_to w d k) → Sound w → w.inputs 0 ≡ [] → AreWide m → d ≤ length m.processes → k ≤ length m.processes → Shows (without_covered m d k) (world_to w d (suc k))
one-drops m w d k shows sound unsent wide to from = by_drops (drops m d k) refl (k == 0) refl
  where
    at_outside : (j : ℕ) → j ≡ k → (j == 0) ≡ true → drops m d j ≡ true → Shows (record m { outside = record m.outside { log = trimmed_log d (covered_at m 0 d) m.outside.log } }) (world_to w d (suc j))
    at_outside zero e f b = outside-drops m w d (subst (λ n. Shows m (world_to w d n)) (sym e) shows) sound unsent wide to b
    at_outside (suc j) e f b = absurd (grind (arith, nat_tests))

    by_drops : (b : Bool) → drops m d k ≡ b → (c : Bool) → (k == 0) ≡ c → Shows (if b then (if c then record m { outside = record m.outside { log = trimmed_log d (covered_at m 0 d) m.outside.log } } else record m { processes = set m.processes (k - 1) (trimmed_at d (covered_at m k d) (process_at m k)) }) else m) (world_to w d (suc k))
    by_drops true b true e = at_outside k refl e b
    by_drops true b false e = process-drops m w d k shows sound unsent wide to (grind (arith, nat_tests)) from b
    by_drops false b c e = retrimmed m w (trims_to w d k) (trims_to w d (suc k)) shows (λ p q h. trims-stay w d k (idle m w d k shows sound unsent wide to from b) p q)

-- all drop
all-drop : (m : TheMachine) (w : World) (d k : ℕ) → Shows m w → Sound w → w.inputs 0 ≡ [] → AreWide m → d ≤ length m.processes → k ≤ suc (length m.processes)
    → Shows (trimmed_to d m k) (world_to w d k) × AreWide (trimmed_to d m k) × (dropped_to d m k ≡ dropped w d k)
all-drop m w d zero shows sound unsent wide to h = (retrimmed m w w.trims (trims_to w d 0) shows (λ p q from. by_key p q (q == d) refl), wide, refl)
  where
    by_key : (p q : ℕ) (b : Bool) → (q == d) ≡ b → (if b then (if nat_lt p 0 then trimmed_in w d p else w.trims p d) else w.trims p q) ≡ w.trims p q
    by_key p q true e = let none : nat_lt p 0 ≡ false = grind (arith, nat_tests) in let same : d ≡ q = grind (arith, nat_tests) in rw none (ap (w.trims p) same)
    by_key p q false e = refl
all-drop m w d (suc k) shows sound unsent wide to h =
    let before = all-drop m w d k shows sound unsent wide to (omega (arith, h)) in
    let size = width-to m d k in
    let target : d ≤ length (trimmed_to d m k).processes = omega (arith, to, size) in
    let sender : k ≤ length (trimmed_to d m k).processes = omega (arith, h, size) in (
      one-drops (trimmed_to d m k) w d k before.0 sound unsent before.1 target sender,
      wide-without (trimmed_to d m k) d k sender before.1,
      (λ j. dropped-is (trimmed_to d m k) w d k before.0 sound unsent before.1 target sender j + before.2 j),
    )

-- and nothing else counts on
calls-without : (v : TheMachine) (d k : ℕ) (b c : Bool) → (if b then (if c then record v { outside = record v.outside { log = trimmed_log d (covered_at v 0 d) v.outside.log } } else record v { processes = set v.processes (k - 1) (trimmed_at d (covered_at v k d) (process_at v k)) }) else v).calls ≡ v.calls
calls-without v d k true true = refl
calls-without v d k true false = refl
calls-without v d k false c = refl

-- no call is counted while the senders drop
pub calls-to : (m : TheMachine) (d k : ℕ) → (trimmed_to d m k).calls ≡ m.calls
calls-to m d zero = refl
calls-to m d (suc k) = calls-without (trimmed_to d m k) d k (drops (trimmed_to d m k) d k) (k == 0) ∙ calls-to m d k

-- the step
pub trim-step : (m : TheMachine) (w : World) (s : Stands m w) (room d calls n : ℕ) → AreWide m → d ≤ length m.processes → refusal_of w room (Trim d) ≡ None → n ≡ dropped_to d m (suc (length m.processes)) → (new : TheMachine) → new ≡ trimmed_to d m (suc (length m.processes))
    → Steps m (record new { calls = calls }) room (Trim d) (Trimmed n) w
trim-step m w s room d calls n wide to accepted count new is =
    let all = all-drop m w d (suc (length m.processes)) s.shows s.sound s.unsent wide to (omega arith) in
    let size : length new.processes ≡ length m.processes = ap (λ (v : TheMachine). length v.processes) is ∙ width-to m d (suc (length m.processes)) in
    let shows : Shows new (world_to w d (suc (length m.processes))) = subst (λ v. Shows v (world_to w d (suc (length m.processes)))) (sym is) all.0 in
    let shown : Shows new (trim w d) = retrimmed new w (trims_to w d (suc (length m.processes))) (λ p. put (w.trims p) d (trimmed_in w d p)) shows (λ p q h. by_end p q (omega (arith, h, size))) in
    step m (record new { calls = calls }) room (Trim d) (Trimmed n) w s accepted (ap Trimmed (count ∙ all.2 ∙ ap (λ k. dropped w d (suc k)) (sym s.shows.count)))
    (record { count = shown.count; process = shown.process; logs = shown.logs; gates = shown.gates; shut = shown.shut; feeds = shown.feeds; shown = shown.shown; wire = shown.wire; started = shown.started; outside = shown.outside })
    (ap (λ (v : TheMachine). v.lengths) is ∙ lengths-to (suc (length m.processes)))
  where
    by_end : (p q : ℕ) → p ≤ length m.processes → put (w.trims p) d (trimmed_in w d p) q ≡ trims_to w d (suc (length m.processes)) p q
    by_end p q h = let inside : nat_lt p (suc (length m.processes)) ≡ true = grind (arith, nat_tests) in rw inside refl

    lengths-without : (v : TheMachine) (k : ℕ) (b c : Bool) → (if b then (if c then record v { outside = record v.outside { log = trimmed_log d (covered_at v 0 d) v.outside.log } } else record v { processes = set v.processes (k - 1) (trimmed_at d (covered_at v k d) (process_at v k)) }) else v).lengths ≡ v.lengths
    lengths-without v k true true = refl
    lengths-without v k true false = refl
    lengths-without v k false c = refl

    lengths-to : (k : ℕ) → (trimmed_to d m k).lengths ≡ m.lengths
    lengths-to zero = refl
    lengths-to (suc k) = lengths-without (trimmed_to d m k) k (drops (trimmed_to d m k) d k) (k == 0) ∙ lengths-to k
