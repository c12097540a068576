-- The step by which numbers are restored
use Rattle.std.proofs.Common.{◌≡◌, ◌≢◌, ℕ, zero, suc, ◌+◌, ◌-◌, ◌<◌, ◌≤◌, List, [], ◌∷◌, ◌++◌, length, set, Bool, true, false, refl, sym, ap, ◌∙◌, subst, arith}
use Rattle.std.specs.Prelude.{◌==◌, ◌&&◌, not, nat_lt, nat_le, if◌then◌else◌, Option, Some, None, slice_get, slice_index_or}
use Rattle.std.proofs.lemmas.Bool.{false≢true}
use Rattle.std.proofs.lemmas.Bool.Decides.{nat_tests}
use Rattle.std.proofs.lemmas.List.{get_or_append_left, get_or-append_right, get_or-set_same, get_or-set_other, length-set}
use Rattle.std.proofs.lemmas.Option.{slice_get-get_or, slice_get_past}
use Rattle.rsn.specs.Receipts.{numbers_from, numbers_of}
use Rattle.sender_log.specs.Queue.{TheQueue, no_queue, is_logged, known, numbers_at, renumbered}
use Rattle.sender_log.specs.Log.{queue_of}
use Rattle.sender_log.proofs.QueueLemmas.{length-numbers_at}
use Rattle.world.specs.declared.message.Message.{Message}
use Rattle.world.specs.declared.call.Call.TheVariants.{Resync as ResyncWith}
use Rattle.world.specs.declared.answer.Answer.TheVariants.{Restored}
use Rattle.world.specs.History.{count_of, rsn_of}
use Rattle.world.specs.Phases.{Resync, is_up, is_down, todo_of, those, without}
use Rattle.world.specs.World.{World, put}
use Rattle.world.specs.Logs.{sent, is_entry}
use Rattle.world.specs.Calls.{told, ready, restored}
use Rattle.world.specs.Refusals.{refusal_of}
use Rattle.theorems.specs.Invariants.Sound.{is_recovering}
use Rattle.theorems.proofs.ListLemmas.{take-all}
use Rattle.theorems.proofs.RunLemmas.{run_to-whole}
use Rattle.session_process.specs.Process.{TheProcess, Settles}
use Rattle.session_process.specs.Outbox.{with_messages}
use Rattle.session_process.specs.Mode.{is_lost}
use Rattle.session_process.specs.declared.mode.Mode.{Mode}
use Rattle.session_process.specs.declared.mode.Mode.TheVariants as modes
use Rattle.session_process.specs.declared.mode.Peers.{Peers}
use Rattle.machine.specs.Work.{held_by, phase_of, is_to_do, MayWork}
use Rattle.machine.specs.Fields.{IsLogOf}
use Rattle.machine.specs.Replays.{ArePeersLeft}
use Rattle.machine.specs.Simulation.{TheMachine, StandsAt, Keeps, Shows, Stands, Steps, process_at, log_at, is_up_at}
use Rattle.machine.proofs.ReceiptLemmas.{senders, length-numbers, rsn_from-numbers}
use Rattle.machine.proofs.NumberLemmas.{rsn_from-none}
use Rattle.machine.proofs.Status.{at_process, keeps_at, entry_at, held-live, is_live-at, rest-length}
use Rattle.machine.proofs.Steps.{step}
use Rattle.machine.proofs.Crashes.{self-same}
use Rattle.machine.proofs.Others.{TheLife, life, others, together, replaced, now_at, log_now, but-replaced, but-world, shows-calls, ShowsBut}
use Rattle.machine.proofs.Settlement.{IsCaughtUp, settled}

-- Peers

-- without one of them
without-those : (f g : ℕ → Bool) (n r : ℕ) → ((q : ℕ) → 0 < q → q ≤ n → q ≢ r → g q ≡ f q) → g r ≡ false → without (those f n) r ≡ those g n
without-those f g zero r same none = refl
without-those f g (suc n) r same none = by_last (without-those f g n r (λ q a b. same q a (omega (arith, b))) none) (f (suc n)) refl (suc n == r) refl
  where
    by_last : without (those f n) r ≡ those g n → (b : Bool) → f (suc n) ≡ b → (c : Bool) → (suc n == r) ≡ c → without (if b then suc n ∷ those f n else those f n) r ≡ (if g (suc n) then suc n ∷ those g n else those g n)
    by_last rest true e true h =
        let at : suc n ≡ r = grind (arith, nat_tests) in
        let gone : g (suc n) ≡ false = ap g at ∙ none in
        rw (gone, h) rest
    by_last rest true e false h =
        let other : suc n ≢ r = grind (arith, nat_tests) in
        let stays : g (suc n) ≡ true = same (suc n) (omega arith) (omega arith) other ∙ e in
        rw (stays, h) (ap (λ qs. suc n ∷ qs) rest)
    by_last rest false e true h =
        let at : suc n ≡ r = grind (arith, nat_tests) in
        let gone : g (suc n) ≡ false = ap g at ∙ none in
        rw gone rest
    by_last rest false e false h =
        let other : suc n ≢ r = grind (arith, nat_tests) in
        let gone : g (suc n) ≡ false = same (suc n) (omega arith) (omega arith) other ∙ e in
        rw gone rest

-- one with a peer to do restores numbers
pub mode-of-todo : (t : Mode) (r : ℕ) → is_to_do t r ≡ true → (peers : Peers) × (t ≡ modes.Resync peers)
mode-of-todo modes.Live r e = absurd (false≢true e)
mode-of-todo modes.Down r e = absurd (false≢true e)
mode-of-todo (modes.Replaying plan alone) r e = absurd (false≢true e)
mode-of-todo (modes.Resync peers) r e = (peers, refl)

-- Numbers

-- what stands at one of k places from i on
numbers-get : (ns : List ℕ) (i k j : ℕ) → j < k → slice_index_or (numbers_at ns i k) j None ≡ slice_get ns (i + j)
numbers-get ns i zero j h = absurd (omega arith)
numbers-get ns i (suc k) j h = by_last (j == k) refl (numbers-get ns i k j)
  where
    by_last : (b : Bool) → (j == k) ≡ b → (j < k → slice_index_or (numbers_at ns i k) j None ≡ slice_get ns (i + j)) → slice_index_or (numbers_at ns i k ++ slice_get ns (i + k) ∷ []) j None ≡ slice_get ns (i + j)
    by_last true e onward =
        let same : k ≡ j = grind (arith, nat_tests) in
        let none : j - k ≡ 0 = omega (arith, same) in
        get_or-append_right (numbers_at ns i k) (slice_get ns (i + k) ∷ []) k j None (length-numbers_at ns i k) (omega (arith, same))
        ∙ ap (λ t. slice_index_or (slice_get ns (i + k) ∷ []) t None) none
        ∙ ap (λ t. slice_get ns (i + t)) same
    by_last false e onward =
        let less : j < k = grind (arith, nat_tests, h) in
        get_or_append_left (numbers_at ns i k) (slice_get ns (i + k) ∷ []) None j (omega (arith, less, length-numbers_at ns i k)) ∙ onward less

-- one place more
known-more : (ks : List (Option ℕ)) (o : Option ℕ) → known (ks ++ o ∷ []) ≡ known ks + known (o ∷ [])
known-more [] o = omega arith
known-more (None ∷ ks) o = known-more ks o
known-more (Some k ∷ ks) o = omega (arith, known-more ks o)

-- what a queue has, where so many are dropped
logged-below : (q : TheQueue) (dropped i : ℕ) → q.first ≡ suc dropped → i ≤ dropped → is_logged i q ≡ false
logged-below q dropped i first low = let no : nat_le q.first i ≡ false = grind (arith, nat_tests, first, low) in rw no refl

logged-here : (q : TheQueue) (dropped j : ℕ) → q.first ≡ suc dropped → j < length q.payloads → is_logged (suc (dropped + j)) q ≡ true
logged-here q dropped j first low =
    let a : nat_le q.first (suc (dropped + j)) ≡ true = grind (arith, nat_tests, first) in
    let b : nat_lt (suc (dropped + j) - q.first) (length q.payloads) ≡ true = grind (arith, nat_tests, first, low) in
    rw (a, b) refl

module _ (m : TheMachine) (w : World) (s : Stands m w) (room p r calls : ℕ) (positive : 0 < p) (within : p ≤ length m.processes) (first : 0 < r) (to : r ≤ length m.processes) (other : p ≢ r) (up : is_up_at m r ≡ true)
    (peers : Peers) (mode_is : (process_at m p).mode ≡ modes.Resync peers) (log_of : IsLogOf (length m.processes) p (process_at m p).outbox.log) (left : Peers) (are : ArePeersLeft m p r left) (y : TheProcess) where
  abbrev n : ℕ
  n = length m.processes

  abbrev h : List Message
  h = w.history p

  abbrev x : TheProcess
  x = process_at m p

  abbrev q : TheQueue
  q = queue_of r x.outbox.log

  abbrev ns : List ℕ
  ns = numbers_of p (process_at m r).receipts

  abbrev dropped : ℕ
  dropped = w.trims p r

  abbrev given : TheProcess
  given = record x { outbox = with_messages r (renumbered ns q) x.outbox }

  at : StandsAt n p x (w.handlers.state p) (w.handlers.sends p) h (w.phase p) (w.incarnation p) (w.acknowledged p) (w.saved p) (w.saved_trims p)
  at = at_process m w s p positive within

  at_peer : StandsAt n r (process_at m r) (w.handlers.state r) (w.handlers.sends r) (w.history r) (w.phase r) (w.incarnation r) (w.acknowledged r) (w.saved r) (w.saved_trims r)
  at_peer = at_process m w s r first to

  numbers_are : ns ≡ numbers_from p 0 (senders (w.history r))
  numbers_are = ap (numbers_from p 0) (at_peer.senders ∙ ap senders (held-live (process_at m r).mode (w.saved r) (w.history r) (is_live-at m r first up)))

  many : length ns ≡ count_of p (w.history r)
  many = ap length numbers_are ∙ length-numbers p 0 (w.history r)

  -- the number of each message, as the peer's receipts have it
  rsn-is : (k : ℕ) → rsn_of (w.history r) p (suc k) ≡ slice_get ns k
  rsn-is k = by_place (nat_lt k (length ns)) refl
    where
      by_place : (b : Bool) → nat_lt k (length ns) ≡ b → rsn_of (w.history r) p (suc k) ≡ slice_get ns k
      by_place true e =
          let inside : k < length ns = grind (arith, nat_tests) in
          let back : suc k - 1 ≡ k = omega arith in
          rsn_from-numbers 0 (λ _. 0) p (suc k) (w.history r) at_peer.in_order (omega arith) (omega (arith, inside, many))
          ∙ ap (λ l. Some (slice_index_or l (suc k - 1) 0)) (sym numbers_are)
          ∙ ap (λ j. Some (slice_index_or ns j 0)) back
          ∙ sym (slice_get-get_or ns k 0 inside)
      by_place false e =
          let past : length ns ≤ k = grind (arith, nat_tests) in
          rsn_from-none 0 (λ _. 0) p (suc k) (w.history r) at_peer.in_order (omega (arith, past, many)) ∙ sym (slice_get_past ns k past)

  apart : (p == 0) ≡ false
  apart = grind (arith, nat_tests)

  phase_was : w.phase p ≡ Resync (those (λ j. slice_index_or peers.todo j false) n)
  phase_was = at.phase_is ∙ ap (λ z. phase_of n z x.working) mode_is

  back : is_down (w.phase p) ≡ false
  back = ap is_down phase_was

  sent_is : (d : ℕ) → sent w p d ≡ w.handlers.sends p h d
  sent_is d = rw (apart, phase_was, take-all h) refl

  log_is : log_at m p ≡ x.outbox.log
  log_is = rw apart refl

  kept : (d : ℕ) → d ≤ n → p ≢ d → Keeps (queue_of d x.outbox.log) (w.trims p d) (w.handlers.sends p h d) (w.numbers p d)
  kept d within_d apart_d =
      subst (λ ps. Keeps (queue_of d x.outbox.log) (w.trims p d) ps (w.numbers p d)) (sent_is d) (subst (λ l. Keeps (queue_of d l) (w.trims p d) (sent w p d) (w.numbers p d)) log_is (keeps_at m w s p d within within_d apart_d back))

  kept_r : Keeps q dropped (w.handlers.sends p h r) (w.numbers p r)
  kept_r = kept r to other

  entry-is : (i : ℕ) → is_entry w p r i ≡ is_logged i q
  entry-is i = entry_at m w s p r within to other back i ∙ ap (λ l. is_logged i (queue_of r l)) log_is

  entry-here : (j : ℕ) → j < length q.payloads → is_entry w p r (suc (dropped + j)) ≡ true
  entry-here j low = entry-is (suc (dropped + j)) ∙ logged-here q dropped j kept_r.first low

  told-is : (j : ℕ) → j < length q.payloads → told w p r (suc (dropped + j)) ≡ slice_get ns (dropped + j)
  told-is j low = ap (λ b. if b then rsn_of (w.history r) p (suc (dropped + j)) else w.numbers p r (suc (dropped + j))) (entry-here j low) ∙ rsn-is (dropped + j)

  keeps_r : Keeps (renumbered ns q) dropped (w.handlers.sends p h r) (told w p r)
  keeps_r =
      record {
        first = kept_r.first;
        rest = kept_r.rest;
        as_many = length-numbers_at ns (q.first - 1) (length q.payloads);
        numbers_are = λ j low. numbers-get ns (q.first - 1) (length q.payloads) j low ∙ ap (slice_get ns) (let f = kept_r.first in let e : q.first - 1 + j ≡ dropped + j = omega (arith, f) in e) ∙ sym (told-is j low);
      }

  -- how many got one
  has-number : (i : ℕ) (o : Option ℕ) → rsn_of (w.history r) p i ≡ o → (b : Bool) → is_entry w p r i ≡ b → restored w p r (suc i) ≡ (if b then known (o ∷ []) else 0) + restored w p r i
  has-number i None e true f = rw (f, e) (omega arith)
  has-number i (Some k) e true f = rw (f, e) (omega arith)
  has-number i o e false f = rw f (omega arith)

  none-restored : (k : ℕ) → k ≤ suc dropped → restored w p r k ≡ 0
  none-restored zero low = refl
  none-restored (suc k) low =
      let no : is_entry w p r k ≡ false = entry-is k ∙ logged-below q dropped k kept_r.first (omega (arith, low)) in
      let before = none-restored k (omega (arith, low)) in
      has-number k (rsn_of (w.history r) p k) refl false no ∙ omega (arith, before)

  some-restored : (k : ℕ) → k ≤ length q.payloads → restored w p r (suc (dropped + k)) ≡ known (numbers_at ns dropped k)
  some-restored zero low = none-restored (suc (dropped + 0)) (omega arith)
  some-restored (suc k) low =
      let before = some-restored k (omega (arith, low)) in
      let at_k : suc (dropped + suc k) ≡ suc (suc (dropped + k)) = omega arith in
      let pushed = known-more (numbers_at ns dropped k) (slice_get ns (dropped + k)) in
      ap (restored w p r) at_k
      ∙ has-number (suc (dropped + k)) (slice_get ns (dropped + k)) (rsn-is (dropped + k)) true (entry-here k (omega (arith, low)))
      ∙ omega (arith, before, pushed)

  count-is : known (renumbered ns q).numbers ≡ restored w p r (suc (length (sent w p r)))
  count-is =
      let f = kept_r.first in
      let start : q.first - 1 ≡ dropped = omega (arith, f) in
      let long = rest-length dropped q.payloads (w.handlers.sends p h r) kept_r.rest in
      let whole : suc (dropped + length q.payloads) ≡ suc (length (sent w p r)) = omega (arith, long, ap length (sent_is r)) in
      ap (λ i. known (numbers_at ns i (length q.payloads))) start ∙ sym (some-restored (length q.payloads) (omega arith)) ∙ ap (restored w p r) whole

  -- the world and the machine with these numbers
  abbrev told_all : ℕ → ℕ → Option ℕ
  told_all = put (w.numbers p) r (told w p r)

  abbrev v : World
  v = record w { numbers = put w.numbers p told_all }

  abbrev between : TheMachine
  between = replaced m p given positive within

  queue-here : queue_of r given.outbox.log ≡ renumbered ns q
  queue-here = get_or-set_same x.outbox.log.queues r (renumbered ns q) no_queue (omega (arith, log_of.width, to))

  queue-other : (d : ℕ) → d ≢ r → queue_of d given.outbox.log ≡ queue_of d x.outbox.log
  queue-other d apart_d = get_or-set_other x.outbox.log.queues r d (renumbered ns q) no_queue (λ e. apart_d (omega (arith, e)))

  keeps-now : (d : ℕ) → d ≤ n → p ≢ d → (b : Bool) → (d == r) ≡ b → Keeps (queue_of d given.outbox.log) (w.trims p d) (w.handlers.sends p h d) (if b then told w p r else w.numbers p d)
  keeps-now d within_d apart_d true e =
      let same : r ≡ d = grind (arith, nat_tests) in
      subst (λ j. Keeps (queue_of j given.outbox.log) (w.trims p j) (w.handlers.sends p h j) (told w p r)) same
      (subst (λ k. Keeps k dropped (w.handlers.sends p h r) (told w p r)) (sym queue-here) keeps_r)
  keeps-now d within_d apart_d false e =
      let far : d ≢ r = grind (arith, nat_tests) in
      subst (λ k. Keeps k (w.trims p d) (w.handlers.sends p h d) (w.numbers p d)) (sym (queue-other d far)) (kept d within_d apart_d)

  abbrev now : TheLife
  now = record (life w p) { numbers = told_all }

  life-is : life v p ≡ now
  life-is = rw (self-same p) refl

  caught-up : IsCaughtUp v n p given now
  caught-up =
      record {
        state = at.state_is (ap is_lost mode_is) ∙ ap (λ z. w.handlers.state p (held_by z (w.saved p) h)) mode_is;
        senders_are = at.senders ∙ ap (λ z. senders (held_by z (w.saved p) h)) mode_is;
        flags = at.flags;
        acknowledged_is = at.acknowledged_is;
        in_order = at.in_order;
        idle = subst (λ z. MayWork z x.working (w.saved p) h) mode_is at.works;
        incarnation_is = at.incarnation_is;
        saves = at.saves;
        log_of = record { owner = log_of.owner; width = length-set x.outbox.log.queues r (renumbered ns q) ∙ log_of.width };
        logs = λ d within_d apart_d. keeps-now d within_d apart_d (d == r) refl;
        shut = λ d. s.shows.shut p d positive within (ap is_up phase_was);
        run = run_to-whole (w.acknowledged p) (length h) (s.sound.recovering p (ap is_recovering phase_was));
      }

  others-now : ShowsBut n p between v
  others-now = but-replaced m p given positive within n v (but-world p positive m w v refl (λ j far. let e : (j == p) ≡ false = grind (arith, nat_tests) in rw e refl) n (others m w p s.shows))

  within-now : p ≤ length between.processes
  within-now = let width = ShowsBut.width others-now in omega (arith, width, within)

  at-now : process_at between p ≡ given
  at-now = now_at m p given positive within

  left-is : (j : ℕ) → slice_index_or left.todo j false ≡ (nat_lt 0 j && nat_le j n && not (j == r) && slice_index_or peers.todo j false)
  left-is j = are.1 j ∙ ap (λ t. nat_lt 0 j && nat_le j n && not (j == r) && is_to_do t j) mode_is

  todo-is : without (todo_of (w.phase p)) r ≡ those (λ j. slice_index_or left.todo j false) n
  todo-is =
      ap (λ f. without (todo_of f) r) phase_was
      ∙ without-those (λ j. slice_index_or peers.todo j false) (λ j. slice_index_or left.todo j false) n r
      (λ j a b far.
      let low : nat_lt 0 j ≡ true = grind (arith, nat_tests) in
      let high : nat_le j n ≡ true = grind (arith, nat_tests) in
      let e : (j == r) ≡ false = grind (arith, nat_tests) in
      left-is j ∙ rw (low, high, e) refl)
      (gone (nat_lt 0 r && nat_le r n))
    where
      gone : Bool → slice_index_or left.todo r false ≡ false
      gone b =
          let low : nat_lt 0 r ≡ true = grind (arith, nat_tests) in
          let high : nat_le r n ≡ true = grind (arith, nat_tests) in
          left-is r ∙ rw (low, high, self-same r) refl

  bound : (j : ℕ) → slice_index_or left.todo j false ≡ true → (0 < j) × (j ≤ n)
  bound j names = by_bounds (nat_lt 0 j) refl (nat_le j n) refl
    where
      is : (nat_lt 0 j && nat_le j n && not (j == r) && slice_index_or peers.todo j false) ≡ true
      is = sym (left-is j) ∙ names

      by_bounds : (a : Bool) → nat_lt 0 j ≡ a → (b : Bool) → nat_le j n ≡ b → (0 < j) × (j ≤ n)
      by_bounds true e true f = (grind (arith, nat_tests), grind (arith, nat_tests))
      by_bounds true e false f = absurd (false≢true (rw (e, f) at is))
      by_bounds false e b f = absurd (false≢true (rw e at is))

  -- what is known there then
  pub count-here : known (queue_of r (log_at between p)).numbers ≡ known (renumbered ns q).numbers
  count-here = ap (λ l. known (queue_of r l).numbers) (log_now m p given positive within) ∙ ap (λ k. known k.numbers) queue-here

  -- numbers that are restored are a step
  pub resyncs : refusal_of w room (ResyncWith p r) ≡ None → Settles left given y → Steps m (record between { processes = set between.processes (p - 1) y; calls = calls }) room (ResyncWith p r) (Restored (known (renumbered ns q).numbers)) w
  resyncs accepted t =
      let todo = without (todo_of (w.phase p)) r in
      let after = replaced between p y positive within-now in
      let done : IsCaughtUp v n p (process_at between p) (life v p) = subst (λ z. IsCaughtUp v n p z (life v p)) (sym at-now) (subst (IsCaughtUp v n p given) (sym life-is) caught-up) in
      let settles : Settles left (process_at between p) y = subst (λ z. Settles left z y) (sym at-now) t in
      let at_p = settled n p between v (process_at between p) y left todo positive within-now done settles todo-is bound in
      let but : ShowsBut n p after (ready v p todo) =
      but-replaced between p y positive within-now n (ready v p todo)
      (but-world p positive between v (ready v p todo) refl (λ j far. let e : (j == p) ≡ false = grind (arith, nat_tests) in rw e refl) n others-now) in
      let shows : Shows after (ready v p todo) = together n after (ready v p todo) p positive within but at_p in
      step m (record after { calls = calls }) room (ResyncWith p r) (Restored (known (renumbered ns q).numbers)) w s accepted (ap Restored count-is) (shows-calls after (ready v p todo) calls shows) refl
