-- A process that has all of its history again restores its numbers, or is up
use Rattle.std.proofs.Common.{◌≡◌, ◌≢◌, ℕ, zero, suc, ◌<◌, ◌≤◌, List, [], ◌∷◌, length, take, Bool, true, false, refl, sym, ap, ◌∙◌, subst, arith}
use Rattle.std.specs.Prelude.{◌==◌, ◌&&◌, ◌||◌, not, nat_lt, nat_le, if◌then◌else◌, None, slice_index_or}
use Rattle.std.specs.List.{list_all, filter}
use Rattle.std.proofs.lemmas.Bool.{false≢true}
use Rattle.std.proofs.lemmas.Bool.Decides.{nat_tests}
use Rattle.rsn.specs.Receipts.{run_of as run}
use Rattle.sender_log.specs.Log.{IsDestination, queue_of}
use Rattle.send_gate.specs.Gate.{count_to}
use Rattle.world.specs.declared.message.Message.{Message}
use Rattle.world.specs.Phases.{Phase, Up, Resync, is_up, those}
use Rattle.world.specs.World.{World}
use Rattle.world.specs.Logs.{run_of, run_to}
use Rattle.world.specs.Calls.{peers as peers_of, phase_with, ready, released_with}
use Rattle.theorems.proofs.ListLemmas.{take-all}
use Rattle.session_process.specs.Mode.{is_lost, has_no_peer}
use Rattle.session_process.specs.declared.mode.Mode.{Mode}
use Rattle.session_process.specs.declared.mode.Mode.TheVariants as modes
use Rattle.session_process.specs.declared.mode.Peers.{Peers}
use Rattle.session_process.specs.Outbox.{TheOutbox, ReleasesAll}
use Rattle.session_process.specs.Process.{TheProcess, Settles, received}
use Rattle.machine.specs.Receipts.{InOrder}
use Rattle.machine.specs.Simulation.{Saves, TheMachine, Keeps, Holds, log_at, is_up_at}
use Rattle.machine.specs.Work.{held_by, phase_of, IsNextAfter, MayWork}
use Rattle.machine.specs.Fields.{IsLogOf, IsSoundAt}
use Rattle.machine.specs.Recoveries.{ArePeersOf}
use Rattle.machine.proofs.ReceiptLemmas.{senders}
use Rattle.machine.proofs.Status.{rest-length}
use Rattle.machine.proofs.Others.{TheLife, life, StandsFor, ShowsAt, replaced, now_at, log_now}

-- Peers

none-todo : (todo : List Bool) → list_all not todo ≡ true → (q : ℕ) → slice_index_or todo q false ≡ false
none-todo [] all q = refl
none-todo (true ∷ todo) all q = absurd (false≢true all)
none-todo (false ∷ todo) all zero = refl
none-todo (false ∷ todo) all (suc q) = none-todo todo all q

some-todo : (todo : List Bool) → list_all not todo ≡ false → (q : ℕ) × (slice_index_or todo q false ≡ true)
some-todo [] some = absurd (false≢true (sym some))
some-todo (true ∷ todo) some = (0, refl)
some-todo (false ∷ todo) some = let there = some-todo todo some in (suc there.0, there.1)

pub those-same : (f g : ℕ → Bool) (n : ℕ) → ((q : ℕ) → 0 < q → q ≤ n → f q ≡ g q) → those f n ≡ those g n
those-same f g zero same = refl
those-same f g (suc n) same =
    let rest : those f n ≡ those g n = those-same f g n (λ q a b. same q a (omega (arith, b))) in
    λ i. if same (suc n) (omega arith) (omega arith) i then suc n ∷ rest i else rest i

those-none : (f : ℕ → Bool) (n : ℕ) → ((q : ℕ) → f q ≡ false) → those f n ≡ []
those-none f zero none = refl
those-none f (suc n) none = rw (none (suc n)) (those-none f n none)

those-some : (f : ℕ → Bool) (n q : ℕ) → 0 < q → q ≤ n → f q ≡ true → those f n ≢ []
those-some f zero q positive within names = absurd (omega arith)
those-some f (suc n) q positive within names = by_place (those-some f n q positive) (f (suc n)) refl
  where
    by_place : (q ≤ n → f q ≡ true → those f n ≢ []) → (b : Bool) → f (suc n) ≡ b → (if b then suc n ∷ those f n else those f n) ≢ []
    by_place below true e = λ empty. absurd (cc)
    by_place below false e =
        let other : q ≢ suc n = (λ same. false≢true (sym e ∙ ap f (sym same) ∙ names)) in
        below (grind (arith, other)) names

with-some : (w : World) (p : ℕ) (todo : List ℕ) → todo ≢ [] → (phase_with todo ≡ Resync todo) × (released_with w p todo ≡ w.released p)
with-some w p [] some = absurd (some refl)
with-some w p (r ∷ rs) some = (refl, refl)

-- those that are named are the peers of the world
module _ (n p : ℕ) (m : TheMachine) (w : World) (alone : Bool) (peers : Peers) (are : ArePeersOf m p alone peers) (width : length m.processes ≡ n) (count : w.count ≡ n)
    (ups : (q : ℕ) → 0 < q → q ≤ n → q ≢ p → is_up_at m q ≡ is_up (w.phase q)) where
  named : (q : ℕ) → 0 < q → q ≤ n → (b : Bool) → (q == p) ≡ b → (not (q == p) && (not alone || is_up (w.phase q))) ≡ slice_index_or peers.todo q false
  named q positive within b e =
      let low : nat_lt 0 q ≡ true = grind (arith, nat_tests) in
      let high : nat_le q (length m.processes) ≡ true = grind (arith, nat_tests, width) in
      elim b as (λ c. (q == p) ≡ c → (not (q == p) && (not alone || is_up (w.phase q))) ≡ slice_index_or peers.todo q false) [
        | true ↦ λ f. rw f (sym (are.1 q ∙ rw (low, high, f) refl))
        | false ↦ λ f. let up = ups q positive within (grind (arith, nat_tests)) in rw f (sym (are.1 q ∙ rw (low, high, f, up) refl))
      ] e

  pub peers-are : peers_of w p alone ≡ those (λ q. slice_index_or peers.todo q false) n
  peers-are = ap (those (λ q. not (q == p) && (not alone || is_up (w.phase q)))) count ∙ those-same (λ q. not (q == p) && (not alone || is_up (w.phase q))) (λ q. slice_index_or peers.todo q false) n (λ q a b. named q a b (q == p) refl)

  pub peers-within : (q : ℕ) → slice_index_or peers.todo q false ≡ true → (0 < q) × (q ≤ n)
  peers-within q names = by_bounds (nat_lt 0 q) refl (nat_le q (length m.processes)) refl
    where
      is : (nat_lt 0 q && nat_le q (length m.processes) && not (q == p) && (not alone || is_up_at m q)) ≡ true
      is = sym (are.1 q) ∙ names

      by_bounds : (a : Bool) → nat_lt 0 q ≡ a → (b : Bool) → nat_le q (length m.processes) ≡ b → (0 < q) × (q ≤ n)
      by_bounds true e true f = (grind (arith, nat_tests), grind (arith, nat_tests, width))
      by_bounds true e false f = absurd (false≢true (rw (e, f) at is))
      by_bounds false e b f = absurd (false≢true (rw e at is))

-- by such a life this process has all of its history in its state, and lets nothing out
pub record IsCaughtUp (w : World) (n p : ℕ) (x : TheProcess) (a : TheLife) : Type 0 where
  pub state : x.state ≡ w.handlers.state p a.history
  pub senders_are : x.receipts.senders ≡ senders a.history
  pub flags : length x.receipts.acknowledged ≡ length x.receipts.senders
  pub acknowledged_is : (k : ℕ) → k < length x.receipts.senders → slice_index_or x.receipts.acknowledged k false ≡ a.acknowledged (suc k)
  pub in_order : InOrder a.history
  pub idle : x.working ≡ None
  pub incarnation_is : a.incarnation ≡ x.incarnation
  pub saves : Saves n p x.saved (w.handlers.state p (take a.saved a.history)) (take a.saved a.history) a.saved_trims (w.handlers.sends p (take a.saved a.history))
  pub log_of : IsLogOf n p x.outbox.log
  pub logs : (d : ℕ) → d ≤ n → p ≢ d → Keeps (queue_of d x.outbox.log) (a.trims d) (w.handlers.sends p a.history d) (a.numbers d)
  pub shut : (d : ℕ) → slice_index_or x.outbox.gate.released d 0 ≡ 0
  pub run : run_to a.acknowledged (length a.history) ≡ length a.history

module _ (n p : ℕ) (m : TheMachine) (w : World) (x y : TheProcess) (peers : Peers) (todo : List ℕ) (inside : 0 < p) (within : p ≤ length m.processes) (done : IsCaughtUp w n p x (life w p)) (s : Settles peers x y)
    (todo_is : todo ≡ those (λ q. slice_index_or peers.todo q false) n) (bound : (q : ℕ) → slice_index_or peers.todo q false ≡ true → (0 < q) × (q ≤ n)) where
  abbrev h : List Message
  h = w.history p

  abbrev v : World
  v = ready w p todo

  abbrev now : TheMachine
  now = replaced m p y inside within

  abbrev life_with : Phase → (ℕ → ℕ) → TheLife
  life_with f r = record (life w p) { phase = f; released = r }

  apart : (p == 0) ≡ false
  apart = grind (arith, nat_tests)

  whole : take (length h) h ≡ h
  whole = take-all h

  at_mode : (t : Mode) (o : TheOutbox) (f : Phase) (r : ℕ → ℕ) → is_lost t ≡ false → held_by t (w.saved p) h ≡ h → f ≡ phase_of n t x.working → MayWork t x.working (w.saved p) h
      → StandsFor w n p (record x { outbox = o; mode = t }) (life_with f r)
  at_mode t o f r back all phase works =
      record {
        state_is = λ e. done.state ∙ ap (w.handlers.state p) (sym all);
        gone = λ e. absurd (false≢true (sym back ∙ e));
        senders = done.senders_are ∙ ap senders (sym all);
        flags = done.flags;
        acknowledged_is = done.acknowledged_is;
        in_order = done.in_order;
        phase_is = phase;
        works = works;
        incarnation_is = done.incarnation_is;
        saves = done.saves;
      }

  logs_with : (z : TheProcess) → z.outbox.log ≡ x.outbox.log → (d : ℕ) → d ≤ n → p ≢ d → Keeps (queue_of d z.outbox.log) (w.trims p d) (w.handlers.sends p (take (length h) h) d) (w.numbers p d)
  logs_with z same d to other =
      subst (λ l. Keeps (queue_of d l) (w.trims p d) (w.handlers.sends p (take (length h) h) d) (w.numbers p d)) (sym same)
      (subst (λ l. Keeps (queue_of d x.outbox.log) (w.trims p d) (w.handlers.sends p l d) (w.numbers p d)) (sym whole) (done.logs d to other))

  logs_now : y.outbox.log ≡ x.outbox.log → (d : ℕ) → d ≤ n → p ≢ d → Keeps (queue_of d (log_at now p)) (w.trims p d) (if p == 0 then w.inputs d else w.handlers.sends p (take (length h) h) d) (w.numbers p d)
  logs_now same d to other =
      subst (λ l. Keeps (queue_of d l) (w.trims p d) (if p == 0 then w.inputs d else w.handlers.sends p (take (length h) h) d) (w.numbers p d)) (sym (log_now m p y inside within))
      (rw apart (logs_with y same d to other))

  -- some peer is to do
  resyncs : has_no_peer peers ≡ false → ShowsAt n p now v (life_with (phase_with todo) (released_with w p todo))
  resyncs e =
      let there = some-todo peers.todo e in
      let at = bound there.0 there.1 in
      let some : todo ≢ [] = λ empty. those-some (λ q. slice_index_or peers.todo q false) n there.0 at.0 at.1 there.1 (sym todo_is ∙ empty) in
      let with = with-some w p todo some in
      let y_is : y ≡ record x { outbox = x.outbox; mode = modes.Resync peers } = s.some e in
      let here : StandsFor w n p y (life_with (Resync todo) (w.released p)) =
      subst (λ z. StandsFor w n p z (life_with (Resync todo) (w.released p))) (sym y_is) (at_mode (modes.Resync peers) x.outbox (Resync todo) (w.released p) refl refl (ap Resync todo_is) done.idle) in
      let shows : ShowsAt n p now v (life_with (Resync todo) (w.released p)) = record {
        process = subst (λ z. StandsFor w n p z (life_with (Resync todo) (w.released p))) (sym (now_at m p y inside within)) here;
        logs = λ d to other f. logs_now (ap (λ (z : TheProcess). z.outbox.log) y_is) d to other;
        gates = λ d to other f. absurd (false≢true f);
        shut = λ d f. ap (λ (z : TheProcess). slice_index_or z.outbox.gate.released d 0) (now_at m p y inside within ∙ y_is) ∙ done.shut d;
      } in
      subst (λ f. ShowsAt n p now v (life_with f (released_with w p todo))) (sym with.0) (subst (λ r. ShowsAt n p now v (life_with (Resync todo) r)) (sym with.1) shows)

  -- none is: all that was sent is released
  opened : (o : ReleasesAll x.outbox y.outbox) (d : ℕ) → d ≤ n → p ≢ d → Holds d y.outbox.gate (run_of w p) (length h) (length (w.handlers.sends p h d)) (λ k. length (w.handlers.sends p (take k h) d))
  opened o d to other =
      let kept = done.logs d to other in
      let dest : IsDestination d x.outbox.log = (omega (arith, done.log_of.width, to), λ same. other (sym (same ∙ done.log_of.owner))) in
      let released : slice_index_or y.outbox.gate.released d 0 ≡ length (w.handlers.sends p h d) = omega (arith, o.released d dest, kept.first, rest-length _ _ _ kept.rest) in
      record {
        released_is = released;
        waits = λ k from upto.
            let last : k ≡ length h = omega (arith, from, upto, done.run) in
            let all : take k h ≡ h = ap (λ j. take j h) last ∙ whole in
            let none : count_to d (filter (λ g. nat_le g.rsn k) y.outbox.gate.waiting) ≡ 0 = ap (λ gs. count_to d (filter (λ g. nat_le g.rsn k) gs)) o.waiting in
            omega (arith, none, ap (λ l. length (w.handlers.sends p l d)) all);
      }

  comes_up : has_no_peer peers ≡ true → ShowsAt n p now v (life_with (phase_with todo) (released_with w p todo))
  comes_up e =
      let o : ReleasesAll x.outbox y.outbox = (s.none e).0 in
      let y_is : y ≡ record x { outbox = y.outbox; mode = modes.Live } = (s.none e).1 in
      let empty : todo ≡ [] = todo_is ∙ those-none (λ q. slice_index_or peers.todo q false) n (none-todo peers.todo e) in
      let all : ℕ → ℕ = released_with w p [] in
      let here : StandsFor w n p y (life_with Up all) =
      subst (λ z. StandsFor w n p z (life_with Up all)) (sym y_is) (at_mode modes.Live y.outbox Up all refl refl (sym (ap (phase_of n modes.Live) done.idle)) (subst (IsNextAfter h) (sym done.idle) tt)) in
      let held : (d : ℕ) → d ≤ n → p ≢ d → Holds d y.outbox.gate (run_of w p) (length h) (all d) (λ k. length (w.handlers.sends p (take k h) d)) = (λ d to other. rw apart (opened o d to other)) in
      let shows : ShowsAt n p now v (life_with Up all) = record {
        process = subst (λ z. StandsFor w n p z (life_with Up all)) (sym (now_at m p y inside within)) here;
        logs = λ d to other f. logs_now o.log d to other;
        gates = λ d to other f. subst (λ (z : TheProcess). Holds d z.outbox.gate (run_of w p) (length h) (all d) (λ k. length (w.handlers.sends p (take k h) d))) (sym (now_at m p y inside within)) (held d to other);
        shut = λ d f. absurd (false≢true (sym f));
      } in
      subst (λ ps. ShowsAt n p now v (life_with (phase_with ps) (released_with w p ps))) (sym empty) shows

  life_now : life v p ≡ life_with (phase_with todo) (released_with w p todo)
  life_now = let here : (p == p) ≡ true = grind (arith, nat_tests) in rw here refl

  pub settled : ShowsAt n p now v (life v p)
  settled = subst (ShowsAt n p now v) (sym life_now) (by_peers (has_no_peer peers) refl)
    where
      by_peers : (b : Bool) → has_no_peer peers ≡ b → ShowsAt n p now v (life_with (phase_with todo) (released_with w p todo))
      by_peers true e = comes_up e
      by_peers false e = resyncs e

-- and it is sound
pub sound-settled : (n me len calls : ℕ) (x y : TheProcess) (peers : Peers) → IsSoundAt n me len calls x → is_lost x.mode ≡ false → x.working ≡ None → run x.receipts.acknowledged ≡ received x → Settles peers x y → IsSoundAt n me len calls y
sound-settled n me len calls x y peers i back idle whole s = by_peers (has_no_peer peers) refl
  where
    by_peers : (b : Bool) → has_no_peer peers ≡ b → IsSoundAt n me len calls y
    by_peers false e =
        subst (IsSoundAt n me len calls) (sym (s.some e)) (record {
          short = i.short;
          state = λ _. i.state back;
          log = i.log;
          senders = i.senders;
          whole = λ _. whole;
          planned = idle;
          begun_by = i.begun_by;
          incarnation = i.incarnation;
          own = i.own;
          count = i.count;
          saved_state = i.saved_state;
          saved_by = i.saved_by;
        })
    by_peers true e =
        subst (IsSoundAt n me len calls) (sym (s.none e).1) (record {
          short = i.short;
          state = λ _. i.state back;
          log = subst (IsLogOf n me) (sym (s.none e).0.log) i.log;
          senders = i.senders;
          whole = λ f. absurd (false≢true (sym f));
          planned = tt;
          begun_by = i.begun_by;
          incarnation = i.incarnation;
          own = i.own;
          count = i.count;
          saved_state = i.saved_state;
          saved_by = i.saved_by;
        })
