-- How many messages a destination has for good
use Rattle.std.proofs.Common.{◌≡◌, ◌≢◌, ℕ, zero, suc, ◌+◌, ◌-◌, ◌≤◌, List, [], ◌∷◌, ◌++◌, length, map, take, drop, set, min, max, Bool, true, false, refl, sym, ap, ◌∙◌, subst, arith}
use Rattle.std.specs.Prelude.{◌==◌, count_by, Option, Some, if◌then◌else◌, slice_get, cond}
use Rattle.std.proofs.lemmas.Bool.Decides.{nat_tests}
use Rattle.std.proofs.lemmas.List.{append_assoc, get_or-drop, length-append, length-drop, length-set, length-take, take-append-drop}
use Rattle.std.proofs.lemmas.List.Sums.{sum_by-cons}
use Rattle.sender_log.specs.Queue.{TheQueue, count_up_to, trimmed}
use Rattle.sender_log.specs.Log.{queue_of}
use Rattle.world.specs.declared.message.Message.{Message}
use Rattle.world.specs.History.{Payload, count_of}
use Rattle.world.specs.Phases.{is_up}
use Rattle.world.specs.World.{World}
use Rattle.world.specs.Logs.{sent, covered}
use Rattle.world.specs.Calls.{trimmed as trimmed_in, dropped}
use Rattle.theorems.specs.Invariants.Sound.{Sound}
use Rattle.session_process.specs.Process.{TheProcess, idle_process, trimmed_at}
use Rattle.machine.specs.Fields.{IsSoundAt}
use Rattle.machine.specs.Checkpoints.{covered_at, drops, trimmed_log, trimmed_to, without_covered}
use Rattle.machine.specs.Simulation.{TheMachine, Shows, Keeps, process_at, is_up_at}
use Rattle.machine.proofs.Soundness.{sound-outbox}
use Rattle.machine.proofs.Status.{rest-length, is_up-phase_of}

-- a queue without what was dropped
module _ (q : TheQueue) (t i : ℕ) (all : List Payload) (numbers : ℕ → Option ℕ) (k : Keeps q t all numbers) where
  c : ℕ
  c = count_up_to i q

  long : length all ≡ t + length q.payloads
  long = rest-length t q.payloads all k.rest

  few : c ≤ length q.payloads
  unfolding c
  few = omega arith

  -- what is dropped then
  pub drops-to : t + count_up_to i q ≡ max t (min i (length all))
  drops-to = omega (arith, k.first, long)

  pub keeps-trimmed : Keeps (trimmed (count_up_to i q) q) (max t (min i (length all))) all numbers
  unfolding c
  keeps-trimmed = subst (λ n. Keeps (trimmed c q) n all numbers) drops-to (record {
    first = omega (arith, k.first);
    rest = record {
      before = k.rest.before ++ take c q.payloads;
      count = length-append k.rest.before (take c q.payloads) ∙ (let a = k.rest.count in let b = length-take c q.payloads in omega (arith, a, b, few));
      joined = append_assoc k.rest.before (take c q.payloads) (drop c q.payloads) ∙ ap (λ xs. k.rest.before ++ xs) (take-append-drop c q.payloads) ∙ k.rest.joined;
    };
    as_many = length-drop c q.numbers ∙ ap (λ n. n - c) k.as_many ∙ sym (length-drop c q.payloads);
    numbers_are = λ j h. get_or-drop c q.numbers j _ ∙ k.numbers_are (c + j) (let l = length-drop c q.payloads in omega (arith, h, l)) ∙ ap numbers (omega arith);
  })

-- one sender after the other

-- no trim changes how many processes there are
pub width-without : (m : TheMachine) (d s : ℕ) → length (without_covered m d s).processes ≡ length m.processes
width-without m d s = by_drops (drops m d s) (s == 0)
  where
    by_drops : (b c : Bool) → length (if b then (if c then record m { outside = record m.outside { log = trimmed_log d (covered_at m 0 d) m.outside.log } } else record m { processes = set m.processes (s - 1) (trimmed_at d (covered_at m s d) (process_at m s)) }) else m).processes ≡ length m.processes
    by_drops true true = refl
    by_drops true false = length-set m.processes (s - 1) (trimmed_at d (covered_at m s d) (process_at m s))
    by_drops false c = refl

pub width-to : (m : TheMachine) (d k : ℕ) → length (trimmed_to d m k).processes ≡ length m.processes
width-to m d zero = refl
width-to m d (suc k) = width-without (trimmed_to d m k) d k ∙ width-to m d k

-- a process without some messages is sound
pub trimmed-sound : (n me len calls d i : ℕ) (x : TheProcess) → IsSoundAt n me len calls x → IsSoundAt n me len calls (trimmed_at d i x)
trimmed-sound n me len calls d i x s =
    let width = length-set x.outbox.log.queues d (trimmed (count_up_to i (queue_of d x.outbox.log)) (queue_of d x.outbox.log)) in
    sound-outbox n me len calls x (trimmed_at d i x).outbox s (record { owner = s.log.owner; width = width ∙ s.log.width })

-- how many messages of s the destination d has for good
module _ (m : TheMachine) (w : World) (shows : Shows m w) where
  count-senders : (s : ℕ) (xs : List Message) → count_by (λ x. x == s) (map (λ (x : Message). x.sender) xs) ≡ count_of s xs
  count-senders s [] = refl
  count-senders s (x ∷ xs) = sum_by-cons (λ y. cond (y == s) 1 0) x.sender (map (λ (z : Message). z.sender) xs) ∙ ap (λ n. cond (x.sender == s) 1 0 + n) (count-senders s xs)

  pub covered-is : (s d : ℕ) → d ≤ length m.processes → covered_at m s d ≡ covered w s d
  covered-is s zero h = ap (count_of s) (sym shows.shown)
  covered-is s (suc d) h =
      let at = shows.process d (idle_process 0 0 0) (omega (arith, h)) in
      let inside : (suc d == 0) ≡ false = grind (arith, nat_tests) in
      let back : suc d - 1 ≡ d = omega arith in
      rw (inside, back) (ap (count_by (λ x. x == s)) at.saves.senders_are ∙ count-senders s (take (w.saved (suc d)) (w.history (suc d))))

-- the world tells as the fields do which are up
pub up-shown : (m : TheMachine) (w : World) → Shows m w → (p : ℕ) → p ≤ length m.processes → is_up (w.phase p) ≡ is_up_at m p
up-shown m w shows zero h = ap is_up shows.outside
up-shown m w shows (suc p) h =
    let inside : (suc p == 0) ≡ false = grind (arith, nat_tests) in
    let back : suc p - 1 ≡ p = omega arith in
    rw (inside, back) (ap is_up (shows.process p (idle_process 0 0 0) (omega (arith, h))).phase_is ∙ is_up-phase_of _ _ _)

-- no process receives what it sent itself
own-none : (p : ℕ) (h : List Message) → ((k : ℕ) (x : Message) → slice_get h k ≡ Some x → x.sender ≢ p) → (n : ℕ) → count_of p (take n h) ≡ 0
own-none p h other zero = refl
own-none p [] other (suc n) = refl
own-none p (x ∷ h) other (suc n) =
    let here : x.sender ≢ p = other 0 x refl in
    let apart : (x.sender == p) ≡ false = grind (arith, nat_tests) in
    let rest = own-none p h (λ k y e. other (suc k) y e) n in
    rw apart (omega (arith, rest))

-- so none has a message of its own for good
pub own-covered : (w : World) → Sound w → w.inputs 0 ≡ [] → (d : ℕ) → trimmed_in w d d ≡ w.trims d d
own-covered w sound unsent zero = by_up (is_up (w.phase 0))
  where
    by_up : (b : Bool) → (if b then max (w.trims 0 0) (min (covered w 0 0) (length (sent w 0 0))) else w.trims 0 0) ≡ w.trims 0 0
    by_up true = let none : length (sent w 0 0) ≡ 0 = ap length unsent in omega (arith, none)
    by_up false = refl
own-covered w sound unsent (suc d) = by_up (is_up (w.phase (suc d)))
  where
    none : covered w (suc d) (suc d) ≡ 0
    none = let inside : (suc d == 0) ≡ false = grind (arith, nat_tests) in rw inside (own-none (suc d) (w.history (suc d)) (λ k x e. (sound.received (suc d) k x e).other) (w.saved (suc d)))

    by_up : (b : Bool) → (if b then max (w.trims (suc d) (suc d)) (min (covered w (suc d) (suc d)) (length (sent w (suc d) (suc d)))) else w.trims (suc d) (suc d)) ≡ w.trims (suc d) (suc d)
    by_up true = omega (arith, none)
    by_up false = refl
