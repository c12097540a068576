-- Senders forget the numbers that a process gave their messages after those that it keeps
use Rattle.std.proofs.Common.{◌≡◌, ◌≢◌, ℕ, suc, ◌+◌, ◌-◌, ◌<◌, ◌≤◌, List, [], ◌∷◌, ◌++◌, length, map, take, drop, set, replicate, Bool, true, false, refl, sym, ap, ◌∙◌, subst, arith}
use Rattle.std.specs.Prelude.{◌==◌, if◌then◌else◌, nat_lt, Option, Some, None, slice_index_or}
use Rattle.std.proofs.lemmas.Bool.Decides.{nat_tests}
use Rattle.std.proofs.lemmas.List.{append_assoc, drop_more, get_or-append_right, get_or-map, get_or-set_same, get_or-set_other, length-map, length-set, length-take-le, map-append, set_at, set-get_or, take_more}
use Rattle.std.proofs.Math.ListN.{get_or-eq_default}
use Rattle.sender_log.specs.Queue.{TheQueue, no_queue, unnumbered, up_to}
use Rattle.sender_log.specs.Log.{TheLog, queue_of, with_queue}
use Rattle.world.specs.History.{Payload}
use Rattle.world.specs.World.{World, put}
use Rattle.world.specs.Logs.{sent}
use Rattle.world.specs.Calls.{up_to as kept_to}
use Rattle.session_process.specs.Process.{TheProcess, idle_process, unnumbered_at}
use Rattle.session_process.specs.Outbox.{TheOutbox, empty_outbox, with_messages}
use Rattle.session_process.specs.Outside.{TheOutside}
use Rattle.session_process.proofs.StableLemmas.{at-map, at-replicate}
use Rattle.machine.specs.Fields.{IsLogOf, IsSoundAt}
use Rattle.machine.specs.Recoveries.{forgotten}
use Rattle.machine.specs.Simulation.{TheMachine, Keeps, process_at, log_at, gate_at}
use Rattle.machine.proofs.Soundness.{sound-outbox}
use Rattle.machine.proofs.OutboxLemmas.{stands-outbox}
use Rattle.machine.proofs.Others.{TheLife, life, StandsFor, ShowsBut}

-- a log without its numbers above k for p
abbrev pub forgot : ℕ → ℕ → TheLog → TheLog
forgot p k l = with_queue p (unnumbered k (queue_of p l)) l

-- Queues

-- the world and a queue forget the same numbers
pub same_up_to : (k : ℕ) (o : Option ℕ) → up_to k o ≡ kept_to k o
same_up_to k None = refl
same_up_to k (Some r) = refl

-- a queue that forgets the numbers above k still keeps the messages, and the other numbers
pub keeps-unnumbered : (k : ℕ) (q : TheQueue) (dropped : ℕ) (payloads : List Payload) (numbers : ℕ → Option ℕ) → Keeps q dropped payloads numbers → Keeps (unnumbered k q) dropped payloads (λ i. kept_to k (numbers i))
keeps-unnumbered k q dropped payloads numbers h =
    record {
      first = h.first;
      rest = h.rest;
      as_many = length-map q.numbers (up_to k) ∙ h.as_many;
      numbers_are = λ i l. at-map (up_to k) q.numbers i None ∙ ap (up_to k) (h.numbers_are i l) ∙ same_up_to k (numbers (suc (dropped + i)));
    }

-- Logs

forgot-none : (p k : ℕ) (queues : List TheQueue) → slice_index_or queues p no_queue ≡ no_queue → unnumbered k (slice_index_or queues p no_queue) ≡ slice_index_or queues p no_queue
forgot-none p k queues none = ap (unnumbered k) none ∙ sym none

-- the queue to p has forgotten them
pub forgot-same : (p k : ℕ) (l : TheLog) → queue_of p (forgot p k l) ≡ unnumbered k (queue_of p l)
forgot-same p k l = by_place (nat_lt p (length l.queues)) refl
  where
    by_place : (b : Bool) → nat_lt p (length l.queues) ≡ b → queue_of p (forgot p k l) ≡ unnumbered k (queue_of p l)
    by_place true e = get_or-set_same l.queues p (unnumbered k (queue_of p l)) no_queue (grind (arith, nat_tests))
    by_place false e =
        let out : length l.queues ≤ p = grind (arith, nat_tests) in
        let none : queue_of p l ≡ no_queue = get_or-eq_default l.queues no_queue out in
        get_or-eq_default (set l.queues p (unnumbered k (queue_of p l))) no_queue (omega (arith, out, length-set l.queues p (unnumbered k (queue_of p l)))) ∙ sym (forgot-none p k l.queues none ∙ none)

-- and the other queues haven't changed
pub forgot-other : (p d k : ℕ) (l : TheLog) → d ≢ p → queue_of d (forgot p k l) ≡ queue_of d l
forgot-other p d k l other = get_or-set_other l.queues p d (unnumbered k (queue_of p l)) no_queue other

-- such a log is still that of its owner, among n processes
pub log-forgot : (n me p k : ℕ) (l : TheLog) → IsLogOf n me l → IsLogOf n me (forgot p k l)
log-forgot n me p k l i = record { owner = i.owner; width = length-set l.queues p (unnumbered k (queue_of p l)) ∙ i.width }

-- an empty outbox has no number to forget
pub no-queue : (me n d : ℕ) → queue_of d (empty_outbox me n).log ≡ no_queue
no-queue me n d = at-replicate (n + 1) d no_queue

empty-forgot : (me n p k : ℕ) → with_messages p (unnumbered k (queue_of p (empty_outbox me n).log)) (empty_outbox me n) ≡ empty_outbox me n
empty-forgot me n p k =
    let queues : List TheQueue = replicate (n + 1) no_queue in
    let same : set queues p (unnumbered k (slice_index_or queues p no_queue)) ≡ queues = ap (set queues p) (forgot-none p k queues (at-replicate (n + 1) p no_queue)) ∙ set-get_or queues p no_queue in
    ap (λ qs. record (empty_outbox me n) { log = record { owner = me; queues = qs } }) same

-- Processes

module _ (n me p k : ℕ) (x : TheProcess) where
  -- a process that forgets numbers stands for what it stood for
  pub stands-forgot : (w : World) (a : TheLife) → StandsFor w n me x a → StandsFor w n me (unnumbered_at p k x) a
  stands-forgot w a h = stands-outbox (unnumbered_at p k x).outbox h (λ e. ap (λ (b : TheOutbox). with_messages p (unnumbered k (queue_of p b.log)) b) (h.gone e).1 ∙ empty-forgot me n p k)

  -- and stays sound
  pub sound-forgot : (len calls : ℕ) → IsSoundAt n me len calls x → IsSoundAt n me len calls (unnumbered_at p k x)
  sound-forgot len calls h = sound-outbox n me len calls x (unnumbered_at p k x).outbox h (log-forgot n me p k x.outbox.log h.log)

-- A walk over all

module _ {X : Type 0} (f : X → X) (xs ys : List X) (i : ℕ) (x v : X) where
  -- when the next one is changed, all up to it are
  pub walked : ys ≡ map f (take i xs) ++ drop i xs → i < length xs → v ≡ f (slice_index_or ys i x) → set ys i v ≡ map f (take (i + 1) xs) ++ drop (i + 1) xs
  walked is h now =
      let front = map f (take i xs) in
      let here = slice_index_or xs i x in
      let rest = drop (i + 1) xs in
      let split : ys ≡ front ++ here ∷ rest = is ∙ ap (λ l. front ++ l) (drop_more xs i x h) in
      let long : length front ≡ i = length-map (take i xs) f ∙ length-take-le i xs (omega (arith, h)) in
      let none : i - i ≡ 0 = omega arith in
      let x_is : slice_index_or ys i x ≡ here = ap (λ l. slice_index_or l i x) split ∙ get_or-append_right front (here ∷ rest) i i x long (omega arith) ∙ ap (λ j. slice_index_or (here ∷ rest) j x) none in
      let more : map f (take (i + 1) xs) ≡ front ++ f here ∷ [] = ap (map f) (take_more xs i x h) ∙ map-append f (take i xs) (here ∷ []) in
      ap (λ l. set l i v) split ∙ set_at front here rest v i long ∙ ap (λ z. front ++ z ∷ rest) (now ∙ ap f x_is)
      ∙ sym (append_assoc front (f here ∷ []) rest) ∙ ap (λ l. l ++ rest) (sym more)

-- all processes are sound
pub processes-forgot : (xs : List TheProcess) (lengths : List ℕ) (p k calls : ℕ) → ((q : ℕ) (d : TheProcess) (e : ℕ) → q < length xs → IsSoundAt (length xs) (suc q) (slice_index_or lengths q e) calls (slice_index_or xs q d))
    → (ys : List TheProcess) → ys ≡ map (unnumbered_at p k) xs → (q : ℕ) (d : TheProcess) (e : ℕ) → q < length ys → IsSoundAt (length ys) (suc q) (slice_index_or lengths q e) calls (slice_index_or ys q d)
processes-forgot xs lengths p k calls all ys is q d e h =
    let len : length ys ≡ length xs = ap length is ∙ length-map xs (unnumbered_at p k) in
    let low : q < length xs = omega (arith, len, h) in
    let at : slice_index_or ys q d ≡ unnumbered_at p k (slice_index_or xs q d) = ap (λ l. slice_index_or l q d) is ∙ get_or-map (unnumbered_at p k) xs q d d low in
    subst (λ n. IsSoundAt n (suc q) (slice_index_or lengths q e) calls (slice_index_or ys q d)) (sym len)
    (subst (IsSoundAt (length xs) (suc q) (slice_index_or lengths q e) calls) (sym at) (sound-forgot (length xs) (suc q) p k (slice_index_or xs q d) (slice_index_or lengths q e) calls (all q d e low)))

-- as many inputs
pub inputs-forgot : (p k calls : ℕ) (old new : TheOutside) → new ≡ record old { log = forgot p k old.log } → ((d : ℕ) → (queue_of d old.log).first + length (queue_of d old.log).payloads ≤ calls + 1)
    → (d : ℕ) → (queue_of d new.log).first + length (queue_of d new.log).payloads ≤ calls + 1
inputs-forgot p k calls old new is all d = subst (λ (o : TheOutside). (queue_of d o.log).first + length (queue_of d o.log).payloads ≤ calls + 1) (sym is) (by_place (d == p) refl)
  where
    by_place : (b : Bool) → (d == p) ≡ b → (queue_of d (forgot p k old.log)).first + length (queue_of d (forgot p k old.log)).payloads ≤ calls + 1
    by_place true e =
        let same : p ≡ d = grind (arith, nat_tests) in
        let at : queue_of d (forgot p k old.log) ≡ unnumbered k (queue_of d old.log) = subst (λ j. queue_of j (forgot p k old.log) ≡ unnumbered k (queue_of j old.log)) same (forgot-same p k old.log) in
        subst (λ (q : TheQueue). q.first + length q.payloads ≤ calls + 1) (sym at) (all d)
    by_place false e =
        let at : queue_of d (forgot p k old.log) ≡ queue_of d old.log = forgot-other p d k old.log (grind (arith, nat_tests)) in
        subst (λ (q : TheQueue). q.first + length q.payloads ≤ calls + 1) (sym at) (all d)

-- The machine

module _ (m : TheMachine) (p k : ℕ) where
  pub forgotten-width : length (forgotten p k m).processes ≡ length m.processes
  forgotten-width = length-map m.processes (unnumbered_at p k)

  pub forgotten-at : (q : ℕ) → 0 < q → q ≤ length m.processes → process_at (forgotten p k m) q ≡ unnumbered_at p k (process_at m q)
  forgotten-at q positive within = get_or-map (unnumbered_at p k) m.processes (q - 1) (idle_process 0 0 0) (idle_process 0 0 0) (omega arith)

  forgotten-log : (q : ℕ) → q ≤ length m.processes → log_at (forgotten p k m) q ≡ forgot p k (log_at m q)
  forgotten-log q within = by_number (q == 0) refl
    where
      by_number : (b : Bool) → (q == 0) ≡ b → (if b then (forgotten p k m).outside.log else (process_at (forgotten p k m) q).outbox.log) ≡ forgot p k (if b then m.outside.log else (process_at m q).outbox.log)
      by_number true e = refl
      by_number false e = ap (λ (x : TheProcess). x.outbox.log) (forgotten-at q (grind (arith, nat_tests)) within)

  -- all senders know no more than the numbers up to k of what they sent to p
  abbrev pub without_later : World → World
  without_later w = record w { numbers = λ s. put (w.numbers s) p (λ i. kept_to k (w.numbers s p i)) }

  keeps-forgot : (w : World) (q d : ℕ) → q ≤ length m.processes → Keeps (queue_of d (log_at m q)) (w.trims q d) (sent w q d) (w.numbers q d) → (b : Bool) → (d == p) ≡ b
      → Keeps (queue_of d (log_at (forgotten p k m) q)) (w.trims q d) (sent w q d) (if b then (λ i. kept_to k (w.numbers q p i)) else w.numbers q d)
  keeps-forgot w q d within h true e =
      let same : d ≡ p = grind (arith, nat_tests) in
      let at : queue_of d (log_at (forgotten p k m) q) ≡ unnumbered k (queue_of d (log_at m q)) = ap (queue_of d) (forgotten-log q within) ∙ subst (λ j. queue_of d (forgot j k (log_at m q)) ≡ unnumbered k (queue_of d (log_at m q))) same (forgot-same d k (log_at m q)) in
      subst (λ j. Keeps (queue_of d (log_at (forgotten p k m) q)) (w.trims q d) (sent w q d) (λ i. kept_to k (w.numbers q j i))) same
      (subst (λ z. Keeps z (w.trims q d) (sent w q d) (λ i. kept_to k (w.numbers q d i))) (sym at) (keeps-unnumbered k (queue_of d (log_at m q)) (w.trims q d) (sent w q d) (w.numbers q d) h))
  keeps-forgot w q d within h false e =
      let at : queue_of d (log_at (forgotten p k m) q) ≡ queue_of d (log_at m q) = ap (queue_of d) (forgotten-log q within) ∙ forgot-other p d k (log_at m q) (grind (arith, nat_tests)) in
      subst (λ z. Keeps z (w.trims q d) (sent w q d) (w.numbers q d)) (sym at) h

  gate-forgot : (q : ℕ) → 0 < q → q ≤ length m.processes → gate_at (forgotten p k m) q ≡ gate_at m q
  gate-forgot q positive within = ap (λ (x : TheProcess). x.outbox.gate) (forgotten-at q positive within)

  forgotten-but : (w : World) → ShowsBut (length m.processes) p m w → ShowsBut (length m.processes) p (forgotten p k m) (without_later w)
  forgotten-but w b =
      record {
        width = forgotten-width;
        count = b.count;
        process = λ q d h other. subst (λ x. StandsFor w (length m.processes) (suc q) x (life w (suc q))) (sym (get_or-map (unnumbered_at p k) m.processes q d d h)) (stands-forgot (length m.processes) (suc q) p k (slice_index_or m.processes q d) w (life w (suc q)) (b.process q d h other));
        logs = λ q d other from to apart back. keeps-forgot w q d from (b.logs q d other from to apart back) (d == p) refl;
        gates = λ q d other positive from to apart up. rw (gate-forgot q positive from) (b.gates q d other positive from to apart up);
        shut = λ q d other positive from down. rw (gate-forgot q positive from) (b.shut q d other positive from down);
        feeds = b.feeds;
        shown = b.shown;
        wire = b.wire;
        started = b.started;
        outside = b.outside;
      }

  -- of all but p, the machine shows the world in which senders have forgotten p's later numbers
  pub but-forgotten : (n : ℕ) (w : World) → ShowsBut n p m w → ShowsBut n p (forgotten p k m) (without_later w)
  but-forgotten n w b = subst (λ j. ShowsBut j p (forgotten p k m) (without_later w)) b.width (forgotten-but w (subst (λ j. ShowsBut j p m w) (sym b.width) b))
