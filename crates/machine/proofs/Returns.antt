-- A crashed process comes back: with its checkpoint, and the messages before it that the logs still have
use Rattle.std.proofs.Common.{◌≡◌, ◌≢◌, ℕ, zero, suc, ◌+◌, ◌-◌, ◌<◌, ◌≤◌, List, [], ◌++◌, length, take, replicate, Bool, true, false, refl, sym, ap, ◌∙◌, subst, arith}
use Rattle.std.specs.Prelude.{◌==◌, if◌then◌else◌, nat_lt, nat_le, Option, None, slice_index_or}
use Rattle.std.proofs.lemmas.Bool.{false≢true}
use Rattle.std.proofs.lemmas.Bool.Decides.{nat_tests}
use Rattle.std.proofs.lemmas.List.{get_or-map, get_or-replicate, length-append, length-map, length-replicate, length-take-le}
use Rattle.std.proofs.Math.Seq.{take-append_seam}
use Rattle.limits.specs.declared.TheConstants.{PARTIES}
use Rattle.sender_log.specs.Queue.{no_queue, is_logged}
use Rattle.sender_log.specs.Log.{TheLog, queue_of}
use Rattle.checkpoint.specs.Saved.{nothing_kept, queue_again, log_again}
use Rattle.replay.specs.Plan.{ThePlan, IsPlan, found, queue_in, senders_of}
use Rattle.replay.specs.Agreement.{ShowsLog}
use Rattle.replay.proofs.AgreementLemmas.{plan-gathered, same-found}
use Rattle.world.specs.declared.message.Message.{Message}
use Rattle.world.specs.declared.answer.Answer.TheVariants.{Kept}
use Rattle.world.specs.Phases.{Phase, Replaying, is_up, is_down}
use Rattle.world.specs.World.{World, put}
use Rattle.world.specs.Plan.{gather, chosen, found as found_in}
use Rattle.world.specs.Calls.{after, keep, peers as peers_of, ready, recover, up_to}
use Rattle.world.specs.Answers.{MayAnswer}
use Rattle.world.specs.Refusals.{refusal_of}
use Rattle.theorems.specs.Invariants.Sound.{Sound}
use Rattle.theorems.specs.Invariants.Tidy.{is_behind}
use Rattle.theorems.proofs.SoundCalls.{sound-call}
use Rattle.theorems.proofs.RunLemmas.{run_to-whole}
use Rattle.theorems.proofs.ListLemmas.{take-all}
use Rattle.session_process.specs.Mode.{is_lost}
use Rattle.session_process.specs.declared.mode.Mode.{Mode}
use Rattle.session_process.specs.declared.mode.Mode.TheVariants as modes
use Rattle.session_process.specs.Process.{TheProcess, idle_process, restored}
use Rattle.session_process.specs.Outbox.{TheOutbox}
use Rattle.session_process.proofs.StableLemmas.{at-replicate, queue-at}
use Rattle.machine.specs.Receipts.{InOrder}
use Rattle.machine.specs.Simulation.{Saves, TheMachine, StandsAt, Keeps, Shows, Stands, Steps, process_at, log_at, is_up_at}
use Rattle.machine.specs.Work.{phase_of}
use Rattle.machine.specs.Recoveries.{SettlesAt, forgotten, logs_of, recovery_of}
use Rattle.machine.specs.Fields.{IsLogOf}
use Rattle.machine.proofs.ReceiptLemmas.{senders, InOrderFrom-each}
use Rattle.machine.proofs.Status.{at_process, down_is, entry_at, number_at, payload_at}
use Rattle.machine.proofs.Steps.{step}
use Rattle.machine.proofs.Others.{TheLife, life, StandsFor, ShowsAt, ShowsBut, others, together, replaced, now_at, log_now, but-replaced, but-world, shows-calls, up-but}
use Rattle.machine.proofs.Losses.{no-queue, without_later, forgotten-width, but-forgotten}
use Rattle.machine.proofs.Settlement.{IsCaughtUp, peers-are, peers-within, settled}

-- one that is down is behind, and not up
down-phase : (n : ℕ) (t : Mode) (o : Option Message) → is_lost t ≡ true → (is_behind (phase_of n t o) ≡ true) × (is_up (phase_of n t o) ≡ false)
down-phase n modes.Live o e = absurd (false≢true e)
down-phase n modes.Down o e = (refl, refl)
down-phase n (modes.Replaying plan alone) o e = absurd (false≢true e)
down-phase n (modes.Resync peers) o e = absurd (false≢true e)

-- an empty log has no message
none-logged : (i : ℕ) → is_logged i no_queue ≡ false
none-logged i = grind (arith, nat_tests)

-- what the logs have

module _ (m : TheMachine) (w : World) (s : Stands m w) (p : ℕ) (inside : 0 < p) (within : p ≤ length m.processes) (down : is_lost (process_at m p).mode ≡ true) where
  abbrev n : ℕ
  n = length m.processes

  abbrev x : TheProcess
  x = process_at m p

  logs-at : (q : ℕ) (d : TheLog) → q ≤ length m.processes → slice_index_or (logs_of m) q d ≡ log_at m q
  logs-at zero d to = refl
  logs-at (suc q) d to =
      let apart : (suc q == 0) ≡ false = grind (arith, nat_tests) in
      let before : suc q - 1 ≡ q = omega arith in
      rw (apart, before) (get_or-map (λ (y : TheProcess). y.outbox.log) m.processes q (idle_process 0 0 0) d (omega arith))

  queue-is : (q : ℕ) → q ≤ length m.processes → queue_in (logs_of m) p q ≡ queue_of p (log_at m q)
  queue-is q to = ap (queue_of p) (logs-at q (record { owner = 0; queues = [] }) to)

  -- one that is down has none
  lost-queue : (q : ℕ) → q ≤ length m.processes → is_down (w.phase q) ≡ true → queue_of p (log_at m q) ≡ no_queue
  lost-queue zero to e = absurd (false≢true (sym (ap is_down s.shows.outside) ∙ e))
  lost-queue (suc q) to e =
      let apart : (suc q == 0) ≡ false = grind (arith, nat_tests) in
      let gone = (at_process m w s (suc q) (omega arith) to).gone (sym (down_is m w s (suc q) (omega arith) to) ∙ e) in
      rw apart (ap (λ (o : TheOutbox). queue_of p o.log) gone.1 ∙ no-queue (suc q) (length m.processes) p)

  shows-log : (q : ℕ) → q ≤ length m.processes → (b : Bool) → is_down (w.phase q) ≡ b → ShowsLog w q p (queue_of p (log_at m q))
  shows-log q to true e i =
      let empty = lost-queue q to e in
      let none : is_logged i (queue_of p (log_at m q)) ≡ false = ap (is_logged i) empty ∙ none-logged i in
      (none ∙ rw e refl, λ f. absurd (false≢true (sym none ∙ f)))
  shows-log q to false e i =
      let other : q ≢ p = (λ same. false≢true (sym e ∙ ap (λ j. is_down (w.phase j)) same ∙ down_is m w s p inside within ∙ down)) in
      (sym (entry_at m w s q p to within other e i), λ f. (number_at m w s q p to within other e i f, sym (payload_at m w s q p to within other e i f)))

  found-is : found (logs_of m) p ≡ found_in w p
  found-is =
      let many : length (logs_of m) ≡ suc w.count = omega (arith, length-logs, s.shows.count) in
      let same = same-found w p (logs_of m) many (λ q l. let to : q ≤ length m.processes = omega (arith, l, s.shows.count) in subst (ShowsLog w q p) (sym (queue-is q to)) (shows-log q to (is_down (w.phase q)) refl)) in
      λ i k. same k i
    where
      length-logs : length (logs_of m) ≡ suc (length m.processes)
      length-logs = ap suc (length-map m.processes (λ (y : TheProcess). y.outbox.log))

  -- what the process has again
  module _ (plan : ThePlan) (is_plan : IsPlan (found (logs_of m) p) (process_at m p).saved.senders plan.messages) (before : plan.before ≡ length (process_at m p).saved.senders) (fresh : plan.replayed ≡ 0)
      (k : ℕ) (kept : k ≡ length (process_at m p).saved.senders + length plan.messages) (log_of : IsLogOf (length m.processes) p (log_again (process_at m p).saved)) (alone : Bool) (room : ℕ) (accepted : refusal_of w room (recovery_of p alone) ≡ None) where
    at : StandsAt n p x (w.handlers.state p) (w.handlers.sends p) (w.history p) (w.phase p) (w.incarnation p) (w.acknowledged p) (w.saved p) (w.saved_trims p)
    at = at_process m w s p inside within

    -- what the checkpoint covers, and the history that is kept
    abbrev h : List Message
    h = take (w.saved p) (w.history p)

    abbrev hx : List Message
    hx = h ++ plan.messages

    covered : length h ≡ w.saved p
    covered = length-take-le (w.saved p) (w.history p) (s.sound.saved p)

    senders_are : x.saved.senders ≡ senders h
    senders_are = at.saves.senders_are

    senders_count : length x.saved.senders ≡ w.saved p
    senders_count = ap length senders_are ∙ length-map h (λ (y : Message). y.sender) ∙ covered

    from-world : IsPlan (found_in w p) (senders_of h) plan.messages
    from-world = subst (λ f. IsPlan f (senders_of h) plan.messages) found-is (subst (λ ss. IsPlan (found (logs_of m) p) ss plan.messages) senders_are is_plan)

    gathered : gather w p h (k - w.saved p) ≡ hx
    gathered = let more : k - w.saved p ≡ length plan.messages = omega (arith, kept, senders_count) in ap (gather w p h) more ∙ (plan-gathered w p h plan.messages from-world).0

    longer : length hx ≡ k
    longer = let e = length-append h plan.messages in omega (arith, e, covered, kept, senders_count)

    held : take (w.saved p) hx ≡ h
    held = ap (λ j. take j hx) (sym covered) ∙ take-append_seam h plan.messages

    answered : (w.saved p ≤ k) × (length (gather w p h (k - w.saved p)) ≡ k) × (chosen w p (gather w p h (k - w.saved p)) ≡ None)
    answered = (omega (arith, kept, senders_count), ap length gathered ∙ longer, ap (chosen w p) gathered ∙ (plan-gathered w p h plan.messages from-world).1)

    may-answer : MayAnswer w (recovery_of p alone) (Kept k)
    may-answer = elim alone as (λ b. MayAnswer w (recovery_of p b) (Kept k)) [ true ↦ answered | false ↦ answered ]

    after-is : after w (recovery_of p alone) (Kept k) ≡ recover w p k alone
    after-is = elim alone as (λ b. after w (recovery_of p b) (Kept k) ≡ recover w p k b) [ true ↦ refl | false ↦ refl ]

    here : (p == p) ≡ true
    here = grind (arith, nat_tests)

    kept-history : (recover w p k alone).history p ≡ hx
    kept-history = by_length (nat_lt (w.saved p) k) ∙ gathered
      where
        by_length : (b : Bool) → (if b then record (keep w p k) { phase = put w.phase p (Replaying 0 false alone) } else ready (keep w p k) p (peers_of w p alone)).history p ≡ gather w p h (k - w.saved p)
        by_length true = rw here refl
        by_length false = rw here refl

    in-order : InOrder hx
    in-order =
        let sound : Sound (recover w p k alone) = subst Sound after-is (sound-call room w (recovery_of p alone) (Kept k) accepted may-answer s.sound) in
        subst InOrder kept-history (InOrderFrom-each (λ _. 0) ((recover w p k alone).history p) (λ j y e. let t = (sound.received p j y e).next in omega (arith, t)))

    down_now : (is_behind (w.phase p) ≡ true) × (is_up (w.phase p) ≡ false)
    down_now = let d = down-phase n x.mode x.working down in (ap is_behind at.phase_is ∙ d.0, ap is_up at.phase_is ∙ d.1)

    -- the log of the checkpoint
    keeps-again : (d : ℕ) → d ≤ length m.processes → p ≢ d → Keeps (queue_of d (log_again x.saved)) (w.trims p d) (w.handlers.sends p h d) (w.numbers p d)
    keeps-again d to other =
        let queue = slice_index_or x.saved.queues d nothing_kept in
        let apart : d ≢ p = (λ e. other (sym e)) in
        let trims : w.trims p d ≡ w.saved_trims p d = (s.tidy p).back down_now.1 d in
        subst (λ q. Keeps q (w.trims p d) (w.handlers.sends p h d) (w.numbers p d)) (sym (queue-at x.saved.queues d))
        (subst (λ t. Keeps (queue_again queue) t (w.handlers.sends p h d) (w.numbers p d)) (sym trims) (record {
          first = at.saves.first d to apart;
          rest = at.saves.rest d to apart;
          as_many = length-replicate (length queue.payloads) None;
          numbers_are = λ i l. get_or-replicate (length queue.payloads) i None None l ∙ sym ((s.tidy p).unnumbered down_now.0 d (suc (w.saved_trims p d + i)));
        }))

    abbrev life_with : Phase → TheLife
    life_with f =
        record {
          history = hx;
          phase = f;
          saved = w.saved p;
          saved_trims = w.saved_trims p;
          acknowledged = λ j. nat_le j k;
          released = w.released p;
          incarnation = w.incarnation p;
          trims = w.trims p;
          numbers = put (w.numbers p) p (λ i. up_to k (w.numbers p p i));
        }

    numbers-other : (d : ℕ) → p ≢ d → w.numbers p d ≡ put (w.numbers p) p (λ i. up_to k (w.numbers p p i)) d
    numbers-other d other = let apart : (d == p) ≡ false = grind (arith, nat_tests) in rw apart refl

    keeps-now : (d : ℕ) → d ≤ length m.processes → p ≢ d → (l : List Message) → l ≡ h → Keeps (queue_of d (log_again x.saved)) (w.trims p d) (w.handlers.sends p l d) (put (w.numbers p) p (λ i. up_to k (w.numbers p p i)) d)
    keeps-now d to other l same =
        subst (λ g. Keeps (queue_of d (log_again x.saved)) (w.trims p d) (w.handlers.sends p g d) (put (w.numbers p) p (λ i. up_to k (w.numbers p p i)) d)) (sym same)
        (subst (λ f. Keeps (queue_of d (log_again x.saved)) (w.trims p d) (w.handlers.sends p h d) f) (numbers-other d other) (keeps-again d to other))

    saves-now : Saves n p x.saved (w.handlers.state p (take (w.saved p) hx)) (take (w.saved p) hx) (w.saved_trims p) (w.handlers.sends p (take (w.saved p) hx))
    saves-now = subst (λ l. Saves n p x.saved (w.handlers.state p l) l (w.saved_trims p) (w.handlers.sends p l)) (sym held) at.saves

    flags-now : (j : ℕ) → j < length x.saved.senders → slice_index_or (replicate (length x.saved.senders) true) j false ≡ nat_le (suc j) k
    flags-now j l = let low : nat_le (suc j) k ≡ true = grind (arith, nat_tests, kept) in get_or-replicate (length x.saved.senders) j true false l ∙ sym low

    -- the machine with it
    abbrev y : TheProcess
    y = restored plan alone x

    pub within_then : p ≤ length (forgotten p k m).processes
    within_then = omega (arith, forgotten-width m p k, within)

    abbrev now : TheMachine
    now = replaced (forgotten p k m) p y inside within_then

    life-kept : life (keep w p k) p ≡ life_with (w.phase p)
    life-kept =
        let with : life (keep w p k) p ≡ record (life_with (w.phase p)) { history = gather w p h (k - w.saved p) } = rw here refl in
        with ∙ ap (λ (g : List Message). record (life_with (w.phase p)) { history = g }) gathered

    others-kept : ShowsBut n p now (keep w p k)
    others-kept =
        but-replaced (forgotten p k m) p y inside within_then n (keep w p k)
        (but-world p inside (forgotten p k m) (without_later m p k w) (keep w p k) refl (λ q other. let apart : (q == p) ≡ false = grind (arith, nat_tests) in rw apart refl) n
        (but-forgotten m p k n w (others m w p s.shows)))

    module _ (calls : ℕ) where
      abbrev onward : World
      onward = record (keep w p k) { phase = put w.phase p (Replaying 0 false alone) }

      stands-again : 0 < length plan.messages → StandsFor onward n p y (life_with (Replaying 0 false alone))
      stands-again some =
          let from : take (w.saved p + plan.replayed) hx ≡ h = (let e : w.saved p + plan.replayed ≡ w.saved p = omega (arith, fresh) in ap (λ j. take j hx) e ∙ held) in
          record {
            state_is = λ _. at.saves.state_is ∙ ap (w.handlers.state p) (sym from);
            gone = λ e. absurd (false≢true e);
            senders = senders_are ∙ ap senders (sym from);
            flags = length-replicate (length x.saved.senders) true;
            acknowledged_is = flags-now;
            in_order = in-order;
            phase_is = ap (λ j. Replaying j false alone) (sym fresh);
            works = record { before = before ∙ senders_count; messages = ap (λ l. l ++ plan.messages) held; left = omega (arith, fresh, some); next = tt };
            incarnation_is = at.incarnation_is;
            saves = saves-now;
          }

      shown-again : 0 < length plan.messages → ShowsAt n p now onward (life_with (Replaying 0 false alone))
      shown-again some =
          let apart : (p == 0) ≡ false = grind (arith, nat_tests) in
          let from : take (w.saved p + 0) hx ≡ h = (let e : w.saved p + 0 ≡ w.saved p = omega arith in ap (λ j. take j hx) e ∙ held) in
          record {
            process = subst (λ z. StandsFor onward n p z (life_with (Replaying 0 false alone))) (sym (now_at (forgotten p k m) p y inside within_then)) (stands-again some);
            logs = λ d to other f.
                subst (λ l. Keeps (queue_of d l) (w.trims p d) (if p == 0 then w.inputs d else w.handlers.sends p (take (w.saved p + 0) hx) d) (put (w.numbers p) p (λ i. up_to k (w.numbers p p i)) d)) (sym (log_now (forgotten p k m) p y inside within_then))
                (rw apart (keeps-now d to other (take (w.saved p + 0) hx) from));
            gates = λ d to other f. absurd (false≢true f);
            shut = λ d f. ap (λ (z : TheProcess). slice_index_or z.outbox.gate.released d 0) (now_at (forgotten p k m) p y inside within_then) ∙ at-replicate PARTIES d 0;
          }

      life-onward : life onward p ≡ life_with (Replaying 0 false alone)
      life-onward =
          let with : life onward p ≡ record (life_with (Replaying 0 false alone)) { history = gather w p h (k - w.saved p) } = rw here refl in
          with ∙ ap (λ (g : List Message). record (life_with (Replaying 0 false alone)) { history = g }) gathered

      -- something of it is to be replayed
      pub replays : 0 < length plan.messages → Steps m (record now { calls = calls }) room (recovery_of p alone) (Kept k) w
      replays some =
          let more : nat_lt (w.saved p) k ≡ true = grind (arith, nat_tests, kept, senders_count) in
          let is : recover w p k alone ≡ onward = rw more refl in
          let but : ShowsBut n p now onward = but-world p inside now (keep w p k) onward refl (λ q other. let apart : (q == p) ≡ false = grind (arith, nat_tests) in rw apart refl) n others-kept in
          let shows : Shows now onward = together n now onward p inside within but (subst (ShowsAt n p now onward) (sym life-onward) (shown-again some)) in
          step m (record now { calls = calls }) room (recovery_of p alone) (Kept k) w s accepted may-answer (subst (Shows (record now { calls = calls })) (sym (after-is ∙ is)) (shows-calls now onward calls shows)) refl

      caught-up : length plan.messages ≡ 0 → IsCaughtUp (keep w p k) n p y (life_with (w.phase p))
      caught-up none =
          let all : hx ≡ h = (let e : w.saved p ≡ length hx = omega (arith, longer, kept, senders_count, none) in sym (take-all hx) ∙ ap (λ j. take j hx) (sym e) ∙ held) in
          record {
            state = at.saves.state_is ∙ ap (w.handlers.state p) (sym all);
            senders_are = senders_are ∙ ap senders (sym all);
            flags = length-replicate (length x.saved.senders) true;
            acknowledged_is = flags-now;
            in_order = in-order;
            idle = refl;
            incarnation_is = at.incarnation_is;
            saves = saves-now;
            log_of = log_of;
            logs = λ d to other. keeps-now d to other hx all;
            shut = λ d. at-replicate PARTIES d 0;
            run = run_to-whole (λ j. nat_le j k) (length hx) (λ j a b. grind (arith, nat_tests, longer));
          }

      -- or nothing is
      pub settles : length plan.messages ≡ 0 → (new : TheMachine) → SettlesAt p alone now new → Steps m (record new { calls = calls }) room (recovery_of p alone) (Kept k) w
      settles none new t =
          let todo = peers_of w p alone in
          let to_now = ShowsBut.width others-kept in
          let within_now : p ≤ length now.processes = omega (arith, to_now, within) in
          let more : nat_lt (w.saved p) k ≡ false = grind (arith, nat_tests, kept, senders_count, none) in
          let is : recover w p k alone ≡ ready (keep w p k) p todo = rw more refl in
          let at_now : process_at now p ≡ y = now_at (forgotten p k m) p y inside within_then in
          let done : IsCaughtUp (keep w p k) n p (process_at now p) (life (keep w p k) p) = subst (λ z. IsCaughtUp (keep w p k) n p z (life (keep w p k) p)) (sym at_now) (subst (IsCaughtUp (keep w p k) n p y) (sym life-kept) (caught-up none)) in
          let ups : (q : ℕ) → 0 < q → q ≤ n → q ≢ p → is_up_at now q ≡ is_up (w.phase q) = (λ q a b other. up-but n p now (keep w p k) others-kept q a b other) in
          let last = replaced now p t.process inside within_now in
          let at_p = settled n p now (keep w p k) (process_at now p) t.process t.peers todo inside within_now done t.settles (peers-are n p now w alone t.peers t.are to_now s.shows.count ups) (peers-within n p now w alone t.peers t.are to_now s.shows.count ups) in
          let but : ShowsBut n p last (ready (keep w p k) p todo) =
          but-replaced now p t.process inside within_now n (ready (keep w p k) p todo)
          (but-world p inside now (keep w p k) (ready (keep w p k) p todo) refl (λ q other. let apart : (q == p) ≡ false = grind (arith, nat_tests) in rw apart refl) n others-kept) in
          let shows : Shows last (ready (keep w p k) p todo) = together n last (ready (keep w p k) p todo) p inside within but at_p in
          subst (λ (v : TheMachine). Steps m (record v { calls = calls }) room (recovery_of p alone) (Kept k) w) (sym t.becomes)
          (step m (record last { calls = calls }) room (recovery_of p alone) (Kept k) w s accepted may-answer (subst (Shows (record last { calls = calls })) (sym (after-is ∙ is)) (shows-calls last (ready (keep w p k) p todo) calls shows)) refl)
