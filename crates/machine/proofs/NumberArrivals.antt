-- The steps of arrivals of numbers and acknowledgements
use Rattle.std.proofs.Common.{◌≡◌, ◌≢◌, ℕ, suc, ◌+◌, ◌-◌, ◌<◌, ◌≤◌, List, length, take, max, set, Bool, true, false, true≢false, refl, sym, ap, ◌∙◌, subst, arith}
use Rattle.std.specs.Prelude.{if◌then◌else◌, ◌==◌, ◌&&◌, nat_lt, nat_le, Option, Some, None, slice_index_or}
use Rattle.std.proofs.lemmas.Bool.{eqb-true, eqb-false, eq-eqb, ne_eqb, le-leb, lt-leb}
use Rattle.std.proofs.lemmas.Bool.Decides.{nat_tests}
use Rattle.std.proofs.Math.ListN.{get_or-eq_default}
use Rattle.std.proofs.lemmas.List.{get_or-set_same, get_or-set_other, length-set, length-map}
use Rattle.limits.specs.declared.TheConstants.{PACKETS, PROCESSES}
use Rattle.rsn.specs.Receipts as rsn
use Rattle.sender_log.specs.Queue.{TheQueue, no_queue, is_logged, recorded}
use Rattle.sender_log.specs.Log.{TheLog, queue_of}
use Rattle.send_gate.specs.Gate.{Releases}
use Rattle.world.specs.declared.message.Message.{Message}
use Rattle.world.specs.declared.packet.Packet.{Packet}
use Rattle.world.specs.declared.packet.Packet.TheVariants.{Number, Acknowledgement}
use Rattle.world.specs.declared.call.Call.TheVariants.{Arrive}
use Rattle.world.specs.declared.answer.Answer.TheVariants.{Numbered, Acknowledged, Stale}
use Rattle.world.specs.Phases.{is_up, is_down}
use Rattle.world.specs.World.{World, put}
use Rattle.world.specs.Logs.{length_of, payloads, sent, run_to, run_of, is_entry}
use Rattle.world.specs.Calls.{note, recorded as written}
use Rattle.world.specs.Refusals.{refusal_of}
use Rattle.theorems.proofs.Changes.{choose}
use Rattle.theorems.proofs.PhaseLemmas.{up-length}
use Rattle.theorems.proofs.RunLemmas.{run_to-is, run_to-more}
use Rattle.session_process.specs.Process.{TheProcess, received, Acknowledges}
use Rattle.session_process.specs.Wire.{Puts}
use Rattle.session_process.specs.Mode.{is_live}
use Rattle.machine.specs.Reception.{numbered, Records}
use Rattle.machine.specs.Simulation.{TheMachine, process_at, log_at, gate_at, is_up_at, Keeps, Holds, Shows, Stands, Steps, sent_by}
use Rattle.machine.specs.Work.{held_by}
use Rattle.machine.proofs.Updates.{set-is}
use Rattle.machine.proofs.OutboxLemmas.{stands-outbox}
use Rattle.machine.proofs.Status.{wire-is, at_process, up_at, up-down, is_live-at, live-lost, held-live, entry_at}
use Rattle.machine.proofs.Steps.{put-wire}
use Rattle.machine.proofs.Releases.{run_of-run_to, flags-set, holds-released}
use Rattle.machine.proofs.Arrivals.{Stood, some-of, arrives, dropped, replaced, vacated, at-set, log-same}

-- A number that arrives at the sender of its message

-- a queue with a number more keeps it
module _ (q : TheQueue) (dropped : ℕ) (xs : List (List ℕ)) (numbers : ℕ → Option ℕ) (i k : ℕ) (kept : Keeps q dropped xs numbers) (logged : is_logged i q ≡ true) where
  here : (dropped < i) × (i - q.first < length q.payloads)
  here = let from : q.first ≤ i = grind (arith, nat_tests) in (omega (arith, from, kept.first), grind (arith, nat_tests))

  number_at : (j : ℕ) → j < length q.payloads → (b : Bool) → (suc (dropped + j) == i) ≡ b → slice_index_or (set q.numbers (i - q.first) (Some k)) j None ≡ (if b then Some k else numbers (suc (dropped + j)))
  number_at j h true e =
      let at : suc (dropped + j) ≡ i = eqb-true (suc (dropped + j)) i e in
      let same : j ≡ i - q.first = omega (arith, at, kept.first) in
      let inside = here.1 in
      ap (λ p. slice_index_or (set q.numbers (i - q.first) (Some k)) p None) same ∙ get_or-set_same q.numbers (i - q.first) (Some k) None (omega (arith, inside, kept.as_many))
  number_at j h false e =
      let away : suc (dropped + j) ≢ i = eqb-false (suc (dropped + j)) i e in
      let above = here.0 in
      let apart : j ≢ i - q.first = λ f. away (omega (arith, f, kept.first, above)) in
      get_or-set_other q.numbers (i - q.first) j (Some k) None apart ∙ kept.numbers_are j h

  pub keeps-recorded : Keeps (recorded i k q) dropped xs (put numbers i (Some k))
  keeps-recorded =
      record {
        first = kept.first;
        rest = kept.rest;
        as_many = length-set q.numbers (i - q.first) (Some k) ∙ kept.as_many;
        numbers_are = λ j h. number_at j h (suc (dropped + j) == i) refl;
      }

-- the log has a queue for what it keeps
queue-inside : (l : TheLog) (d i : ℕ) → is_logged i (queue_of d l) ≡ true → d < length l.queues
queue-inside l d i logged = by_width (nat_lt d (length l.queues)) refl
  where
    by_width : (b : Bool) → nat_lt d (length l.queues) ≡ b → d < length l.queues
    by_width true e = grind (arith, nat_tests)
    by_width false e =
        let none : queue_of d l ≡ no_queue = get_or-eq_default l.queues no_queue (grind (arith, nat_tests)) in
        let empty : is_logged i no_queue ≡ true = rw none at logged in
        absurd (grind (arith, nat_tests))

module _ (m : TheMachine) (w : World) (s : Stands m w) (room key r t i k incarnation calls : ℕ) (slots : List (Option Packet)) (accepted : refusal_of w room (Arrive key) ≡ None) (found : slice_index_or m.slots key None ≡ Some (Number r t i k incarnation)) (inside : 0 < r) (within : r ≤ length m.processes) (from : t ≤ length m.processes) (apart : t ≢ r) (live : is_up_at m t ≡ true) where
  sender_up : is_up (w.phase t) ≡ true
  sender_up = up_at m w s t from live

  present : w.incarnation r ≡ (process_at m r).incarnation
  present = (at_process m w s r inside within).incarnation_is

  entry : is_entry w t r i ≡ is_logged i (queue_of r (log_at m t))
  entry = entry_at m w s t r from within apart (up-down (w.phase t) sender_up) i

  module _ (puts : Puts m.slots slots key (Some (Number r t i k incarnation)) None) where
    stale : (b : Bool) → ((incarnation == w.incarnation r) && is_entry w t r i) ≡ b → b ≡ false → Steps m (record m { slots = slots; calls = calls }) room (Arrive key) Stale w
    stale b is e = arrives m w s room key accepted (Number r t i k incarnation) found sender_up _ Stale (rw (is ∙ e) refl) (dropped m w s key calls slots (Some (Number r t i k incarnation)) puts) refl

    -- a number of another incarnation is stale
    pub number-past : incarnation ≢ (process_at m r).incarnation → Steps m (record m { slots = slots; calls = calls }) room (Arrive key) Stale w
    number-past other = let e : (incarnation == (process_at m r).incarnation) ≡ false = ne_eqb incarnation (process_at m r).incarnation other in stale _ (rw (present, e) refl) refl

    -- and so is one of a message that isn't logged
    pub number-unlogged : is_logged i (queue_of r (log_at m t)) ≡ false → Steps m (record m { slots = slots; calls = calls }) room (Arrive key) Stale w
    number-unlogged gone = stale _ refl (rw (entry, gone) (none (incarnation == w.incarnation r)))
      where
        none : (b : Bool) → (b && false) ≡ false
        none true = refl
        none false = refl

  module _ (current : incarnation ≡ (process_at m r).incarnation) (logged : is_logged i (queue_of r (log_at m t)) ≡ true) (low : key < PACKETS) (puts : Puts m.slots slots key (Some (Number r t i k incarnation)) (Some (Acknowledgement t r k incarnation))) where
    -- the log with the number
    abbrev pub l : TheLog
    l = numbered (log_at m t) r i k

    kept-in : (d : ℕ) → d ≤ length m.processes → t ≢ d → (b : Bool) → (d == r) ≡ b → Keeps (queue_of d l) (w.trims t d) (sent w t d) (if b then put (w.numbers t r) i (Some k) else w.numbers t d)
    kept-in d to other true e =
        let same : d ≡ r = eqb-true d r e in
        let is : queue_of r l ≡ recorded i k (queue_of r (log_at m t)) = get_or-set_same (log_at m t).queues r (recorded i k (queue_of r (log_at m t))) no_queue (queue-inside (log_at m t) r i logged) in
        let now : Keeps (queue_of r l) (w.trims t r) (sent w t r) (put (w.numbers t r) i (Some k)) = subst (λ q. Keeps q (w.trims t r) (sent w t r) (put (w.numbers t r) i (Some k))) (sym is) (keeps-recorded (queue_of r (log_at m t)) (w.trims t r) (sent w t r) (w.numbers t r) i k (s.shows.logs t r from within apart (up-down (w.phase t) sender_up)) logged) in
        subst (λ p. Keeps (queue_of p l) (w.trims t p) (sent w t p) (put (w.numbers t r) i (Some k))) (sym same) now
    kept-in d to other false e =
        let away : d ≢ r = eqb-false d r e in
        let is : queue_of d l ≡ queue_of d (log_at m t) = get_or-set_other (log_at m t).queues r d (recorded i k (queue_of r (log_at m t))) no_queue away in
        subst (λ q. Keeps q (w.trims t d) (sent w t d) (w.numbers t d)) (sym is) (s.shows.logs t d from to other (up-down (w.phase t) sender_up))

    kept-at : (p d : ℕ) → p ≤ length m.processes → d ≤ length m.processes → p ≢ d → is_down (w.phase p) ≡ false → (b : Bool) → (p == t) ≡ b → Keeps (queue_of d (if b then l else log_at m p)) (w.trims p d) (sent w p d) ((if b then put (w.numbers t) r (put (w.numbers t r) i (Some k)) else w.numbers p) d)
    kept-at p d h to other back true e =
        let same : t ≡ p = sym (eqb-true p t e) in
        let F : ℕ → Type 0 = λ q. q ≢ d → Keeps (queue_of d l) (w.trims q d) (sent w q d) (put (w.numbers t) r (put (w.numbers t r) i (Some k)) d) in
        subst F same (λ a. kept-in d to a (d == r) refl) other
    kept-at p d h to other back false e = s.shows.logs p d h to other back

    kept : (new : TheMachine) → ((p : ℕ) → log_at new p ≡ (if p == t then l else log_at m p)) → (p d : ℕ) → p ≤ length m.processes → d ≤ length m.processes → p ≢ d → is_down (w.phase p) ≡ false → Keeps (queue_of d (log_at new p)) (w.trims p d) (sent w p d) (written w t r i k p d)
    kept new logs p d h to other back = subst (λ z. Keeps (queue_of d z) (w.trims p d) (sent w p d) (written w t r i k p d)) (sym (logs p)) (kept-at p d h to other back (p == t) refl)

    good : ((incarnation == w.incarnation r) && is_entry w t r i) ≡ true
    good = let e : (incarnation == (process_at m r).incarnation) ≡ true = eq-eqb incarnation (process_at m r).incarnation current in rw (present, e, entry, logged) refl

    notes : (new : TheMachine) → Shows new (note w key r t i k incarnation key) → new.lengths ≡ m.lengths → Steps m new room (Arrive key) (Numbered key) w
    notes new shows lengths = arrives m w s room key accepted (Number r t i k incarnation) found sender_up new (Numbered key) (rw good (key, (rw wire-is low, vacated w key), refl)) shows lengths

    wire : (j : ℕ) → put (put w.wire key None) key (Some (Acknowledgement t r k incarnation)) j ≡ slice_index_or slots j None
    wire j = replaced m w s key calls slots (Some (Number r t i k incarnation)) (Acknowledgement t r k incarnation) puts j

    -- a number of an input
    pub noted-outside : t ≡ 0 → Steps m (record m { outside = record m.outside { log = l }; slots = slots; calls = calls }) room (Arrive key) (Numbered key) w
    noted-outside none =
        let new : TheMachine = record m { outside = record m.outside { log = l }; slots = slots; calls = calls } in
        notes new
        (record {
          count = s.shows.count;
          process = s.shows.process;
          logs = kept new (λ p. log_is p (p == 0) refl);
          gates = s.shows.gates;
          shut = s.shows.shut;
          feeds = s.shows.feeds;
          shown = s.shows.shown;
          wire = wire;
          started = s.shows.started;
          outside = s.shows.outside;
        })
        refl
      where
        log_is : (p : ℕ) (b : Bool) → (p == 0) ≡ b → (if b then l else (process_at m p).outbox.log) ≡ (if p == t then l else (if b then m.outside.log else (process_at m p).outbox.log))
        log_is p true e = let f : (p == t) ≡ true = eq-eqb p t (eqb-true p 0 e ∙ sym none) in rw f refl
        log_is p false e = let f : (p == t) ≡ false = ne_eqb p t (λ g. eqb-false p 0 e (g ∙ none)) in rw f refl

    -- a number of a message of a process
    pub noted-inside : 0 < t → Steps m (record m { processes = set m.processes (t - 1) (record (process_at m t) { outbox = record (process_at m t).outbox { log = l } }); slots = slots; calls = calls }) room (Arrive key) (Numbered key) w
    noted-inside some =
        let y : TheProcess = record (process_at m t) { outbox = record (process_at m t).outbox { log = l } } in
        let new : TheMachine = record m { processes = set m.processes (t - 1) y; slots = slots; calls = calls } in
        let len = length-set m.processes (t - 1) y in
        let back : suc (t - 1) ≡ t = omega arith in
        let before = at_process m w s t some from in
        let P : ℕ → Bool → TheProcess → Type 0 = λ p b z. Stood m w (suc p) (w.history (suc p)) (w.phase (suc p)) (w.acknowledged (suc p)) z in
        let now : Stood m w t (w.history t) (w.phase t) (w.acknowledged t) y =
        stands-outbox y.outbox before (λ lost. absurd (true≢false (sym lost ∙ live-lost y.mode (is_live-at m t some live)))) in
        let there : P (t - 1) true y = rw back now in
        notes new
        (record {
          count = s.shows.count ∙ sym len;
          process = λ p d h. rw len (set-is P m.processes t y some from there s.shows.process p d h);
          logs = λ p d h h2. kept new (λ q. log_is q (process_at new q) (q == 0) refl (at-set m t y some from (λ j b z. z.outbox.log ≡ (if b then l else (process_at m j).outbox.log)) refl (λ j a. refl) q)) p d (omega (arith, len, h)) (omega (arith, len, h2));
          gates = λ p d h k to_d other. at-set m t y some from (λ q b z. q ≤ length m.processes → q ≢ d → is_up (w.phase q) ≡ true → Holds d z.outbox.gate (run_of w q) (length (w.history q)) (w.released q d) (sent_by w q d)) (λ a. s.shows.gates t d some a (omega (arith, len, to_d))) (λ q b a. s.shows.gates q d b a (omega (arith, len, to_d))) p h (omega (arith, len, k)) other;
          shut = λ p d h k. at-set m t y some from (λ q b z. q ≤ length m.processes → is_up (w.phase q) ≡ false → slice_index_or z.outbox.gate.released d 0 ≡ 0) (s.shows.shut t d some) (λ q b. s.shows.shut q d b) p h (omega (arith, len, k));
          feeds = s.shows.feeds;
          shown = s.shows.shown;
          wire = wire;
          started = s.shows.started;
          outside = s.shows.outside;
        })
        refl
      where
        log_is : (p : ℕ) (z : TheProcess) (b : Bool) → (p == 0) ≡ b → (0 < p → z.outbox.log ≡ (if p == t then l else (process_at m p).outbox.log)) → (if b then m.outside.log else z.outbox.log) ≡ (if p == t then l else (if b then m.outside.log else (process_at m p).outbox.log))
        log_is p z true e is = let f : (p == t) ≡ false = ne_eqb p t (let z : p ≡ 0 = eqb-true p 0 e in λ g. absurd (omega (arith, z, g, some))) in rw f refl
        log_is p z false e is = is (some-of p (eqb-false p 0 e))

    -- any other is noted in the log, and its acknowledgement takes the key
    pub noted : (v : TheMachine) → Records m v t r i k → Steps m (record v { slots = slots; calls = calls }) room (Arrive key) (Numbered key) w
    noted v records = by_sender (t == 0) refl records
      where
        by_sender : (b : Bool) → (t == 0) ≡ b → v ≡ (if b then record m { outside = record m.outside { log = l } } else record m { processes = set m.processes (t - 1) (record (process_at m t) { outbox = record (process_at m t).outbox { log = l } }) }) → Steps m (record v { slots = slots; calls = calls }) room (Arrive key) (Numbered key) w
        by_sender true e is = subst (λ u. Steps m (record u { slots = slots; calls = calls }) room (Arrive key) (Numbered key) w) (sym is) (noted-outside (eqb-true t 0 e))
        by_sender false e is = subst (λ u. Steps m (record u { slots = slots; calls = calls }) room (Arrive key) (Numbered key) w) (sym is) (noted-inside (some-of t (eqb-false t 0 e)))

-- a number that is recorded changes a log alone
pub records-else : (old new : TheMachine) (t r i k : ℕ) → Records old new t r i k → (new.slots ≡ old.slots) × (new.calls ≡ old.calls) × (length new.processes ≡ length old.processes)
records-else old new t r i k records = by_sender (t == 0) records
  where
    by_sender : (b : Bool) → new ≡ (if b then record old { outside = record old.outside { log = numbered (log_at old t) r i k } } else record old { processes = set old.processes (t - 1) (record (process_at old t) { outbox = record (process_at old t).outbox { log = numbered (log_at old t) r i k } }) }) → (new.slots ≡ old.slots) × (new.calls ≡ old.calls) × (length new.processes ≡ length old.processes)
    by_sender true is = (ap (λ (v : TheMachine). v.slots) is, ap (λ (v : TheMachine). v.calls) is, ap (λ (v : TheMachine). length v.processes) is)
    by_sender false is = (ap (λ (v : TheMachine). v.slots) is, ap (λ (v : TheMachine). v.calls) is, ap (λ (v : TheMachine). length v.processes) is ∙ length-set old.processes (t - 1) (record (process_at old t) { outbox = record (process_at old t).outbox { log = numbered (log_at old t) r i k } }))

-- An acknowledgement that arrives at the receiver

-- all that changes in its process
pub acknowledges-is : (k : ℕ) (x y : TheProcess) → Acknowledges k x y → y ≡ record x { receipts = rsn.acknowledged k x.receipts; outbox = record x.outbox { gate = y.outbox.gate } }
acknowledges-is k x y a = a.others ∙ ap (λ (e : rsn.Received). record x { receipts = e; outbox = record x.outbox { gate = y.outbox.gate } }) a.receipts

module _ (m : TheMachine) (w : World) (s : Stands m w) (room key t r k incarnation calls : ℕ) (slots : List (Option Packet)) (accepted : refusal_of w room (Arrive key) ≡ None) (found : slice_index_or m.slots key None ≡ Some (Acknowledgement t r k incarnation)) (inside : 0 < r) (within : r ≤ length m.processes) (live : is_up_at m r ≡ true) (puts : Puts m.slots slots key (Some (Acknowledgement t r k incarnation)) None) where
  receiver : Stood m w r (w.history r) (w.phase r) (w.acknowledged r) (process_at m r)
  receiver = at_process m w s r inside within

  running : is_up (w.phase r) ≡ true
  running = up_at m w s r within live

  mode : is_live (process_at m r).mode ≡ true
  mode = is_live-at m r inside live

  as_long : received (process_at m r) ≡ length (w.history r)
  as_long = ap length receiver.senders ∙ length-map (held_by (process_at m r).mode (w.saved r) (w.history r)) (λ (x : Message). x.sender) ∙ ap length (held-live (process_at m r).mode (w.saved r) (w.history r) mode)

  in_state : length_of w r ≡ received (process_at m r)
  in_state = up-length (w.phase r) running (w.history r) (w.saved r) ∙ sym as_long

  past : (b : Bool) → ((incarnation == w.incarnation r) && nat_le k (length_of w r)) ≡ b → b ≡ false → Steps m (record m { slots = slots; calls = calls }) room (Arrive key) Stale w
  past b is e = arrives m w s room key accepted (Acknowledgement t r k incarnation) found running _ Stale (rw (is ∙ e) refl) (dropped m w s key calls slots (Some (Acknowledgement t r k incarnation)) puts) refl

  -- an acknowledgement of another incarnation is stale
  pub acknowledgement-past : incarnation ≢ (process_at m r).incarnation → Steps m (record m { slots = slots; calls = calls }) room (Arrive key) Stale w
  acknowledgement-past other = let e : (incarnation == (process_at m r).incarnation) ≡ false = ne_eqb incarnation (process_at m r).incarnation other in past _ (rw (receiver.incarnation_is, e) refl) refl

  -- and so is one of a number above what was received
  pub acknowledgement-ahead : received (process_at m r) < k → Steps m (record m { slots = slots; calls = calls }) room (Arrive key) Stale w
  acknowledgement-ahead above = past _ refl (let e : nat_le k (received (process_at m r)) ≡ false = lt-leb k (received (process_at m r)) above in rw (in_state, e) (none (incarnation == w.incarnation r)))
    where
      none : (b : Bool) → (b && false) ≡ false
      none true = refl
      none false = refl

  module _ (current : incarnation ≡ (process_at m r).incarnation) (first : 0 < k) (known : k ≤ received (process_at m r)) (few : length m.processes ≤ PROCESSES) (y : TheProcess) (a : Acknowledges k (process_at m r) y) where
    among : k ≤ length (w.history r)
    among = omega (arith, known, as_long)

    flags_are : (j : ℕ) → j < length (w.history r) → slice_index_or (set (process_at m r).receipts.acknowledged (k - 1) true) j false ≡ put (w.acknowledged r) k true (suc j)
    flags_are = flags-set (process_at m r).receipts.acknowledged (w.acknowledged r) (length (w.history r)) k (receiver.flags ∙ as_long) first among (λ j h. receiver.acknowledged_is j (omega (arith, h, as_long)))

    as_many : length (set (process_at m r).receipts.acknowledged (k - 1) true) ≡ length (w.history r)
    as_many = length-set (process_at m r).receipts.acknowledged (k - 1) true ∙ receiver.flags ∙ as_long

    run_is : rsn.run_of (set (process_at m r).receipts.acknowledged (k - 1) true) ≡ run_to (put (w.acknowledged r) k true) (length (w.history r))
    run_is = run_of-run_to (set (process_at m r).receipts.acknowledged (k - 1) true) (put (w.acknowledged r) k true) (length (w.history r)) as_many flags_are

    acks : Stood m w r (w.history r) (w.phase r) (put (w.acknowledged r) k true) y
    acks =
        let z : TheProcess = record (process_at m r) { receipts = rsn.acknowledged k (process_at m r).receipts; outbox = record (process_at m r).outbox { gate = y.outbox.gate } } in
        let is : y ≡ z = acknowledges-is k (process_at m r) y a in
        let at : Stood m w r (w.history r) (w.phase r) (put (w.acknowledged r) k true) z =
        record {
          state_is = receiver.state_is;
          gone = λ lost. absurd (true≢false (sym lost ∙ live-lost z.mode mode));
          senders = receiver.senders;
          flags = as_many ∙ sym as_long;
          acknowledged_is = λ j h. flags_are j (omega (arith, h, as_long));
          in_order = receiver.in_order;
          phase_is = receiver.phase_is;
          works = receiver.works;
          incarnation_is = receiver.incarnation_is;
          saves = receiver.saves;
        } in
        subst (Stood m w r (w.history r) (w.phase r) (put (w.acknowledged r) k true)) (sym is) at

    more : run_of w r ≤ run_to (put (w.acknowledged r) k true) (length (w.history r))
    more = run_to-more (w.acknowledged r) (put (w.acknowledged r) k true) (length (w.history r)) (choose k (λ i c. w.acknowledged r i ≡ true → (if c then true else w.acknowledged r i) ≡ true) (λ e. refl) (λ i e f. f))

    holds : (d : ℕ) → d ≤ length m.processes → r ≢ d → Holds d y.outbox.gate (run_to (put (w.acknowledged r) k true) (length (w.history r))) (length (w.history r)) (max (w.released r d) (length (payloads w r (take (run_to (put (w.acknowledged r) k true) (length (w.history r))) (w.history r)) d))) (sent_by w r d)
    holds d to other =
        let e : (r == 0) ≡ false = ne_eqb r 0 (λ f. absurd (omega (arith, f, inside))) in
        rw e (holds-released (gate_at m r) y.outbox.gate d (run_of w r) (run_to (put (w.acknowledged r) k true) (length (w.history r))) (length (w.history r)) (w.released r d) (sent_by w r d) (omega (arith, few, to)) more (run_to-is (put (w.acknowledged r) k true) (length (w.history r))).0 (s.shows.gates r d inside within to other running) (subst (λ n. Releases n (gate_at m r) y.outbox.gate) run_is a.releases))

    fresh : ((incarnation == w.incarnation r) && nat_le k (length_of w r)) ≡ true
    fresh =
        let e : (incarnation == (process_at m r).incarnation) ≡ true = eq-eqb incarnation (process_at m r).incarnation current in
        let f : nat_le k (received (process_at m r)) ≡ true = le-leb k (received (process_at m r)) known in
        rw (receiver.incarnation_is, e, in_state, f) refl

    -- any other counts, and what may leave then is released
    pub acknowledged : Steps m (record m { processes = set m.processes (r - 1) y; slots = slots; calls = calls }) room (Arrive key) Acknowledged w
    acknowledged =
        let new : TheMachine = record m { processes = set m.processes (r - 1) y; slots = slots; calls = calls } in
        let len = length-set m.processes (r - 1) y in
        let back : suc (r - 1) ≡ r = omega arith in
        let P : ℕ → Bool → TheProcess → Type 0 = λ p b z. Stood m w (suc p) (w.history (suc p)) (w.phase (suc p)) (if b then put (w.acknowledged r) k true else w.acknowledged (suc p)) z in
        let there : P (r - 1) true y = rw back acks in
        let n : ℕ = run_to (put (w.acknowledged r) k true) (length (w.history r)) in
        let G : ℕ → ℕ → Bool → TheProcess → Type 0 = λ d q b z. q ≤ length m.processes → q ≢ d → is_up (w.phase q) ≡ true → Holds d z.outbox.gate (run_to (if b then put (w.acknowledged r) k true else w.acknowledged q) (length (w.history q))) (length (w.history q)) ((if b then (λ d. max (w.released r d) (length (payloads w r (take n (w.history r)) d))) else w.released q) d) (sent_by w q d) in
        let same_log : y.outbox.log ≡ (process_at m r).outbox.log = ap (λ (v : TheProcess). v.outbox.log) a.others in
        arrives m w s room key accepted (Acknowledgement t r k incarnation) found running new Acknowledged (rw fresh refl)
        (record {
          count = s.shows.count ∙ sym len;
          process = λ p d h. rw len (set-is P m.processes r y inside within there s.shows.process p d h);
          logs = λ p d h h2 apart back. subst (λ l. Keeps (queue_of d l) (w.trims p d) (sent w p d) (w.numbers p d)) (sym (log-same m r y inside within new refl refl same_log p)) (s.shows.logs p d (omega (arith, len, h)) (omega (arith, len, h2)) apart back);
          gates = λ p d h h2 to apart. at-set m r y inside within (G d) (λ u other on. holds d (omega (arith, len, to)) other) (λ q u v. s.shows.gates q d u v (omega (arith, len, to))) p h (omega (arith, len, h2)) apart;
          shut = λ p d h h2. at-set m r y inside within (λ q b z. q ≤ length m.processes → is_up (w.phase q) ≡ false → slice_index_or z.outbox.gate.released d 0 ≡ 0) (λ u off. absurd (true≢false (sym running ∙ off))) (λ q u. s.shows.shut q d u) p h (omega (arith, len, h2));
          feeds = s.shows.feeds;
          shown = s.shows.shown;
          wire = put-wire w m.slots slots key (Some (Acknowledgement t r k incarnation)) None s.shows.wire puts;
          started = s.shows.started;
          outside = s.shows.outside;
        })
        refl
