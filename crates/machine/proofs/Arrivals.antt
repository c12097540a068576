-- The steps of arrivals, as steps of each world that the machine stands for
use Rattle.std.proofs.Common.{◌≡◌, ◌≢◌, ℕ, zero, suc, ◌+◌, ◌-◌, ◌<◌, ◌≤◌, List, [], ◌∷◌, ◌++◌, length, take, set, Bool, true, false, true≢false, refl, sym, ap, ◌∙◌, subst, arith}
use Rattle.std.specs.Prelude.{if◌then◌else◌, ◌==◌, nat_lt, Option, Some, None, slice_index_or}
use Rattle.std.proofs.lemmas.Bool.{eqb-true, eqb-false, eq-eqb, ne_eqb}
use Rattle.std.proofs.lemmas.List.{get_or-set_same, get_or-set_other, length-set}
use Rattle.limits.specs.declared.TheConstants.{PACKETS}
use Rattle.rsn.specs.Receipts as rsn
use Rattle.sender_log.specs.Log.{queue_of}
use Rattle.world.specs.declared.message.Message.{Message}
use Rattle.world.specs.declared.packet.Packet.{Packet}
use Rattle.world.specs.declared.packet.Packet.TheVariants.{Delivery, Number, Acknowledgement}
use Rattle.world.specs.declared.call.Call.TheVariants.{Arrive}
use Rattle.world.specs.declared.answer.Answer.{Answer}
use Rattle.world.specs.declared.answer.Answer.TheVariants.{Started, Duplicate, Early, Shown, ShownBefore, Unreachable}
use Rattle.world.specs.History.{count_of, rsn_of}
use Rattle.world.specs.Phases.{Phase, Busy, is_up, is_down}
use Rattle.world.specs.World.{World, put}
use Rattle.world.specs.Logs.{length_in, payloads, sent, run_of}
use Rattle.world.specs.Calls.{lose, begin, number_for, arrive}
use Rattle.world.specs.Answers.{ReceivesAs, ReceivesUp, Verdict, Next, Known, Ahead, judge, target_of}
use Rattle.world.specs.Refusals.{refusal_of}
use Rattle.theorems.proofs.PhaseLemmas.{up-length}
use Rattle.session_process.specs.Process.{TheProcess, idle_process}
use Rattle.session_process.specs.Wire.{Puts}
use Rattle.session_process.specs.Mode.{is_live}
use Rattle.machine.specs.Simulation.{TheMachine, process_at, log_at, is_up_at, StandsAt, Keeps, Holds, Shows, Stands, Steps, sent_by}
use Rattle.machine.specs.Work.{IsNextAfter}
use Rattle.machine.proofs.Updates.{put-is, set-is}
use Rattle.machine.proofs.Status.{wire-is, at_process, up_is, up_at, up-down, is_live-at, live-busy, live-works}
use Rattle.machine.proofs.Steps.{put-wire, shows-wire, step}

-- what is kept of p stands for this history, this phase and these acknowledged numbers, and for the rest as the world has it
abbrev pub Stood : TheMachine → World → ℕ → List Message → Phase → (ℕ → Bool) → TheProcess → Type 0
Stood m w p h phase told z = StandsAt (length m.processes) p z (w.handlers.state p) (w.handlers.sends p) h phase (w.incarnation p) told (w.saved p) (w.saved_trims p)

-- a number that isn't 0
pub some-of : (n : ℕ) → n ≢ 0 → 0 < n
some-of zero other = absurd (other refl)
some-of (suc n) other = omega arith

-- the answer that a packet gets whose target is up
module _ (m : TheMachine) (w : World) (s : Stands m w) (room key : ℕ) (accepted : refusal_of w room (Arrive key) ≡ None) (packet : Packet) (found : slice_index_or m.slots key None ≡ Some packet) (up : is_up (w.phase (target_of packet)) ≡ true) where
  pub arrives : (new : TheMachine) (a : Answer) → ReceivesUp w key packet a → Shows new (arrive w key (Some packet) a) → new.lengths ≡ m.lengths → Steps m new room (Arrive key) a w
  arrives new a fits shows lengths =
      let is : w.wire key ≡ Some packet = s.shows.wire key ∙ found in
      step m new room (Arrive key) a w s accepted (rw is (rw up fits)) (rw is shows) lengths

-- the answer that it gets where its target isn't
module _ (m : TheMachine) (w : World) (s : Stands m w) (room key calls : ℕ) (slots : List (Option Packet)) (accepted : refusal_of w room (Arrive key) ≡ None) where
  pub unreachable : (packet : Packet) → slice_index_or m.slots key None ≡ Some packet → target_of packet ≤ length m.processes → is_up_at m (target_of packet) ≡ false → Puts m.slots slots key (Some packet) None
      → Steps m (record m { slots = slots; calls = calls }) room (Arrive key) Unreachable w
  unreachable packet found within off puts =
      let is : w.wire key ≡ Some packet = s.shows.wire key ∙ found in
      let away : is_up (w.phase (target_of packet)) ≡ false = up_is m w s (target_of packet) within ∙ off in
      step m (record m { slots = slots; calls = calls }) room (Arrive key) Unreachable w s accepted (rw is (rw away refl)) (rw is (leaves packet (shows-wire m w s calls slots (put w.wire key None) (put-wire w m.slots slots key (Some packet) None s.shows.wire puts)))) refl
    where
      leaves : (k : Packet) → Shows (record m { slots = slots; calls = calls }) (lose w key) → Shows (record m { slots = slots; calls = calls }) (arrive w key (Some k) Unreachable)
      leaves (Delivery d x) shows = shows
      leaves (Number r t i n incarnation) shows = shows
      leaves (Acknowledgement t r n incarnation) shows = shows

-- The wire

module _ (m : TheMachine) (w : World) (s : Stands m w) (key calls : ℕ) (slots : List (Option Packet)) (was : Option Packet) where
  -- where a packet goes, the machine shows the world without it
  pub dropped : Puts m.slots slots key was None → Shows (record m { slots = slots; calls = calls }) (lose w key)
  dropped puts = shows-wire m w s calls slots (put w.wire key None) (put-wire w m.slots slots key was None s.shows.wire puts)

  -- another packet lies where the first one was
  pub replaced : (is : Packet) → Puts m.slots slots key was (Some is) → (j : ℕ) → put (put w.wire key None) key (Some is) j ≡ slice_index_or slots j None
  replaced is puts j = put-is (put w.wire key None) (λ k. slice_index_or slots k None) key (Some is) puts.now (λ k apart. puts.others k apart ∙ sym (let other : (k == key) ≡ false = ne_eqb k key apart in rw other (s.shows.wire k))) j

  -- and where another takes its key, the world with that one
  pub changed : (is : Packet) → Puts m.slots slots key was (Some is) → Shows (record m { slots = slots; calls = calls }) (record w { wire = put (put w.wire key None) key (Some is) })
  changed is puts = shows-wire m w s calls slots (put (put w.wire key None) key (Some is)) (replaced is puts)

-- a key that was vacated is vacant
pub vacated : (w : World) (key : ℕ) → put w.wire key None key ≡ None
vacated w key = let here : (key == key) ≡ true = eq-eqb key key refl in rw here refl

-- One process changes

module _ (m : TheMachine) (to : ℕ) (y : TheProcess) (positive : 0 < to) (within : to ≤ length m.processes) where
  -- what holds of the process of each number before, and of the new one, holds of each after it
  pub at-set : (P : ℕ → Bool → TheProcess → Type 0) → P to true y → ((q : ℕ) → 0 < q → P q false (process_at m q)) → (p : ℕ) → 0 < p → P p (p == to) (slice_index_or (set m.processes (to - 1) y) (p - 1) (idle_process 0 0 0))
  at-set P now others p h = by_number (p == to) refl
    where
      by_number : (b : Bool) → (p == to) ≡ b → P p b (slice_index_or (set m.processes (to - 1) y) (p - 1) (idle_process 0 0 0))
      by_number true e =
          let same : to ≡ p = sym (eqb-true p to e) in
          let at : y ≡ slice_index_or (set m.processes (to - 1) y) (p - 1) (idle_process 0 0 0) = sym (ap (λ q. slice_index_or (set m.processes (to - 1) y) (q - 1) (idle_process 0 0 0)) (sym same) ∙ get_or-set_same m.processes (to - 1) y (idle_process 0 0 0) (omega arith)) in
          subst (P p true) at (subst (λ q. P q true y) same now)
      by_number false e =
          let apart : p - 1 ≢ to - 1 = λ f. eqb-false p to e (omega (arith, f, h, positive)) in
          subst (P p false) (sym (get_or-set_other m.processes (to - 1) (p - 1) y (idle_process 0 0 0) apart)) (others p h)

  -- the logs stay, where that of the process does
  pub log-same : (new : TheMachine) → new.processes ≡ set m.processes (to - 1) y → new.outside.log ≡ m.outside.log → y.outbox.log ≡ (process_at m to).outbox.log → (p : ℕ) → log_at new p ≡ log_at m p
  log-same new processes outside same p = by_number (p == 0) refl
    where
      by_number : (b : Bool) → (p == 0) ≡ b → (if b then new.outside.log else (process_at new p).outbox.log) ≡ (if b then m.outside.log else (process_at m p).outbox.log)
      by_number true e = outside
      by_number false e =
          let inside : 0 < p = some-of p (eqb-false p 0 e) in
          ap (λ (xs : List TheProcess). (slice_index_or xs (p - 1) (idle_process 0 0 0)).outbox.log) processes
          ∙ at-set (λ q b z. z.outbox.log ≡ (process_at m q).outbox.log) same (λ q h. refl) p inside

-- A message that arrives

module _ (m : TheMachine) (w : World) (s : Stands m w) (room key to calls : ℕ) (x : Message) (slots : List (Option Packet)) (accepted : refusal_of w room (Arrive key) ≡ None) (found : slice_index_or m.slots key None ≡ Some (Delivery to x)) (within : to ≤ length m.processes) (live : is_up_at m to ≡ true) where
  up : is_up (w.phase to) ≡ true
  up = up_at m w s to within live

  module _ (puts : Puts m.slots slots key (Some (Delivery to x)) None) where
    -- a message that comes too early changes nothing, and is gone
    pub early : judge w to x ≡ Ahead → Steps m (record m { slots = slots; calls = calls }) room (Arrive key) Early w
    early ahead = arrives m w s room key accepted (Delivery to x) found up _ Early (rw ahead (anywhere to)) (dropped m w s key calls slots (Some (Delivery to x)) puts) refl
      where
        anywhere : (d : ℕ) → ReceivesAs w key d x Ahead Early
        anywhere zero = refl
        anywhere (suc d) = refl

  -- what is sent doesn't rest on a job
  sent-begun : (p d : ℕ) → sent (begin w key to x) p d ≡ sent w p d
  sent-begun p d = by_number (p == to) refl
    where
      by_number : (b : Bool) → (p == to) ≡ b → payloads w p (take (length_in (w.history p) (w.saved p) (if b then Busy x else w.phase p)) (w.history p)) d ≡ sent w p d
      by_number true e =
          let same : to ≡ p = sym (eqb-true p to e) in
          let live : is_up (w.phase p) ≡ true = ap (λ q. is_up (w.phase q)) (sym same) ∙ up in
          ap (λ n. payloads w p (take n (w.history p)) d) (sym (up-length (w.phase p) live (w.history p) (w.saved p)))
      by_number false e = refl

  module _ (positive : 0 < to) where
    at_to : Stood m w to (w.history to) (w.phase to) (w.acknowledged to) (process_at m to)
    at_to = at_process m w s to positive within

    receives : (d : ℕ) → 0 < d → (v : Verdict) → judge w to x ≡ v → (a : Answer) → ReceivesAs w key (suc (d - 1)) x v a → ReceivesAs w key d x (judge w to x) a
    receives zero h v e a fits = absurd (omega arith)
    receives (suc d) h v e a fits = rw e fits

    -- the process works on it
    pub started : judge w to x ≡ Next → Puts m.slots slots key (Some (Delivery to x)) None → (serial : ℕ) → serial ≡ m.started + 1
        → Steps m (record m { processes = set m.processes (to - 1) (record (process_at m to) { working = Some x }); slots = slots; started = m.started + 1; calls = calls }) room (Arrive key) (Started serial) w
    started verdict puts serial serial_is =
        let y : TheProcess = record (process_at m to) { working = Some x } in
        let new : TheMachine = record m { processes = set m.processes (to - 1) y; slots = slots; started = m.started + 1; calls = calls } in
        let back : suc (to - 1) ≡ to = omega arith in
        let P : ℕ → Bool → TheProcess → Type 0 = λ p b z. Stood m w (suc p) (w.history (suc p)) (if b then Busy x else w.phase (suc p)) (w.acknowledged (suc p)) z in
        let mode : is_live y.mode ≡ true = is_live-at m to positive live in
        let now : Stood m w to (w.history to) (Busy x) (w.acknowledged to) y =
        record {
          state_is = at_to.state_is;
          gone = at_to.gone;
          senders = at_to.senders;
          flags = at_to.flags;
          acknowledged_is = at_to.acknowledged_is;
          in_order = at_to.in_order;
          phase_is = live-busy (length m.processes) y.mode x mode;
          works = live-works y.mode (Some x) (w.saved to) (w.history to) mode next;
          incarnation_is = at_to.incarnation_is;
          saves = at_to.saves;
        } in
        let there : P (to - 1) true y = rw back now in
        let len = length-set m.processes (to - 1) y in
        arrives m w s room key accepted (Delivery to x) found up new (Started serial) (receives to positive Next verdict (Started serial) (ap Started (serial_is ∙ ap (λ k. k + 1) (sym s.shows.started))))
        (record {
          count = s.shows.count ∙ sym len;
          process = λ p d h. rw len (set-is P m.processes to y positive within there s.shows.process p d h);
          logs = λ p d h k apart back. kept new p d (log-same m to y positive within new refl refl refl p) (s.shows.logs p d (omega (arith, len, h)) (omega (arith, len, k)) apart (not-down p back));
          gates = λ p d h k to_d apart now_up. at-set m to y positive within (λ q b z. q ≤ length m.processes → q ≢ d → is_up (if b then Busy x else w.phase q) ≡ true → Holds d z.outbox.gate (run_of w q) (length (w.history q)) (w.released q d) (sent_by w q d)) (λ a other u. s.shows.gates to d positive a (omega (arith, len, to_d)) other up) (λ q b a other u. s.shows.gates q d b a (omega (arith, len, to_d)) other u) p h (omega (arith, len, k)) apart now_up;
          shut = λ p d h k off. at-set m to y positive within (λ q b z. q ≤ length m.processes → is_up (if b then Busy x else w.phase q) ≡ false → slice_index_or z.outbox.gate.released d 0 ≡ 0) (λ a u. absurd (true≢false u)) (λ q b a u. s.shows.shut q d b a u) p h (omega (arith, len, k)) off;
          feeds = s.shows.feeds;
          shown = s.shows.shown;
          wire = put-wire w m.slots slots key (Some (Delivery to x)) None s.shows.wire puts;
          started = ap (λ k. k + 1) s.shows.started;
          outside = let other : (0 == to) ≡ false = ne_eqb 0 to (λ f. absurd (omega (arith, f, positive))) in rw other s.shows.outside;
        })
        refl
      where
        -- one that isn't down then wasn't down before
        not-down : (p : ℕ) → is_down (if p == to then Busy x else w.phase p) ≡ false → is_down (w.phase p) ≡ false
        not-down p = by_number (p == to) refl
          where
            by_number : (b : Bool) → (p == to) ≡ b → is_down (if b then Busy x else w.phase p) ≡ false → is_down (w.phase p) ≡ false
            by_number true e back = let same : to ≡ p = sym (eqb-true p to e) in up-down (w.phase p) (ap (λ q. is_up (w.phase q)) (sym same) ∙ up)
            by_number false e back = back

        kept : (new : TheMachine) (p d : ℕ) → log_at new p ≡ log_at m p → Keeps (queue_of d (log_at m p)) (w.trims p d) (sent w p d) (w.numbers p d) → Keeps (queue_of d (log_at new p)) (w.trims p d) (sent (begin w key to x) p d) (w.numbers p d)
        kept new p d e k = subst (λ xs. Keeps (queue_of d (log_at new p)) (w.trims p d) xs (w.numbers p d)) (sym (sent-begun p d)) (subst (λ l. Keeps (queue_of d l) (w.trims p d) (sent w p d) (w.numbers p d)) (sym e) k)

        next : IsNextAfter (w.history to) (Some x)
        next = nexted to positive verdict
          where
            nexted : (d : ℕ) → 0 < d → judge w d x ≡ Next → x.ssn ≡ suc (count_of x.sender (w.history d))
            nexted zero h v = absurd (omega arith)
            nexted (suc d) h v = by_ssn (x.ssn == suc (count_of x.sender (w.history (suc d)))) refl (nat_lt (count_of x.sender (w.history (suc d))) x.ssn) v
              where
                by_ssn : (b : Bool) → (x.ssn == suc (count_of x.sender (w.history (suc d)))) ≡ b → (c : Bool) → (if b then Next else (if c then Ahead else Known)) ≡ Next → x.ssn ≡ suc (count_of x.sender (w.history (suc d)))
                by_ssn true e c f = eqb-true x.ssn (suc (count_of x.sender (w.history (suc d)))) e
                by_ssn false e true f = absurd (cc)
                by_ssn false e false f = absurd (cc)

    -- the process tells its number again, under the same key
    pub again : judge w to x ≡ Known → (rsn incarnation : ℕ) → rsn_of (w.history to) x.sender x.ssn ≡ Some rsn → incarnation ≡ (process_at m to).incarnation → key < PACKETS
        → Puts m.slots slots key (Some (Delivery to x)) (Some (Number to x.sender x.ssn rsn incarnation)) → Steps m (record m { slots = slots; calls = calls }) room (Arrive key) (Duplicate key) w
    again verdict rsn incarnation rsn_is incarnation_is low puts =
        let number : number_for w to x (rsn_of (w.history to) x.sender x.ssn) ≡ Some (Number to x.sender x.ssn rsn incarnation) =
        rw rsn_is (ap (λ k. Some (Number to x.sender x.ssn rsn k)) (at_to.incarnation_is ∙ sym incarnation_is)) in
        arrives m w s room key accepted (Delivery to x) found up (record m { slots = slots; calls = calls }) (Duplicate key) (receives to positive Known verdict (Duplicate key) (key, (rw wire-is low, vacated w key), refl))
        (rw number (changed m w s key calls slots (Some (Delivery to x)) (Number to x.sender x.ssn rsn incarnation) puts))
        refl

-- An output that arrives at the outside

module _ (m : TheMachine) (w : World) (s : Stands m w) (room key calls : ℕ) (x : Message) (slots : List (Option Packet)) (accepted : refusal_of w room (Arrive key) ≡ None) (found : slice_index_or m.slots key None ≡ Some (Delivery 0 x)) (puts : Puts m.slots slots key (Some (Delivery 0 x)) None) where
  -- the next output of its sender is shown
  pub shown : judge w 0 x ≡ Next → Steps m (record m { outside = record m.outside { shown = m.outside.shown ++ x ∷ [] }; slots = slots; calls = calls }) room (Arrive key) (Shown x.ssn) w
  shown verdict =
      arrives m w s room key accepted (Delivery 0 x) found (ap is_up s.shows.outside) (record m { outside = record m.outside { shown = m.outside.shown ++ x ∷ [] }; slots = slots; calls = calls }) (Shown x.ssn) (rw verdict refl)
      (record {
        count = s.shows.count;
        process = s.shows.process;
        logs = s.shows.logs;
        gates = s.shows.gates;
        shut = s.shows.shut;
        feeds = s.shows.feeds;
        shown = ap (λ xs. xs ++ x ∷ []) s.shows.shown;
        wire = put-wire w m.slots slots key (Some (Delivery 0 x)) None s.shows.wire puts;
        started = s.shows.started;
        outside = s.shows.outside;
      })
      refl

  -- one that was shown before changes nothing, and is gone
  pub shown_before : judge w 0 x ≡ Known → Steps m (record m { slots = slots; calls = calls }) room (Arrive key) ShownBefore w
  shown_before verdict = arrives m w s room key accepted (Delivery 0 x) found (ap is_up s.shows.outside) _ ShownBefore (rw verdict refl) (dropped m w s key calls slots (Some (Delivery 0 x)) puts) refl
