-- The steps of inputs, and of what is put on the wire or taken from it without arriving
use Rattle.std.proofs.Common.{◌≡◌, ◌≢◌, ℕ, suc, ◌+◌, ◌<◌, ◌≤◌, List, [], ◌∷◌, ◌++◌, length, length-append, Bool, true, false, refl, sym, ap, ◌∙◌, subst, arith}
use Rattle.std.specs.Prelude.{if◌then◌else◌, ◌==◌, ◌||◌, Option, Some, None, slice_index_or}
use Rattle.std.proofs.lemmas.Bool.Decides.{nat_tests}
use Rattle.std.proofs.lemmas.List.{get_or-set_same, get_or-set_other, length-set}
use Rattle.limits.specs.declared.TheConstants.{ENTRIES, PACKETS}
use Rattle.sender_log.specs.Queue.{no_queue, is_logged, payload_of, appended}
use Rattle.sender_log.specs.Log.{TheLog, queue_of, with_queue}
use Rattle.world.specs.declared.packet.Packet.{Packet}
use Rattle.world.specs.declared.packet.Packet.TheVariants.{Delivery}
use Rattle.world.specs.declared.call.Call.TheVariants.{Input, Transmit, Copy, Lose}
use Rattle.world.specs.declared.answer.Answer.TheVariants.{Logged, Placed, Lost}
use Rattle.world.specs.History.{Payload, nth}
use Rattle.world.specs.Phases.{is_down}
use Rattle.world.specs.World.{World, put}
use Rattle.world.specs.Logs.{sent}
use Rattle.world.specs.Plan.{message_of}
use Rattle.world.specs.Calls.{input, delivery}
use Rattle.world.specs.Refusals.{refusal_of}
use Rattle.session_process.specs.Outside.{TheOutside, is_taken, Takes}
use Rattle.session_process.specs.Wire.{Puts}
use Rattle.machine.specs.Fields.{IsSound}
use Rattle.machine.specs.declared.machine.Machine.TheInside.{Inside}
use Rattle.machine.specs.Simulation.{TheMachine, Keeps, Shows, Stands, Steps, log_at, is_up_at}
use Rattle.machine.proofs.Status.{wire-is, down_at, payload_at, last_at}
use Rattle.machine.proofs.Steps.{put-wire, shows-wire, step}
use Rattle.machine.proofs.Preservation.{later}
use Rattle.machine.proofs.KeepLemmas.{keeps-extended}
use Rattle.machine.proofs.Arrivals.{dropped}

-- An input

module _ (m : TheMachine) (w : World) (s : Stands m w) (room d feed calls n : ℕ) (x : Payload) (o : TheOutside) (accepted : refusal_of w room (Input d feed x) ≡ None) (positive : 0 < d) (within : d ≤ length m.processes) (width : length m.outside.log.queues ≡ suc (length m.processes)) (log : o.log ≡ with_queue d (appended x (queue_of d m.outside.log)) m.outside.log) (takes : Takes feed m.outside o) (shown : o.shown ≡ m.outside.shown) where
  abbrev pub new : TheMachine
  new = record m { outside = o; calls = calls }

  apart : 0 ≢ d
  apart = λ e. absurd (omega (arith, e))

  awake : is_down (w.phase 0) ≡ false
  awake = ap is_down s.shows.outside

  keeps_outside : (q : ℕ) (b : Bool) → (q == d) ≡ b → q ≤ length m.processes → 0 ≢ q → Keeps (queue_of q o.log) (w.trims 0 q) (if b then w.inputs d ++ x ∷ [] else w.inputs q) (w.numbers 0 q)
  keeps_outside q true e to other =
      let same : d ≡ q = grind (arith, nat_tests) in
      let at : queue_of d o.log ≡ appended x (queue_of d m.outside.log) = ap (queue_of d) log ∙ get_or-set_same m.outside.log.queues d (appended x (queue_of d m.outside.log)) no_queue (omega (arith, width)) in
      let there : Keeps (queue_of d o.log) (w.trims 0 d) (w.inputs d ++ x ∷ []) (w.numbers 0 d) = rw at (keeps-extended (queue_of d m.outside.log) (w.trims 0 d) (w.inputs d) (x ∷ []) (w.numbers 0 d) (λ i k t. ((s.tidy 0).numbered d i k t).1) (s.shows.logs 0 d (omega arith) within apart awake)) in
      subst (λ j. Keeps (queue_of j o.log) (w.trims 0 j) (w.inputs d ++ x ∷ []) (w.numbers 0 j)) same there
  keeps_outside q false e to other =
      let at : queue_of q o.log ≡ queue_of q m.outside.log = ap (queue_of q) log ∙ get_or-set_other m.outside.log.queues d q (appended x (queue_of d m.outside.log)) no_queue (grind (arith, nat_tests)) in
      rw at (s.shows.logs 0 q (omega arith) to other awake)

  keeps : (p q : ℕ) (b : Bool) → (p == 0) ≡ b → p ≤ length m.processes → q ≤ length m.processes → p ≢ q → is_down (w.phase p) ≡ false → Keeps (queue_of q (log_at new p)) (w.trims p q) (sent (input w d feed x) p q) (w.numbers p q)
  keeps p q true e from to other back =
      let outside : 0 ≡ p = grind (arith, nat_tests) in
      subst (λ j. Keeps (queue_of q (log_at new j)) (w.trims j q) (sent (input w d feed x) j q) (w.numbers j q)) outside (keeps_outside q (q == d) refl to (λ same. other (sym outside ∙ same)))
  keeps p q false e from to other back = let k = s.shows.logs p q from to other back in rw e (rw e at k)

  fed : (k : ℕ) (b : Bool) → (k == feed) ≡ b → (if b then true else w.feeds k) ≡ (b || is_taken k m.outside)
  fed k true e = refl
  fed k false e = s.shows.feeds k

  pub logged : n ≡ (queue_of d m.outside.log).first + length (queue_of d m.outside.log).payloads → Steps m new room (Input d feed x) (Logged n) w
  logged n_is =
      step m new room (Input d feed x) (Logged n) w s accepted (ap Logged (n_is ∙ last_at m w s 0 d (omega arith) within apart awake))
      (record {
        count = s.shows.count;
        process = s.shows.process;
        logs = λ p q. keeps p q (p == 0) refl;
        gates = s.shows.gates;
        shut = s.shows.shut;
        feeds = λ k. fed k (k == feed) refl ∙ sym (takes k);
        shown = s.shows.shown ∙ sym shown;
        wire = s.shows.wire;
        started = s.shows.started;
        outside = s.shows.outside;
      })
      refl

-- the outside's log has one input more
pub sound-input : (m : Inside) (o : TheOutside) (d : ℕ) (x : Payload) → IsSound m → m.calls < ENTRIES + 1 → d ≤ length m.processes.items → o.log ≡ with_queue d (appended x (queue_of d m.outside.log)) m.outside.log → o.shown ≡ m.outside.shown
    → IsSound (record m { outside = o; calls = m.calls + 1 })
sound-input m o d x i calls within log shown =
    record {
      some = i.some;
      few = i.few;
      lengths = i.lengths;
      processes = λ p e t h. later (length m.processes.items) _ _ m.calls _ (i.processes p e t h);
      outside = record { owner = ap (λ (l : TheLog). l.owner) log ∙ i.outside.owner; width = ap (λ (l : TheLog). length l.queues) log ∙ length-set m.outside.log.queues d (appended x (queue_of d m.outside.log)) ∙ i.outside.width };
      calls = omega (arith, calls);
      started = omega (arith, i.started);
      inputs = λ q. by_number q (q == d) refl;
      shown = let e = ap length shown in omega (arith, e, i.shown);
      wire = i.wire;
      keys = i.keys;
    }
  where
    by_number : (q : ℕ) (b : Bool) → (q == d) ≡ b → (queue_of q o.log).first + length (queue_of q o.log).payloads ≤ m.calls + 1 + 1
    by_number q true e =
        let same : q ≡ d = grind (arith, nat_tests) in
        let at : queue_of q o.log ≡ appended x (queue_of d m.outside.log) = ap (λ (l : TheLog). queue_of q l) log ∙ ap (λ j. queue_of j (with_queue d (appended x (queue_of d m.outside.log)) m.outside.log)) same ∙ get_or-set_same m.outside.log.queues d (appended x (queue_of d m.outside.log)) no_queue (let w = i.outside.width in omega (arith, w, within)) in
        let more = length-append (queue_of d m.outside.log).payloads (x ∷ []) in
        rw at (let f = i.inputs d in omega (arith, f, more))
    by_number q false e =
        let at : queue_of q o.log ≡ queue_of q m.outside.log = ap (λ (l : TheLog). queue_of q l) log ∙ get_or-set_other m.outside.log.queues d q (appended x (queue_of d m.outside.log)) no_queue (grind (arith, nat_tests)) in
        rw at (let f = i.inputs q in omega (arith, f))

-- A packet on the wire

module _ (m : TheMachine) (w : World) (s : Stands m w) (room key calls : ℕ) (slots : List (Option Packet)) (is : Packet) (low : key < PACKETS) (puts : Puts m.slots slots key None (Some is)) where
  vacant : w.wire key ≡ None
  vacant = s.shows.wire key ∙ puts.before

  on_wire : (o : Option Packet) → o ≡ Some is → Shows (record m { slots = slots; calls = calls }) (record w { wire = put w.wire key o })
  on_wire o o_is = shows-wire m w s calls slots (put w.wire key o) (λ j. ap (λ k. put w.wire key k j) o_is ∙ put-wire w m.slots slots key None (Some is) s.shows.wire puts j)

  pub transmitted : (p d i : ℕ) → refusal_of w room (Transmit p d i) ≡ None → p ≤ length m.processes → d ≤ length m.processes → p ≢ d → is_up_at m p ≡ true → is_logged i (queue_of d (log_at m p)) ≡ true
      → is ≡ Delivery d (record { sender = p; ssn = i; payload = payload_of i (queue_of d (log_at m p)) }) → Steps m (record m { slots = slots; calls = calls }) room (Transmit p d i) (Placed key) w
  transmitted p d i accepted within to apart up logged is_is =
      let carries : delivery d (message_of p i (nth (sent w p d) i)) ≡ Some is = rw (payload_at m w s p d within to apart (down_at m w s p within up) i logged) (ap Some (sym is_is)) in
      step m (record m { slots = slots; calls = calls }) room (Transmit p d i) (Placed key) w s accepted (key, (rw wire-is low, vacant), refl) (on_wire _ carries) refl

  pub copied : (from : ℕ) → refusal_of w room (Copy from) ≡ None → slice_index_or m.slots from None ≡ Some is → Steps m (record m { slots = slots; calls = calls }) room (Copy from) (Placed key) w
  copied from accepted found =
      step m (record m { slots = slots; calls = calls }) room (Copy from) (Placed key) w s accepted (key, (rw wire-is low, vacant), refl) (on_wire (w.wire from) (s.shows.wire from ∙ found)) refl

pub lost : (m : TheMachine) (w : World) → Stands m w → (room key calls : ℕ) (slots : List (Option Packet)) (was : Option Packet) → refusal_of w room (Lose key) ≡ None → Puts m.slots slots key was None → Steps m (record m { slots = slots; calls = calls }) room (Lose key) Lost w
lost m w s room key calls slots was accepted puts = step m (record m { slots = slots; calls = calls }) room (Lose key) Lost w s accepted refl (dropped m w s key calls slots was puts) refl
