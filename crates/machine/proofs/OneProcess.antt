-- A machine and a world of which one process has changed
use Rattle.std.proofs.Common.{◌≡◌, ◌≢◌, ℕ, suc, ◌-◌, ◌<◌, ◌≤◌, List, length, take, set, Bool, true, false, refl, sym, ap, ◌∙◌, subst, arith}
use Rattle.std.specs.Prelude.{◌==◌, Option, slice_index_or}
use Rattle.std.proofs.lemmas.Bool.Decides.{nat_tests}
use Rattle.std.proofs.lemmas.List.{get_or-set_same, get_or-set_other, length-set}
use Rattle.sender_log.specs.Log.{queue_of}
use Rattle.world.specs.declared.message.Message.{Message}
use Rattle.world.specs.Phases.{Phase, is_up, is_down}
use Rattle.world.specs.World.{World}
use Rattle.world.specs.Logs.{length_in, payloads, sent, run_of, run_to}
use Rattle.session_process.specs.Process.{TheProcess, idle_process}
use Rattle.machine.specs.Simulation.{TheMachine, StandsAt, Keeps, Holds, Shows, process_at, log_at, gate_at, sent_by}

-- the changed process, and the others
module _ (m : TheMachine) (p : ℕ) (y : TheProcess) (positive : 0 < p) (within : p ≤ length m.processes) where
  pub changed-at : slice_index_or (set m.processes (p - 1) y) (p - 1) (idle_process 0 0 0) ≡ y
  changed-at = get_or-set_same m.processes (p - 1) y (idle_process 0 0 0) (omega (arith, positive, within))

  pub unchanged-at : (q : ℕ) → 0 < q → (q == p) ≡ false → slice_index_or (set m.processes (p - 1) y) (q - 1) (idle_process 0 0 0) ≡ process_at m q
  unchanged-at q inside e = get_or-set_other m.processes (p - 1) (q - 1) y (idle_process 0 0 0) (let apart : q ≢ p = grind (arith, nat_tests) in λ same. apart (omega (arith, same, inside, positive)))

-- the worlds say the same of q
pub record Same (w : World) (history : ℕ → List Message) (phase : ℕ → Phase) (saved : ℕ → ℕ) (saved_trims : ℕ → ℕ → ℕ) (acknowledged : ℕ → ℕ → Bool) (released : ℕ → ℕ → ℕ) (incarnation : ℕ → ℕ) (trims : ℕ → ℕ → ℕ) (numbers : ℕ → ℕ → ℕ → Option ℕ) (q : ℕ) : Type 0 where
  pub history_is : history q ≡ w.history q
  pub phase_is : phase q ≡ w.phase q
  pub saved_is : saved q ≡ w.saved q
  pub saved_trims_is : saved_trims q ≡ w.saved_trims q
  pub acknowledged_is : acknowledged q ≡ w.acknowledged q
  pub released_is : released q ≡ w.released q
  pub incarnation_is : incarnation q ≡ w.incarnation q
  pub trims_is : trims q ≡ w.trims q
  pub numbers_is : numbers q ≡ w.numbers q

module _ (m : TheMachine) (w : World) (shows : Shows m w) (p : ℕ) (positive : 0 < p) (within : p ≤ length m.processes) (y : TheProcess) (started calls w_started : ℕ) (started_is : w_started ≡ started)
    (history : ℕ → List Message) (phase : ℕ → Phase) (saved : ℕ → ℕ) (saved_trims : ℕ → ℕ → ℕ) (acknowledged : ℕ → ℕ → Bool) (released : ℕ → ℕ → ℕ) (incarnation : ℕ → ℕ) (trims : ℕ → ℕ → ℕ) (numbers : ℕ → ℕ → ℕ → Option ℕ)
    (others : (q : ℕ) → (q == p) ≡ false → Same w history phase saved saved_trims acknowledged released incarnation trims numbers q) where
  -- the machine in which p has become y
  abbrev pub changed : TheMachine
  changed = record m { processes = set m.processes (p - 1) y; started = started; calls = calls }

  -- and the world with these parts
  abbrev pub changed_world : World
  changed_world = record w { history = history; phase = phase; saved = saved; saved_trims = saved_trims; acknowledged = acknowledged; released = released; incarnation = incarnation; trims = trims; numbers = numbers; started = w_started }

  size : length (set m.processes (p - 1) y) ≡ length m.processes
  size = length-set m.processes (p - 1) y

  outside-other : (0 == p) ≡ false
  outside-other = grind (arith, nat_tests)

  -- what is kept of the changed process
  abbrev Here : Type 0
  Here = StandsAt (length m.processes) p y (w.handlers.state p) (w.handlers.sends p) (history p) (phase p) (incarnation p) (acknowledged p) (saved p) (saved_trims p)

  abbrev KeepsHere : Type 0
  KeepsHere = (d : ℕ) → d ≤ length m.processes → p ≢ d → is_down (phase p) ≡ false → Keeps (queue_of d y.outbox.log) (trims p d) (sent changed_world p d) (numbers p d)

  abbrev HoldsHere : Type 0
  HoldsHere = (d : ℕ) → d ≤ length m.processes → p ≢ d → is_up (phase p) ≡ true → Holds d y.outbox.gate (run_of changed_world p) (length (history p)) (released p d) (sent_by changed_world p d)

  abbrev ShutHere : Type 0
  ShutHere = (d : ℕ) → is_up (phase p) ≡ false → slice_index_or y.outbox.gate.released d 0 ≡ 0

  processes_stand : Here → (q : ℕ) (d : TheProcess) → q < length (set m.processes (p - 1) y) → StandsAt (length m.processes) (suc q) (slice_index_or (set m.processes (p - 1) y) q d) (w.handlers.state (suc q)) (w.handlers.sends (suc q)) (history (suc q)) (phase (suc q)) (incarnation (suc q)) (acknowledged (suc q)) (saved (suc q)) (saved_trims (suc q))
  processes_stand here q d h = by_place (suc q == p) refl
    where
      by_place : (b : Bool) → (suc q == p) ≡ b → StandsAt (length m.processes) (suc q) (slice_index_or (set m.processes (p - 1) y) q d) (w.handlers.state (suc q)) (w.handlers.sends (suc q)) (history (suc q)) (phase (suc q)) (incarnation (suc q)) (acknowledged (suc q)) (saved (suc q)) (saved_trims (suc q))
      by_place true e =
          let same : p ≡ suc q = grind (arith, nat_tests) in
          let place : p - 1 ≡ q = omega (arith, same) in
          let at : slice_index_or (set m.processes (p - 1) y) q d ≡ y = ap (λ j. slice_index_or (set m.processes (p - 1) y) j d) (sym place) ∙ get_or-set_same m.processes (p - 1) y d (omega (arith, positive, within)) in
          rw at (subst (λ j. StandsAt (length m.processes) j y (w.handlers.state j) (w.handlers.sends j) (history j) (phase j) (incarnation j) (acknowledged j) (saved j) (saved_trims j)) same here)
      by_place false e =
          let o = others (suc q) e in
          let apart : suc q ≢ p = grind (arith, nat_tests) in
          let at : slice_index_or (set m.processes (p - 1) y) q d ≡ slice_index_or m.processes q d = get_or-set_other m.processes (p - 1) q y d (λ same. apart (omega (arith, same, positive))) in
          rw (at, o.history_is, o.phase_is, o.incarnation_is, o.acknowledged_is, o.saved_is, o.saved_trims_is) (shows.process q d (omega (arith, h, size)))

  sent-other : (q d : ℕ) → (q == p) ≡ false → sent changed_world q d ≡ sent w q d
  sent-other q d e =
      let o = others q e in
      λ i. payloads w q (take (length_in (o.history_is i) (o.saved_is i) (o.phase_is i)) (o.history_is i)) d

  log-other : (q : ℕ) → (q == p) ≡ false → log_at changed q ≡ log_at m q
  log-other q e = by_outside (q == 0) refl
    where
      by_outside : (b : Bool) → (q == 0) ≡ b → log_at changed q ≡ log_at m q
      by_outside true z = rw z refl
      by_outside false z = rw z (ap (λ (x : TheProcess). x.outbox.log) (unchanged-at m p y positive within q (grind (arith, nat_tests)) e))

  log-here : log_at changed p ≡ y.outbox.log
  log-here =
      let inside : (p == 0) ≡ false = grind (arith, nat_tests) in
      rw inside (ap (λ (x : TheProcess). x.outbox.log) (changed-at m p y positive within))

  logs_keep : KeepsHere → (q d : ℕ) → q ≤ length m.processes → d ≤ length m.processes → q ≢ d → is_down (phase q) ≡ false → Keeps (queue_of d (log_at changed q)) (trims q d) (sent changed_world q d) (numbers q d)
  logs_keep here q d from to apart back = by_place (q == p) refl
    where
      by_place : (b : Bool) → (q == p) ≡ b → Keeps (queue_of d (log_at changed q)) (trims q d) (sent changed_world q d) (numbers q d)
      by_place true e =
          let same : p ≡ q = grind (arith, nat_tests) in
          subst (λ j. Keeps (queue_of d (log_at changed j)) (trims j d) (sent changed_world j d) (numbers j d)) same
          (rw log-here (here d to (λ z. apart (sym same ∙ z)) (ap (λ j. is_down (phase j)) same ∙ back)))
      by_place false e =
          let o = others q e in
          rw (log-other q e, sent-other q d e, o.trims_is, o.numbers_is) (shows.logs q d from to apart (ap is_down (sym o.phase_is) ∙ back))

  gates_hold : HoldsHere → (q d : ℕ) → 0 < q → q ≤ length m.processes → d ≤ length m.processes → q ≢ d → is_up (phase q) ≡ true → Holds d (gate_at changed q) (run_of changed_world q) (length (history q)) (released q d) (sent_by changed_world q d)
  gates_hold here q d inside from to apart up = by_place (q == p) refl
    where
      by_place : (b : Bool) → (q == p) ≡ b → Holds d (gate_at changed q) (run_of changed_world q) (length (history q)) (released q d) (sent_by changed_world q d)
      by_place true e =
          let same : p ≡ q = grind (arith, nat_tests) in
          let gate : gate_at changed p ≡ y.outbox.gate = ap (λ (x : TheProcess). x.outbox.gate) (changed-at m p y positive within) in
          subst (λ j. Holds d (gate_at changed j) (run_of changed_world j) (length (history j)) (released j d) (sent_by changed_world j d)) same
          (rw gate (here d to (λ z. apart (sym same ∙ z)) (ap (λ j. is_up (phase j)) same ∙ up)))
      by_place false e =
          let o = others q e in
          let gate : gate_at changed q ≡ gate_at m q = ap (λ (x : TheProcess). x.outbox.gate) (unchanged-at m p y positive within q inside e) in
          let was : Holds d (gate_at m q) (run_of w q) (length (w.history q)) (w.released q d) (sent_by w q d) = shows.gates q d inside from to apart (ap is_up (sym o.phase_is) ∙ up) in
          let released_too : Holds d (gate_at m q) (run_of w q) (length (w.history q)) (released q d) (sent_by w q d) = subst (λ (f : ℕ → ℕ). Holds d (gate_at m q) (run_of w q) (length (w.history q)) (f d) (sent_by w q d)) (sym o.released_is) was in
          let acknowledged_too : Holds d (gate_at m q) (run_to (acknowledged q) (length (w.history q))) (length (w.history q)) (released q d) (sent_by w q d) = subst (λ (f : ℕ → Bool). Holds d (gate_at m q) (run_to f (length (w.history q))) (length (w.history q)) (released q d) (sent_by w q d)) (sym o.acknowledged_is) released_too in
          rw gate (subst (λ (h : List Message). Holds d (gate_at m q) (run_to (acknowledged q) (length h)) (length h) (released q d) (λ k. length (w.handlers.sends q (take k h) d))) (sym o.history_is) acknowledged_too)

  gates_shut : ShutHere → (q d : ℕ) → 0 < q → q ≤ length m.processes → is_up (phase q) ≡ false → slice_index_or (gate_at changed q).released d 0 ≡ 0
  gates_shut here q d inside from down = by_place (q == p) refl
    where
      by_place : (b : Bool) → (q == p) ≡ b → slice_index_or (gate_at changed q).released d 0 ≡ 0
      by_place true e =
          let same : p ≡ q = grind (arith, nat_tests) in
          subst (λ j. slice_index_or (gate_at changed j).released d 0 ≡ 0) same
          (ap (λ (x : TheProcess). slice_index_or x.outbox.gate.released d 0) (changed-at m p y positive within) ∙ here d (ap (λ j. is_up (phase j)) same ∙ down))
      by_place false e =
          let o = others q e in
          ap (λ (x : TheProcess). slice_index_or x.outbox.gate.released d 0) (unchanged-at m p y positive within q inside e) ∙ shows.shut q d inside from (ap is_up (sym o.phase_is) ∙ down)

  -- the new machine shows the new world
  pub shows-one : Here → KeepsHere → HoldsHere → ShutHere → Shows changed changed_world
  shows-one here keeps holds shut =
      record {
        count = shows.count ∙ sym size;
        process = λ q d h. rw size (processes_stand here q d h);
        logs = λ q d from to. logs_keep keeps q d (omega (arith, from, size)) (omega (arith, to, size));
        gates = λ q d inside from to. gates_hold holds q d inside (omega (arith, from, size)) (omega (arith, to, size));
        shut = λ q d inside from. gates_shut shut q d inside (omega (arith, from, size));
        feeds = shows.feeds;
        shown = shows.shown;
        wire = shows.wire;
        started = started_is;
        outside = (others 0 outside-other).phase_is ∙ shows.outside;
      }
