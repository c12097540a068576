-- What a machine shows of one process and of all others
use Rattle.std.proofs.Common.{◌≡◌, ◌≢◌, ℕ, suc, ◌-◌, ◌<◌, ◌≤◌, List, length, take, Bool, true, false, refl, sym, ap, ◌∙◌, subst, arith, set}
use Rattle.std.specs.Prelude.{◌==◌, if◌then◌else◌, Option, None, slice_index_or}
use Rattle.std.proofs.lemmas.Bool.Decides.{nat_tests}
use Rattle.std.proofs.lemmas.List.{get_or_default, get_or-set_same, get_or-set_other, length-set}
use Rattle.sender_log.specs.Log.{queue_of}
use Rattle.world.specs.declared.message.Message.{Message}
use Rattle.world.specs.declared.packet.Packet.{Packet}
use Rattle.world.specs.Phases.{Phase, Up, is_up, is_down}
use Rattle.world.specs.World.{World}
use Rattle.world.specs.Logs.{length_in, sent, run_of, run_to}
use Rattle.session_process.specs.Process.{TheProcess, idle_process}
use Rattle.session_process.specs.Outside.{is_taken}
use Rattle.machine.specs.Simulation.{TheMachine, StandsAt, Keeps, Holds, Shows, process_at, log_at, gate_at, is_up_at, sent_by}
use Rattle.machine.proofs.Status.{is_up-phase_of}

-- what a world has of one number
pub record TheLife : Type 0 where
  pub history : List Message
  pub phase : Phase
  pub saved : ℕ
  pub saved_trims : ℕ → ℕ
  pub acknowledged : ℕ → Bool
  pub released : ℕ → ℕ
  pub incarnation : ℕ
  pub trims : ℕ → ℕ
  pub numbers : ℕ → ℕ → Option ℕ

-- what the world has of p
abbrev pub life : World → ℕ → TheLife
life w p =
    record {
      history = w.history p;
      phase = w.phase p;
      saved = w.saved p;
      saved_trims = w.saved_trims p;
      acknowledged = w.acknowledged p;
      released = w.released p;
      incarnation = w.incarnation p;
      trims = w.trims p;
      numbers = w.numbers p;
    }

-- a process stands for this life
abbrev pub StandsFor : World → ℕ → ℕ → TheProcess → TheLife → Type 0
StandsFor w n p x a = StandsAt n p x (w.handlers.state p) (w.handlers.sends p) a.history a.phase a.incarnation a.acknowledged a.saved a.saved_trims

-- its log keeps what it sent to d by then
abbrev pub KeepsFor : World → TheMachine → ℕ → ℕ → TheLife → Type 0
KeepsFor w m p d a = Keeps (queue_of d (log_at m p)) (a.trims d) (if p == 0 then w.inputs d else w.handlers.sends p (take (length_in a.history a.saved a.phase) a.history) d) (a.numbers d)

-- its gate holds of that what isn't released
abbrev pub HoldsFor : World → TheMachine → ℕ → ℕ → TheLife → Type 0
HoldsFor w m p d a = Holds d (gate_at m p) (run_to a.acknowledged (length a.history)) (length a.history) (a.released d) (λ k. length (w.handlers.sends p (take k a.history) d))

-- a machine of n processes shows this life of p
pub record ShowsAt (n p : ℕ) (m : TheMachine) (w : World) (a : TheLife) : Type 0 where
  pub process : StandsFor w n p (process_at m p) a
  pub logs : (d : ℕ) → d ≤ n → p ≢ d → is_down a.phase ≡ false → KeepsFor w m p d a
  pub gates : (d : ℕ) → d ≤ n → p ≢ d → is_up a.phase ≡ true → HoldsFor w m p d a
  pub shut : (d : ℕ) → is_up a.phase ≡ false → slice_index_or (gate_at m p).released d 0 ≡ 0

-- it shows all of the world but what it has of p
pub record ShowsBut (n p : ℕ) (m : TheMachine) (w : World) : Type 0 where
  pub width : length m.processes ≡ n
  pub count : w.count ≡ n
  pub process : (q : ℕ) (d : TheProcess) → q < n → suc q ≢ p → StandsFor w n (suc q) (slice_index_or m.processes q d) (life w (suc q))
  pub logs : (q d : ℕ) → q ≢ p → q ≤ n → d ≤ n → q ≢ d → is_down (w.phase q) ≡ false → KeepsFor w m q d (life w q)
  pub gates : (q d : ℕ) → q ≢ p → 0 < q → q ≤ n → d ≤ n → q ≢ d → is_up (w.phase q) ≡ true → HoldsFor w m q d (life w q)
  pub shut : (q d : ℕ) → q ≢ p → 0 < q → q ≤ n → is_up (w.phase q) ≡ false → slice_index_or (gate_at m q).released d 0 ≡ 0
  pub feeds : (k : ℕ) → w.feeds k ≡ is_taken k m.outside
  pub shown : w.shown ≡ m.outside.shown
  pub wire : (key : ℕ) → w.wire key ≡ slice_index_or m.slots key None
  pub started : w.started ≡ m.started
  pub outside : w.phase 0 ≡ Up

-- of a machine that shows all, the others
pub others : (m : TheMachine) (w : World) (p : ℕ) → Shows m w → ShowsBut (length m.processes) p m w
others m w p s =
    record {
      width = refl;
      count = s.count;
      process = λ q d h other. s.process q d h;
      logs = λ q d other within to apart back. s.logs q d within to apart back;
      gates = λ q d other inside within to apart up. s.gates q d inside within to apart up;
      shut = λ q d other inside within down. s.shut q d inside within down;
      feeds = s.feeds;
      shown = s.shown;
      wire = s.wire;
      started = s.started;
      outside = s.outside;
    }

-- p and all others are the whole
module _ (m : TheMachine) (w : World) (p : ℕ) (inside : 0 < p) (within : p ≤ length m.processes) (b : ShowsBut (length m.processes) p m w) (a : ShowsAt (length m.processes) p m w (life w p)) where
  all_processes : (q : ℕ) (d : TheProcess) → q < length m.processes → (e : Bool) → (suc q == p) ≡ e → StandsFor w (length m.processes) (suc q) (slice_index_or m.processes q d) (life w (suc q))
  all_processes q d h true e =
      let same : p ≡ suc q = grind (arith, nat_tests) in
      let before : p - 1 ≡ q = omega arith in
      let at : process_at m p ≡ slice_index_or m.processes q d = ap (λ i. slice_index_or m.processes i (idle_process 0 0 0)) before ∙ get_or_default m.processes q (idle_process 0 0 0) d h in
      subst (λ x. StandsFor w (length m.processes) (suc q) x (life w (suc q))) at (subst (λ i. StandsFor w (length m.processes) i (process_at m p) (life w i)) same a.process)
  all_processes q d h false e = b.process q d h (grind (arith, nat_tests))

  all_logs : (q d : ℕ) → q ≤ length m.processes → d ≤ length m.processes → q ≢ d → is_down (w.phase q) ≡ false → (e : Bool) → (q == p) ≡ e → KeepsFor w m q d (life w q)
  all_logs q d from to apart back true e =
      let same : p ≡ q = grind (arith, nat_tests) in
      subst (λ i. KeepsFor w m i d (life w i)) same (a.logs d to (λ f. apart (sym same ∙ f)) (ap (λ i. is_down (w.phase i)) same ∙ back))
  all_logs q d from to apart back false e = b.logs q d (grind (arith, nat_tests)) from to apart back

  all_gates : (q d : ℕ) → 0 < q → q ≤ length m.processes → d ≤ length m.processes → q ≢ d → is_up (w.phase q) ≡ true → (e : Bool) → (q == p) ≡ e → HoldsFor w m q d (life w q)
  all_gates q d positive from to apart up true e =
      let same : p ≡ q = grind (arith, nat_tests) in
      subst (λ i. HoldsFor w m i d (life w i)) same (a.gates d to (λ f. apart (sym same ∙ f)) (ap (λ i. is_up (w.phase i)) same ∙ up))
  all_gates q d positive from to apart up false e = b.gates q d (grind (arith, nat_tests)) positive from to apart up

  all_shut : (q d : ℕ) → 0 < q → q ≤ length m.processes → is_up (w.phase q) ≡ false → (e : Bool) → (q == p) ≡ e → slice_index_or (gate_at m q).released d 0 ≡ 0
  all_shut q d positive from down true e =
      let same : p ≡ q = grind (arith, nat_tests) in
      subst (λ i. slice_index_or (gate_at m i).released d 0 ≡ 0) same (a.shut d (ap (λ i. is_up (w.phase i)) same ∙ down))
  all_shut q d positive from down false e = b.shut q d (grind (arith, nat_tests)) positive from down

  whole : Shows m w
  whole =
      record {
        count = b.count;
        process = λ q d h. all_processes q d h (suc q == p) refl;
        logs = λ q d from to apart back. all_logs q d from to apart back (q == p) refl;
        gates = λ q d positive from to apart up. all_gates q d positive from to apart up (q == p) refl;
        shut = λ q d positive from down. all_shut q d positive from down (q == p) refl;
        feeds = b.feeds;
        shown = b.shown;
        wire = b.wire;
        started = b.started;
        outside = b.outside;
      }

-- a machine that shows what a world has of p, and all else, shows the world
pub together : (n : ℕ) (m : TheMachine) (w : World) (p : ℕ) → 0 < p → p ≤ n → ShowsBut n p m w → ShowsAt n p m w (life w p) → Shows m w
together n m w p inside within b a =
    whole m w p inside (omega (arith, b.width)) (subst (λ k. ShowsBut k p m w) (sym b.width) b) (subst (λ k. ShowsAt k p m w (life w p)) (sym b.width) a)

-- p changes in the machine
module _ (m : TheMachine) (p : ℕ) (y : TheProcess) (inside : 0 < p) (within : p ≤ length m.processes) where
  abbrev pub replaced : TheMachine
  replaced = record m { processes = set m.processes (p - 1) y }

  -- there are as many processes
  pub same_width : length replaced.processes ≡ length m.processes
  same_width = length-set m.processes (p - 1) y

  -- p is the new one, and the others are as they were, with their logs
  pub now_at : process_at replaced p ≡ y
  now_at = get_or-set_same m.processes (p - 1) y (idle_process 0 0 0) (omega arith)

  pub others_at : (q : ℕ) → 0 < q → q ≢ p → process_at replaced q ≡ process_at m q
  others_at q positive other = get_or-set_other m.processes (p - 1) (q - 1) y (idle_process 0 0 0) (λ e. other (omega (arith, e, positive, inside)))

  pub log_other : (q : ℕ) → q ≢ p → log_at replaced q ≡ log_at m q
  log_other q other = by_number (q == 0) refl
    where
      by_number : (b : Bool) → (q == 0) ≡ b → (if b then m.outside.log else (process_at replaced q).outbox.log) ≡ (if b then m.outside.log else (process_at m q).outbox.log)
      by_number true e = refl
      by_number false e = ap (λ (z : TheProcess). z.outbox.log) (others_at q (grind (arith, nat_tests)) other)

  -- p's log is that of the new one
  pub log_now : log_at replaced p ≡ y.outbox.log
  log_now = let apart : (p == 0) ≡ false = grind (arith, nat_tests) in rw apart (ap (λ (z : TheProcess). z.outbox.log) now_at)

  -- what was shown of the others still is
  pub but-replaced : (n : ℕ) (w : World) → ShowsBut n p m w → ShowsBut n p replaced w
  but-replaced n w b =
      record {
        width = same_width ∙ b.width;
        count = b.count;
        process = λ q d h other. subst (λ x. StandsFor w n (suc q) x (life w (suc q))) (sym (get_or-set_other m.processes (p - 1) q y d (λ e. other (omega (arith, e, inside))))) (b.process q d h other);
        logs = λ q d other from to apart back. subst (λ l. Keeps (queue_of d l) (w.trims q d) (sent w q d) (w.numbers q d)) (sym (log_other q other)) (b.logs q d other from to apart back);
        gates = λ q d other positive from to apart up. subst (λ (x : TheProcess). Holds d x.outbox.gate (run_of w q) (length (w.history q)) (w.released q d) (sent_by w q d)) (sym (others_at q positive other)) (b.gates q d other positive from to apart up);
        shut = λ q d other positive from down. subst (λ (x : TheProcess). slice_index_or x.outbox.gate.released d 0 ≡ 0) (sym (others_at q positive other)) (b.shut q d other positive from down);
        feeds = b.feeds;
        shown = b.shown;
        wire = b.wire;
        started = b.started;
        outside = b.outside;
      }

-- the world changes in what it has of p
module _ (p : ℕ) (inside : 0 < p) (m : TheMachine) (w v : World)
    (rest : v ≡ record w { history = v.history; phase = v.phase; saved = v.saved; saved_trims = v.saved_trims; acknowledged = v.acknowledged; released = v.released; incarnation = v.incarnation; trims = v.trims; numbers = v.numbers })
    (same : (q : ℕ) → q ≢ p → life v q ≡ life w q) where
  abbrev u : World
  u = record w { history = v.history; phase = v.phase; saved = v.saved; saved_trims = v.saved_trims; acknowledged = v.acknowledged; released = v.released; incarnation = v.incarnation; trims = v.trims; numbers = v.numbers }

  -- what is shown of the others is that of the new world too
  pub but-world : (n : ℕ) → ShowsBut n p m w → ShowsBut n p m v
  but-world n b =
      subst (ShowsBut n p m) (sym rest) (record {
        width = b.width;
        count = b.count;
        process = λ q d h other. subst (StandsFor w n (suc q) (slice_index_or m.processes q d)) (sym (same (suc q) other)) (b.process q d h other);
        logs = λ q d other from to apart back. subst (KeepsFor w m q d) (sym (same q other)) (b.logs q d other from to apart (ap (λ (a : TheLife). is_down a.phase) (sym (same q other)) ∙ back));
        gates = λ q d other positive from to apart up. subst (HoldsFor w m q d) (sym (same q other)) (b.gates q d other positive from to apart (ap (λ (a : TheLife). is_up a.phase) (sym (same q other)) ∙ up));
        shut = λ q d other positive from down. b.shut q d other positive from (ap (λ (a : TheLife). is_up a.phase) (sym (same q other)) ∙ down);
        feeds = b.feeds;
        shown = b.shown;
        wire = b.wire;
        started = b.started;
        outside = ap (λ (a : TheLife). a.phase) (same 0 (λ e. absurd (omega (arith, e, inside)))) ∙ b.outside;
      })

-- a machine with other packets and calls shows the world with these packets: calls aren't shown
pub shows-with : (m : TheMachine) (w : World) → Shows m w → (calls : ℕ) (slots : List (Option Packet)) (wire : ℕ → Option Packet) → ((j : ℕ) → wire j ≡ slice_index_or slots j None) → Shows (record m { slots = slots; calls = calls }) (record w { wire = wire })
shows-with m w s calls slots wire wire_is =
    record {
      count = s.count;
      process = s.process;
      logs = s.logs;
      gates = s.gates;
      shut = s.shut;
      feeds = s.feeds;
      shown = s.shown;
      wire = wire_is;
      started = s.started;
      outside = s.outside;
    }

-- with other calls alone
pub shows-calls : (m : TheMachine) (w : World) (calls : ℕ) → Shows m w → Shows (record m { calls = calls }) w
shows-calls m w calls s = shows-with m w s calls m.slots w.wire s.wire

-- which of the others are up
pub up-but : (n p : ℕ) (m : TheMachine) (w : World) → ShowsBut n p m w → (q : ℕ) → 0 < q → q ≤ n → q ≢ p → is_up_at m q ≡ is_up (w.phase q)
up-but n p m w b q positive within other =
    let apart : (q == 0) ≡ false = grind (arith, nat_tests) in
    let back : suc (q - 1) ≡ q = omega arith in
    let at = subst (λ i. StandsFor w n i (process_at m q) (life w i)) back (b.process (q - 1) (idle_process 0 0 0) (omega arith) (λ e. other (sym back ∙ e))) in
    rw apart (sym (is_up-phase_of n (process_at m q).mode (process_at m q).working) ∙ ap is_up (sym at.phase_is))
