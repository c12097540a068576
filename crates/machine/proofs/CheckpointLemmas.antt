-- The steps of checkpoints
use Rattle.std.proofs.Common.{◌≡◌, ◌≢◌, ℕ, suc, ◌+◌, ◌-◌, ◌<◌, ◌≤◌, List, length, map, take, set, max, replicate, Bool, true, false, refl, sym, ap, ◌∙◌, subst, arith, true≢false}
use Rattle.std.specs.Prelude.{◌==◌, nat_le, Option, None, slice_index_or}
use Rattle.std.specs.List.{list_all}
use Rattle.std.proofs.lemmas.Bool.Decides.{nat_tests}
use Rattle.std.proofs.lemmas.List.{get_or-map, get_or-replicate, length-map, length-replicate, take_all}
use Rattle.limits.specs.declared.TheConstants.{PROCESSES, STATE_BYTES}
use Rattle.send_gate.specs.Gate.{Releases}
use Rattle.sender_log.specs.Queue.{no_queue}
use Rattle.sender_log.specs.Log.{queue_of}
use Rattle.checkpoint.specs.Saved.{nothing_kept, is_sender, kept_of, saved_of}
use Rattle.world.specs.declared.message.Message.{Message}
use Rattle.world.specs.declared.call.Call.TheVariants.{Checkpoint}
use Rattle.world.specs.declared.answer.Answer.TheVariants.{Saved}
use Rattle.world.specs.Phases.{Phase, Up, Busy, Down, Replaying, Resync, is_up, is_down}
use Rattle.world.specs.World.{World, put}
use Rattle.world.specs.Logs.{length_in, payloads, sent, sent_in_all, run_of, run_to}
use Rattle.world.specs.Refusals.{refusal_of}
use Rattle.theorems.proofs.RunLemmas.{run_to-whole, run_to-is}
use Rattle.session_process.specs.Process.{TheProcess, IsSaved, idle_process}
use Rattle.session_process.specs.Mode.{is_live, is_lost}
use Rattle.session_process.specs.declared.mode.Mode.{Mode}
use Rattle.session_process.specs.declared.mode.Mode.TheVariants as modes
use Rattle.machine.specs.Fields.{view_of, IsSoundAt, IsSound}
use Rattle.machine.specs.Work.{held_by, MayWork}
use Rattle.machine.specs.Simulation.{TheMachine, Stands, StandsAt, Steps, Keeps, Holds, process_at, log_at, gate_at, is_up_at, sent_by}
use Rattle.machine.specs.declared.machine.Machine.TheInside.{Inside}
use Rattle.machine.proofs.Soundness.{sound_at}
use Rattle.machine.proofs.Status.{at_process, keeps_at, holds_at, up_at, down_at, is_live-at, held-live, live-lost}
use Rattle.machine.proofs.Steps.{step}
use Rattle.machine.proofs.Releases.{holds-released}
use Rattle.machine.proofs.OneProcess.{Same, shows-one}
use Rattle.machine.proofs.Crashes.{self-same}

-- how far a process that is up is doesn't depend on its checkpoint
pub length-up : (h : List Message) (saved : ℕ) (phase : Phase) → is_up phase ≡ true → length_in h saved phase ≡ length h
length-up h saved Up e = refl
length-up h saved (Busy m) e = refl
length-up h saved Down e = absurd (true≢false (sym e))
length-up h saved (Replaying j working alone) e = absurd (true≢false (sym e))
length-up h saved (Resync todo) e = absurd (true≢false (sym e))

-- nor does what it works on
work-live : (t : Mode) (o : Option Message) (saved now : ℕ) (h : List Message) → is_live t ≡ true → MayWork t o saved h → MayWork t o now h
work-live modes.Live o saved now h e may = may
work-live modes.Down o saved now h e may = absurd (true≢false (sym e))
work-live (modes.Replaying plan alone) o saved now h e may = absurd (true≢false (sym e))
work-live (modes.Resync peers) o saved now h e may = absurd (true≢false (sym e))

module _ (m : TheMachine) (w : World) (s : Stands m w) (room p calls : ℕ) (y : TheProcess) (positive : 0 < p) (within : p ≤ length m.processes) (few : length m.processes ≤ PROCESSES) (up : is_up_at m p ≡ true) (width : length (process_at m p).outbox.log.queues ≡ suc (length m.processes))
    (saves : IsSaved (saved_of p (length m.processes) (process_at m p).state (process_at m p).receipts (process_at m p).outbox.log) (process_at m p) y) where
  h : List Message
  h = w.history p

  at : StandsAt (length m.processes) p (process_at m p) (w.handlers.state p) (w.handlers.sends p) (w.history p) (w.phase p) (w.incarnation p) (w.acknowledged p) (w.saved p) (w.saved_trims p)
  at = at_process m w s p positive within

  live : is_live (process_at m p).mode ≡ true
  live = is_live-at m p positive up

  running : is_up (w.phase p) ≡ true
  running = up_at m w s p within up

  back : is_down (w.phase p) ≡ false
  back = down_at m w s p within up

  inside : (p == 0) ≡ false
  inside = grind (arith, nat_tests)

  all : (saved : ℕ) → held_by (process_at m p).mode saved (w.history p) ≡ w.history p
  all saved = held-live (process_at m p).mode saved (w.history p) live

  state_is : (process_at m p).state ≡ w.handlers.state p (w.history p)
  state_is = at.state_is (live-lost (process_at m p).mode live) ∙ ap (w.handlers.state p) (all (w.saved p))

  senders_are : (process_at m p).receipts.senders ≡ map (λ (x : Message). x.sender) (w.history p)
  senders_are = at.senders ∙ ap (map (λ (x : Message). x.sender)) (all (w.saved p))

  many : length (process_at m p).receipts.senders ≡ length (w.history p)
  many = ap length senders_are ∙ length-map (w.history p) (λ (x : Message). x.sender)

  every : take (length (w.history p)) (w.history p) ≡ w.history p
  every = take_all (length (w.history p)) (w.history p) (omega arith)

  -- its length is that of its history, whatever its checkpoint
  taken : (saved : ℕ) → take (length_in (w.history p) saved (w.phase p)) (w.history p) ≡ w.history p
  taken saved = rw (length-up (w.history p) saved (w.phase p) running) every

  -- what it sent to d
  sent_is : (saved d : ℕ) → payloads w p (take (length_in (w.history p) saved (w.phase p)) (w.history p)) d ≡ w.handlers.sends p (w.history p) d
  sent_is saved d = rw inside (ap (λ xs. w.handlers.sends p xs d) (taken saved))

  kept : (d : ℕ) → d ≤ length m.processes → p ≢ d → Keeps (queue_of d (process_at m p).outbox.log) (w.trims p d) (w.handlers.sends p (w.history p) d) (w.numbers p d)
  kept d to apart =
      let k : Keeps (queue_of d (log_at m p)) (w.trims p d) (sent w p d) (w.numbers p d) = keeps_at m w s p d within to apart back in
      subst (λ xs. Keeps (queue_of d (process_at m p).outbox.log) (w.trims p d) (w.handlers.sends p xs d) (w.numbers p d)) (taken (w.saved p)) (rw inside at k)

  queue-saved : (d : ℕ) → d ≤ length m.processes → slice_index_or (map kept_of (process_at m p).outbox.log.queues) d nothing_kept ≡ kept_of (queue_of d (process_at m p).outbox.log)
  queue-saved d to = get_or-map kept_of (process_at m p).outbox.log.queues d no_queue nothing_kept (omega (arith, to, width))

  holds : (d : ℕ) → d ≤ length m.processes → p ≢ d → Holds d (gate_at m p) (run_of w p) (length (w.history p)) (w.released p d) (sent_by w p d)
  holds d to apart = holds_at m w s p d positive within to apart running

  whole : run_to (λ k. nat_le k (length (w.history p))) (length (w.history p)) ≡ length (w.history p)
  whole = run_to-whole (λ k. nat_le k (length (w.history p))) (length (w.history p)) (λ k a b. grind (arith, nat_tests))

  -- all is released
  released : (d : ℕ) → d ≤ length m.processes → p ≢ d → Holds d y.outbox.gate (run_to (λ k. nat_le k (length (w.history p))) (length (w.history p))) (length (w.history p)) (sent_in_all w p d) (sent_by w p d)
  released d to apart =
      let n = length (w.history p) in
      let before = holds d to apart in
      let run : run_of w p ≤ n = (run_to-is (w.acknowledged p) n).0 in
      let gate : Releases n (gate_at m p) y.outbox.gate = rw many at saves.releases in
      let now = holds-released (gate_at m p) y.outbox.gate d (run_of w p) n n (w.released p d) (sent_by w p d) (omega (arith, to, few)) run (omega arith) before gate in
      let last : sent_by w p d n ≡ sent_in_all w p d = rw inside (ap (λ xs. length (w.handlers.sends p xs d)) every) in
      let waits = before.waits n run (omega arith) in
      let most : max (w.released p d) (sent_by w p d n) ≡ sent_in_all w p d = omega (arith, waits, last) in
      subst (λ r. Holds d y.outbox.gate r n (sent_in_all w p d) (sent_by w p d)) (sym whole) (subst (λ k. Holds d y.outbox.gate n n k (sent_by w p d)) most now)

  abbrev saved_now : ℕ → ℕ
  saved_now = put w.saved p (length (w.history p))

  abbrev trims_now : ℕ → ℕ → ℕ
  trims_now = put w.saved_trims p (w.trims p)

  abbrev acknowledged_now : ℕ → ℕ → Bool
  acknowledged_now = put w.acknowledged p (λ k. nat_le k (length (w.history p)))

  abbrev released_now : ℕ → ℕ → ℕ
  released_now = put w.released p (sent_in_all w p)

  others : (q : ℕ) → (q == p) ≡ false → Same w w.history w.phase saved_now trims_now acknowledged_now released_now w.incarnation w.trims w.numbers q
  others q e = record { history_is = refl; phase_is = refl; saved_is = rw e refl; saved_trims_is = rw e refl; acknowledged_is = rw e refl; released_is = rw e refl; incarnation_is = refl; trims_is = refl; numbers_is = refl }

  flag : (k : ℕ) → k < length (process_at m p).receipts.senders → slice_index_or (replicate (length (process_at m p).receipts.senders) true) k false ≡ nat_le (suc k) (length (w.history p))
  flag k l =
      let late : nat_le (suc k) (length (w.history p)) ≡ true = grind (arith, nat_tests, many, l) in
      get_or-replicate (length (process_at m p).receipts.senders) k true false l ∙ sym late

  here : StandsAt (length m.processes) p y (w.handlers.state p) (w.handlers.sends p) (w.history p) (w.phase p) (w.incarnation p) (acknowledged_now p) (saved_now p) (trims_now p)
  here = rw (self-same p, saves.others) (record {
    state_is = λ e. state_is ∙ sym (ap (w.handlers.state p) (all (length (w.history p))));
    gone = λ e. absurd (true≢false (sym e ∙ live-lost (process_at m p).mode live));
    senders = senders_are ∙ sym (ap (map (λ (x : Message). x.sender)) (all (length (w.history p))));
    flags = length-replicate {A = Bool} (length (process_at m p).receipts.senders) true;
    acknowledged_is = flag;
    in_order = at.in_order;
    phase_is = at.phase_is;
    works = work-live (process_at m p).mode (process_at m p).working (w.saved p) (length (w.history p)) (w.history p) live at.works;
    incarnation_is = at.incarnation_is;
    saves = rw every (record {
      state_is = state_is;
      senders_are = senders_are;
      first = λ d to apart. let k = kept d to (λ e. apart (sym e)) in rw (queue-saved d to) k.first;
      rest = λ d to apart. let k = kept d to (λ e. apart (sym e)) in rw (queue-saved d to) k.rest;
    });
  })

  -- a checkpoint is a step
  pub checkpoint-step : refusal_of w room (Checkpoint p) ≡ None → Steps m (record m { processes = set m.processes (p - 1) y; calls = calls }) room (Checkpoint p) (Saved (length (process_at m p).receipts.senders)) w
  checkpoint-step accepted =
      step m (record m { processes = set m.processes (p - 1) y; calls = calls }) room (Checkpoint p) (Saved (length (process_at m p).receipts.senders)) w s accepted (ap Saved many)
      (shows-one m w s.shows p positive within y m.started calls w.started s.shows.started w.history w.phase saved_now trims_now acknowledged_now released_now w.incarnation w.trims w.numbers others
      here
      (λ d to apart back. rw (self-same p, saves.others) (subst (λ xs. Keeps (queue_of d (process_at m p).outbox.log) (w.trims p d) xs (w.numbers p d)) (sym (sent_is (length (w.history p)) d)) (kept d to apart)))
      (λ d to apart up. rw (self-same p) (released d to apart))
      (λ d down. absurd (true≢false (sym running ∙ down))))
      refl

-- a process that was saved is sound
pub saved-sound : (n me len calls : ℕ) (was y : TheProcess) → IsSaved (saved_of me n was.state was.receipts was.outbox.log) was y → is_live was.mode ≡ true → IsSoundAt n me len calls was → IsSoundAt n me len (calls + 1) y
saved-sound n me len calls was y a up s =
    rw a.others (record {
      short = s.short;
      state = s.state;
      log = s.log;
      senders = s.senders;
      whole = λ e. absurd (true≢false (sym up ∙ e));
      planned = s.planned;
      begun_by = let b = s.begun_by in omega (arith, b);
      incarnation = omega (arith, s.incarnation);
      own = refl;
      count = refl;
      saved_state = s.state (live-lost was.mode up);
      saved_by = let b = s.begun_by in omega (arith, b);
    })

-- what a snapshot of a process says that it may take
pub record Fits (p count : ℕ) (x : TheProcess) : Type 0 where
  pub state : length x.state ≤ STATE_BYTES
  pub senders : list_all (is_sender p count) x.receipts.senders ≡ true
  pub owner : x.outbox.log.owner ≡ p
  pub queues : length x.outbox.log.queues ≡ count + 1

-- a process that is up fits a snapshot
pub snapshot-fits : (i : Inside) → IsSound i → (m : TheMachine) → view_of i ≡ m → (p : ℕ) → 0 < p → p ≤ length m.processes → is_up_at m p ≡ true → (x : TheProcess) → x ≡ process_at m p → (count : ℕ) → count ≡ length m.processes → Fits p count x
snapshot-fits i s m view_is p positive within up x x_is count count_is =
    let inside : p ≤ length i.processes.items = subst (λ (v : TheMachine). p ≤ length v.processes) (sym view_is) within in
    let sound = sound_at i s p (idle_process 0 0 0) 0 positive inside in
    let at : x ≡ process_at (view_of i) p = x_is ∙ ap (λ (v : TheMachine). process_at v p) (sym view_is) in
    let many : count ≡ length i.processes.items = count_is ∙ ap (λ (v : TheMachine). length v.processes) (sym view_is) in
    let live : is_up_at (view_of i) p ≡ true = subst (λ (v : TheMachine). is_up_at v p ≡ true) (sym view_is) up in
    let back : is_lost (process_at (view_of i) p).mode ≡ false = live-lost _ (is_live-at (view_of i) p positive live) in
    rw (at, many) (record { state = omega (arith, sound.state back, sound.short); senders = sound.senders; owner = sound.log.owner; queues = omega (arith, sound.log.width) })
