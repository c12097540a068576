-- The step of a result that is taken in
use Rattle.std.proofs.Common.{◌≡◌, ◌≢◌, ℕ, suc, ◌+◌, ◌-◌, ◌<◌, ◌≤◌, List, [], ◌∷◌, ◌++◌, length, length-append, map, take, set, Bool, true, false, refl, sym, ap, ◌∙◌, subst, arith}
use Rattle.std.specs.Prelude.{◌==◌, nat_lt, nat_le, cond, Option, Some, None, slice_index_or}
use Rattle.std.specs.List.{filter, All}
use Rattle.std.proofs.lemmas.Bool.{false≢true}
use Rattle.std.proofs.lemmas.Bool.Decides.{nat_tests}
use Rattle.std.proofs.lemmas.List.{get_or_append_left, get_or-append_right, length-map, map_push}
use Rattle.std.proofs.lemmas.List.Elements.{filter-append}
use Rattle.std.proofs.lemmas.List.Sums.{sum_by-append}
use Rattle.limits.specs.declared.TheConstants.{PACKETS}
use Rattle.rsn.specs.Receipts.{Received}
use Rattle.sender_log.specs.Log.{queue_of}
use Rattle.send_gate.specs.declared.gate.Held.{Held}
use Rattle.send_gate.specs.Gate.{TheGate, count_to}
use Rattle.replay.specs.Task.{TheTask, TheCompletion, Answers}
use Rattle.world.specs.declared.message.Message.{Message}
use Rattle.world.specs.declared.packet.Packet.{Packet}
use Rattle.world.specs.declared.packet.Packet.TheVariants.{Number}
use Rattle.world.specs.declared.call.Call.TheVariants.{Finish}
use Rattle.world.specs.declared.answer.Answer.TheVariants.{Committed}
use Rattle.world.specs.History.{count_of}
use Rattle.world.specs.Phases.{Up, Busy}
use Rattle.replay.specs.Emission.{emitted_to}
use Rattle.world.specs.World.{World, put}
use Rattle.world.specs.Logs.{sent, run_to, run_of}
use Rattle.theorems.specs.Invariants.Sound.{JobNext}
use Rattle.theorems.proofs.ListLemmas.{take-all, take-push}
use Rattle.theorems.proofs.RunLemmas.{run_to-is, run_to-ends}
use Rattle.session_process.specs.Process.{TheProcess, received, HasSent, Commits}
use Rattle.session_process.specs.Mode.{is_live}
use Rattle.session_process.specs.declared.mode.Mode.{Mode}
use Rattle.session_process.specs.declared.mode.Mode.TheVariants as modes
use Rattle.session_process.specs.Wire.{Puts}
use Rattle.machine.specs.Simulation.{Saves, TheMachine, StandsAt, Keeps, Holds, Shows, Stands, Steps, process_at, log_at, is_up_at, sent_by}
use Rattle.machine.specs.Work.{held_by, phase_of, IsNextAfter}
use Rattle.machine.specs.Fields.{IsLogOf}
use Rattle.machine.specs.Jobs.{Matches}
use Rattle.machine.specs.Arrival.{IsOpen}
use Rattle.machine.proofs.ReceiptLemmas.{InOrderFrom-push}
use Rattle.machine.proofs.Status.{wire-is, at_process, keeps_at, holds_at, up_at, down_at, is_live-at, live-lost, live-busy, live-works, held-live}
use Rattle.machine.proofs.JobLemmas.{opens}
use Rattle.machine.proofs.Steps.{put-wire, step}
use Rattle.machine.proofs.OneProcess.{Same, shows-one}
use Rattle.machine.proofs.Crashes.{self-same}
use Rattle.machine.proofs.Replies.{state_after, sends_after, keeps-given, dest-of, shows-packets}

-- A gate that goes on

-- those up to a position
abbrev upto : ℕ → List Held → List Held
upto k hs = filter (λ (h : Held). nat_le h.rsn k) hs

upto-all : (n k : ℕ) → n ≤ k → (hs : List Held) → All (λ (h : Held). h.rsn ≤ n) hs → upto k hs ≡ hs
upto-all n k l [] all = refl
upto-all n k l (h ∷ hs) all =
    let low : h.rsn ≤ n = all 0 h (omega arith) in
    let e : nat_le h.rsn k ≡ true = grind (arith, nat_tests) in
    rw e (ap (λ gs. h ∷ gs) (upto-all n k l hs (λ j d b. all (suc j) d (omega (arith, b)))))

upto-none : (n k : ℕ) → k < n → (hs : List Held) → All (λ (h : Held). h.rsn ≡ n) hs → upto k hs ≡ []
upto-none n k l [] all = refl
upto-none n k l (h ∷ hs) all =
    let at : h.rsn ≡ n = all 0 h (omega arith) in
    let e : nat_le h.rsn k ≡ false = grind (arith, nat_tests) in
    rw e (upto-none n k l hs (λ j d b. all (suc j) d (omega (arith, b))))

at-most : (n : ℕ) (hs : List Held) → All (λ (h : Held). h.rsn ≡ n) hs → All (λ (h : Held). h.rsn ≤ n) hs
at-most n hs all = λ j d b. omega (arith, all j d b)

count_to-append : (d : ℕ) (xs ys : List Held) → count_to d (xs ++ ys) ≡ count_to d xs + count_to d ys
count_to-append d xs ys = sum_by-append (λ (h : Held). cond (h.dst == d) 1 0) xs ys

-- a gate that holds the sends of one message more, too
pub holds-given : (old new : TheGate) (held : List Held) (d run n released : ℕ) (before after : ℕ → ℕ) → new.waiting ≡ old.waiting ++ held → new.released ≡ old.released
    → All (λ (h : Held). h.rsn ≤ n) old.waiting → All (λ (h : Held). h.rsn ≡ n + 1) held → run ≤ n → ((k : ℕ) → k ≤ n → after k ≡ before k) → after (n + 1) ≡ before n + count_to d held
    → Holds d old run n released before → Holds d new run (n + 1) released after
holds-given old new held d run n released before after waiting_is released_is earlier now on same more h =
    record {
      released_is = ap (λ rs. slice_index_or rs d 0) released_is ∙ h.released_is;
      waits = λ k from to. at_position k from to (nat_le k n) refl;
    }
  where
    parts : (k : ℕ) → count_to d (upto k new.waiting) ≡ count_to d (upto k old.waiting) + count_to d (upto k held)
    parts k = ap (λ hs. count_to d (upto k hs)) waiting_is ∙ ap (count_to d) (filter-append (λ (x : Held). nat_le x.rsn k) old.waiting held) ∙ count_to-append d (upto k old.waiting) (upto k held)

    at_position : (k : ℕ) → run ≤ k → k ≤ n + 1 → (b : Bool) → nat_le k n ≡ b → released + count_to d (upto k new.waiting) ≡ after k
    at_position k from to true e =
        let low : k ≤ n = grind (arith, nat_tests) in
        let none : count_to d (upto k held) ≡ 0 = ap (count_to d) (upto-none (n + 1) k (omega (arith, low)) held now) in
        omega (arith, parts k, none, h.waits k from low, same k low)
    at_position k from to false e =
        let last : k ≡ n + 1 = grind (arith, nat_tests) in
        let all : count_to d (upto k held) ≡ count_to d held = ap (count_to d) (upto-all (n + 1) k (omega (arith, last)) held (at-most (n + 1) held now)) in
        let old_all : count_to d (upto k old.waiting) ≡ count_to d (upto n old.waiting) = ap (count_to d) (upto-all n k (omega (arith, last)) old.waiting earlier ∙ sym (upto-all n n (omega arith) old.waiting earlier)) in
        omega (arith, parts k, all, old_all, h.waits n on (omega arith), more, ap after last)

-- A result

-- one that is up and has no job open
live-idle : (n : ℕ) (t : Mode) → is_live t ≡ true → Up ≡ phase_of n t None
live-idle n modes.Live e = refl
live-idle n modes.Down e = absurd (false≢true e)
live-idle n (modes.Replaying plan alone) e = absurd (false≢true e)
live-idle n (modes.Resync peers) e = absurd (false≢true e)

module _ (m : TheMachine) (w : World) (s : Stands m w) (b : TheCompletion) (k : Matches m b.task) (a : Answers w.handlers b) (y : TheProcess) (c : Commits b (process_at m b.task.who.me) y) (up : is_up_at m b.task.who.me ≡ true) where
  abbrev t : TheTask
  t = b.task

  abbrev me : ℕ
  me = t.who.me

  abbrev x : Message
  x = t.message

  abbrev h : List Message
  h = w.history me

  abbrev hx : List Message
  hx = h ++ x ∷ []

  abbrev was : TheProcess
  was = process_at m me

  -- the job is open in the world
  pub is_open : IsOpen t w
  is_open = opens m t w s k

  at_me : StandsAt (length m.processes) me was (w.handlers.state me) (w.handlers.sends me) h (w.phase me) (w.incarnation me) (w.acknowledged me) (w.saved me) (w.saved_trims me)
  at_me = at_process m w s me k.inside k.within

  live : is_live was.mode ≡ true
  live = is_live-at m me k.inside up

  live_now : is_live y.mode ≡ true
  live_now = ap is_live c.mode ∙ live

  held : held_by was.mode (w.saved me) h ≡ h
  held = held-live was.mode (w.saved me) h live

  held_now : held_by y.mode (w.saved me) hx ≡ hx
  held_now = held-live y.mode (w.saved me) hx live_now

  busy : w.phase me ≡ Busy x
  busy = at_me.phase_is ∙ ap (phase_of (length m.processes) was.mode) k.message ∙ sym (live-busy (length m.processes) was.mode x live)

  state_was : was.state ≡ w.handlers.state me h
  state_was = at_me.state_is (live-lost was.mode live) ∙ ap (w.handlers.state me) held

  state_is : t.state ≡ w.handlers.state me h
  state_is = sym k.state ∙ state_was

  senders_was : was.receipts.senders ≡ map (λ (z : Message). z.sender) h
  senders_was = at_me.senders ∙ ap (map (λ (z : Message). z.sender)) held

  length_now : received was ≡ length h
  length_now = ap length senders_was ∙ length-map h (λ (z : Message). z.sender)

  longer : length hx ≡ length h + 1
  longer = length-append h (x ∷ [])

  -- its number is the next
  pub rsn_is : t.rsn ≡ length h + 1
  rsn_is = sym k.rsn ∙ ap (λ j. j + 1) length_now

  -- not the outside
  apart : (me == 0) ≡ false
  apart = grind (arith, nat_tests, k.inside)

  next_ssn : x.ssn ≡ suc (count_of x.sender h)
  next_ssn = let job : JobNext w.count me h (Busy x) = subst (JobNext w.count me h) busy (s.sound.working me) in job.next

  -- the message isn't acknowledged yet
  fresh : (b : Bool) → w.acknowledged me (suc (length h)) ≡ b → b ≡ false
  fresh true e = absurd (let l : suc (length h) ≤ length h = s.sound.acknowledged me (suc (length h)) e in omega arith)
  fresh false e = refl

  flags_was : length was.receipts.acknowledged ≡ length h
  flags_was = at_me.flags ∙ length_now

  flags_at : (i : ℕ) → i < length hx → (b : Bool) → nat_lt i (length h) ≡ b → slice_index_or (was.receipts.acknowledged ++ false ∷ []) i false ≡ w.acknowledged me (suc i)
  flags_at i l true e =
      let low : i < length h = grind (arith, nat_tests) in
      get_or_append_left was.receipts.acknowledged (false ∷ []) false i (omega (arith, flags_was, low)) ∙ at_me.acknowledged_is i (omega (arith, low, length_now))
  flags_at i l false e =
      let last : i ≡ length h = grind (arith, nat_tests, l, longer) in
      let none : i - length h ≡ 0 = omega (arith, last) in
      get_or-append_right was.receipts.acknowledged (false ∷ []) (length h) i false flags_was (omega (arith, last))
      ∙ ap (λ j. slice_index_or (false ∷ []) j false) none
      ∙ sym (ap (λ j. w.acknowledged me (suc j)) last ∙ fresh (w.acknowledged me (suc (length h))) refl)

  received_now : length y.receipts.senders ≡ length hx
  received_now = ap (λ (r : Received). length r.senders) c.receipts ∙ length-append was.receipts.senders (x.sender ∷ []) ∙ ap (λ j. j + 1) length_now ∙ sym longer

  saves_now : Saves (length m.processes) me y.saved (w.handlers.state me (take (w.saved me) hx)) (take (w.saved me) hx) (w.saved_trims me) (w.handlers.sends me (take (w.saved me) hx))
  saves_now =
      subst (λ l. Saves (length m.processes) me y.saved (w.handlers.state me l) l (w.saved_trims me) (w.handlers.sends me l)) (sym (take-push h (x ∷ []) (w.saved me) (s.sound.saved me)))
      (subst (λ z. Saves (length m.processes) me z (w.handlers.state me (take (w.saved me) h)) (take (w.saved me) h) (w.saved_trims me) (w.handlers.sends me (take (w.saved me) h))) (sym c.saved) at_me.saves)

  stands_after : StandsAt (length m.processes) me y (w.handlers.state me) (w.handlers.sends me) hx Up (w.incarnation me) (w.acknowledged me) (w.saved me) (w.saved_trims me)
  stands_after =
      record {
        state_is = λ e. c.state ∙ sym (state_after w b a h state_is) ∙ sym (ap (w.handlers.state me) held_now);
        gone = λ e. absurd (false≢true (sym (live-lost y.mode live_now) ∙ e));
        senders = ap (λ (r : Received). r.senders) c.receipts ∙ ap (λ xs. xs ++ x.sender ∷ []) senders_was ∙ sym (map_push (λ (z : Message). z.sender) h x) ∙ sym (ap (map (λ (z : Message). z.sender)) held_now);
        flags = ap (λ (r : Received). length r.acknowledged) c.receipts ∙ length-append was.receipts.acknowledged (false ∷ []) ∙ ap (λ j. j + 1) flags_was ∙ sym longer ∙ sym received_now;
        acknowledged_is = λ i l. ap (λ (r : Received). slice_index_or r.acknowledged i false) c.receipts ∙ flags_at i (omega (arith, l, received_now)) (nat_lt i (length h)) refl;
        in_order = InOrderFrom-push (λ _. 0) h x at_me.in_order (omega (arith, next_ssn));
        phase_is = live-idle (length m.processes) y.mode live_now ∙ ap (phase_of (length m.processes) y.mode) (sym c.working);
        works = live-works y.mode y.working (w.saved me) hx live_now (subst (IsNextAfter hx) (sym c.working) tt);
        incarnation_is = at_me.incarnation_is ∙ sym c.incarnation;
        saves = saves_now;
      }

  -- its log
  module _ (d : ℕ) (to : d ≤ length m.processes) (other : me ≢ d) (log_of : IsLogOf (length m.processes) me was.outbox.log) where
    sent_is : sent w me d ≡ w.handlers.sends me h d
    sent_is = rw (apart, busy, take-all h) refl

    log_is : log_at m me ≡ was.outbox.log
    log_is = rw apart refl

    kept : Keeps (queue_of d was.outbox.log) (w.trims me d) (w.handlers.sends me h d) (w.numbers me d)
    kept = subst (λ ps. Keeps (queue_of d was.outbox.log) (w.trims me d) ps (w.numbers me d)) sent_is (subst (λ l. Keeps (queue_of d l) (w.trims me d) (sent w me d) (w.numbers me d)) log_is (keeps_at m w s me d k.within to other (down_at m w s me k.within up)))

    numbers_within : (i j : ℕ) → w.numbers me d i ≡ Some j → i ≤ length (w.handlers.sends me h d)
    numbers_within i j e = let l : i ≤ length (sent w me d) = ((s.tidy me).numbered d i j e).1 in omega (arith, l, ap length sent_is)

    keeps_after : Keeps (queue_of d y.outbox.log) (w.trims me d) (w.handlers.sends me (take (length hx) hx) d) (w.numbers me d)
    keeps_after =
        subst (λ ps. Keeps (queue_of d y.outbox.log) (w.trims me d) ps (w.numbers me d)) (sym (ap (λ l. w.handlers.sends me l d) (take-all hx)))
        (keeps-given w b a h state_is d was.outbox y.outbox c.outbox (dest-of (length m.processes) me d was.outbox log_of to other) kept numbers_within)

    module _ (sent_all : HasSent was) where
      run_same : run_to (w.acknowledged me) (length hx) ≡ run_of w me
      run_same =
          let one : length hx ≡ suc (length h) = omega (arith, longer) in
          ap (run_to (w.acknowledged me)) one ∙ run_to-ends (w.acknowledged me) (length h) (fresh (w.acknowledged me (suc (length h))) refl)

      by_messages : (j : ℕ) → j ≤ length h → length (w.handlers.sends me (take j hx) d) ≡ sent_by w me d j
      by_messages j l = ap (λ l. length (w.handlers.sends me l d)) (take-push h (x ∷ []) j l)

      by_all : length (w.handlers.sends me (take (length h + 1) hx) d) ≡ sent_by w me d (length h) + count_to d c.outbox.held
      by_all =
          let whole : take (length h + 1) hx ≡ hx = ap (λ j. take j hx) (sym longer) ∙ take-all hx in
          let before : take (length h) h ≡ h = take-all h in
          let counted : count_to d c.outbox.held ≡ length (emitted_to d b.effects) = c.outbox.counts d (dest-of (length m.processes) me d was.outbox log_of to other) in
          ap (λ l. length (w.handlers.sends me l d)) whole
          ∙ ap length (sends_after w b a h state_is d)
          ∙ length-append (w.handlers.sends me h d) (emitted_to d b.effects)
          ∙ (λ i. length (w.handlers.sends me (sym before i) d) + sym counted i)

      made_is : was.outbox.made ≡ length h
      made_is = sent_all.made ∙ length_now

      holds_after : Holds d y.outbox.gate (run_to (w.acknowledged me) (length hx)) (length hx) (w.released me d) (λ j. length (w.handlers.sends me (take j hx) d))
      holds_after =
          let earlier : All (λ (z : Held). z.rsn ≤ length h) was.outbox.gate.waiting = subst (λ n. All (λ (z : Held). z.rsn ≤ n) was.outbox.gate.waiting) length_now sent_all.waiting in
          let now : All (λ (z : Held). z.rsn ≡ length h + 1) c.outbox.held = subst (λ n. All (λ (z : Held). z.rsn ≡ n + 1) c.outbox.held) made_is c.outbox.position in
          rw (run_same, longer) (holds-given was.outbox.gate y.outbox.gate c.outbox.held d (run_of w me) (length h) (w.released me d) (sent_by w me d) (λ j. length (w.handlers.sends me (take j hx) d)) c.outbox.waiting c.outbox.released earlier now (run_to-is (w.acknowledged me) (length h)).0 by_messages by_all (holds_at m w s me d k.inside k.within to other (up_at m w s me k.within up)))

  -- the step
  module _ (log_of : IsLogOf (length m.processes) me was.outbox.log) (sent_all : HasSent was) (key calls : ℕ) (slots : List (Option Packet)) (low : key < PACKETS) (puts : Puts m.slots slots key None (Some (Number me x.sender x.ssn t.rsn t.incarnation))) where
    abbrev next : TheMachine
    next = record m { processes = set m.processes (me - 1) y; slots = slots; calls = calls }

    others : (q : ℕ) → (q == me) ≡ false → Same w (put w.history me hx) (put w.phase me Up) w.saved w.saved_trims w.acknowledged w.released w.incarnation w.trims w.numbers q
    others q e = record { history_is = rw e refl; phase_is = rw e refl; saved_is = refl; saved_trims_is = refl; acknowledged_is = refl; released_is = refl; incarnation_is = refl; trims_is = refl; numbers_is = refl }

    longer_at : put w.history me hx me ≡ hx
    longer_at = rw (self-same me) refl

    abbrev between : World
    between = record w { history = put w.history me hx; phase = put w.phase me Up }

    shows_between : Shows (record m { processes = set m.processes (me - 1) y; calls = calls }) between
    shows_between =
        shows-one m w s.shows me k.inside k.within y m.started calls w.started s.shows.started (put w.history me hx) (put w.phase me Up) w.saved w.saved_trims w.acknowledged w.released w.incarnation w.trims w.numbers others
        (rw (self-same me) stands_after)
        (λ d to other back. rw (self-same me, apart) (keeps_after d to other log_of))
        (λ d to other running. subst (λ l. Holds d y.outbox.gate (run_to (w.acknowledged me) (length l)) (length l) (w.released me d) (λ j. length (w.handlers.sends me (take j l) d))) (sym longer_at) (holds_after d to other log_of sent_all))
        (λ d down. let e = rw (self-same me) at down in absurd (false≢true (sym e)))

    number : Some (Number me x.sender x.ssn (length h + 1) (w.incarnation me)) ≡ Some (Number me x.sender x.ssn t.rsn t.incarnation)
    number = λ i. Some (Number me x.sender x.ssn (sym rsn_is i) (sym is_open.incarnation i))

    shows_after : Shows next (record between { wire = put w.wire key (Some (Number me x.sender x.ssn (length h + 1) (w.incarnation me))) })
    shows_after =
        shows-packets (record m { processes = set m.processes (me - 1) y; calls = calls }) between shows_between slots (put w.wire key (Some (Number me x.sender x.ssn (length h + 1) (w.incarnation me))))
        (λ j. ap (λ n. put w.wire key n j) number ∙ put-wire w m.slots slots key None (Some (Number me x.sender x.ssn t.rsn t.incarnation)) s.shows.wire puts j)

    -- a result that is taken in is a step
    pub committed : Steps m next 0 (Finish me) (Committed t.rsn key) w
    committed =
        step m next 0 (Finish me) (Committed t.rsn key) w s (rw (is_open.inside, busy) refl) (rw busy (key, ((rw wire-is low), s.shows.wire key ∙ puts.before), ap (λ r. Committed r key) rsn_is))
        (rw busy shows_after)
        refl
