-- The step of a result that is replayed
use Rattle.std.proofs.Common.{◌≡◌, ◌≢◌, ℕ, suc, ◌+◌, ◌-◌, ◌<◌, ◌≤◌, List, [], ◌∷◌, ◌++◌, length, length-append, take, set, Bool, true, false, refl, sym, ap, ◌∙◌, subst, arith}
use Rattle.std.specs.Prelude.{◌==◌, nat_lt, Some, None, slice_get, slice_index_or}
use Rattle.std.proofs.lemmas.Bool.{false≢true}
use Rattle.std.proofs.lemmas.Bool.Decides.{nat_tests}
use Rattle.std.proofs.lemmas.List.{get_or_append_left, get_or-set_same, get_or-set_other, length-map, length-set, map_push}
use Rattle.rsn.specs.Receipts.{Received}
use Rattle.sender_log.specs.Log.{queue_of}
use Rattle.replay.specs.Plan.{ThePlan}
use Rattle.replay.specs.Task.{TheTask, TheCompletion, Answers}
use Rattle.world.specs.declared.message.Message.{Message}
use Rattle.world.specs.declared.call.Call.TheVariants.{Finish}
use Rattle.world.specs.declared.answer.Answer.TheVariants.{Replayed}
use Rattle.world.specs.Phases.{Replaying, is_up, is_down}
use Rattle.world.specs.World.{World, put}
use Rattle.world.specs.Logs.{sent}
use Rattle.world.specs.Calls.{peers as peers_of, ready}
use Rattle.world.specs.Refusals.{refusal_of}
use Rattle.theorems.specs.Invariants.Sound.{is_recovering}
use Rattle.theorems.proofs.ListLemmas.{take-all, take-length, take-next}
use Rattle.theorems.proofs.RunLemmas.{run_to-whole}
use Rattle.session_process.specs.Process.{TheProcess, received, advanced, Recalls}
use Rattle.session_process.specs.Mode.{is_lost}
use Rattle.session_process.specs.declared.mode.Mode.TheVariants as modes
use Rattle.machine.specs.Simulation.{Saves, TheMachine, StandsAt, Keeps, Shows, Stands, Steps, process_at, log_at, is_up_at}
use Rattle.machine.specs.Work.{held_by, phase_of, MayWork, Replays}
use Rattle.machine.specs.Fields.{IsLogOf}
use Rattle.machine.specs.Recoveries.{SettlesAt}
use Rattle.machine.specs.Jobs.{Matches}
use Rattle.machine.specs.Arrival.{IsOpen}
use Rattle.machine.proofs.ReceiptLemmas.{senders}
use Rattle.machine.proofs.Status.{at_process, keeps_at}
use Rattle.machine.proofs.JobLemmas.{opens, slice_get-behind}
use Rattle.machine.proofs.Steps.{step}
use Rattle.machine.proofs.OneProcess.{Same, shows-one}
use Rattle.machine.proofs.Crashes.{self-same}
use Rattle.machine.proofs.Replies.{state_after, keeps-given, dest-of}
use Rattle.machine.proofs.Others.{life, others, together, replaced, now_at, but-replaced, but-world, shows-calls, up-but, ShowsBut}
use Rattle.machine.proofs.Settlement.{IsCaughtUp, peers-are, peers-within, settled}

module _ (m : TheMachine) (w : World) (s : Stands m w) (b : TheCompletion) (k : Matches m b.task) (a : Answers w.handlers b) (y : TheProcess) (c : Recalls b (process_at m b.task.who.me) y)
    (plan : ThePlan) (alone : Bool) (mode_is : (process_at m b.task.who.me).mode ≡ modes.Replaying plan alone) (log_of : IsLogOf (length m.processes) b.task.who.me (process_at m b.task.who.me).outbox.log) where
  abbrev t : TheTask
  t = b.task

  abbrev n : ℕ
  n = length m.processes

  abbrev me : ℕ
  me = t.who.me

  abbrev x : Message
  x = t.message

  abbrev h : List Message
  h = w.history me

  abbrev was : TheProcess
  was = process_at m me

  abbrev then : ThePlan
  then = record plan { replayed = plan.replayed + 1 }

  -- the job is open in the world
  pub open_now : IsOpen t w
  open_now = opens m t w s k

  at_me : StandsAt n me was (w.handlers.state me) (w.handlers.sends me) h (w.phase me) (w.incarnation me) (w.acknowledged me) (w.saved me) (w.saved_trims me)
  at_me = at_process m w s me k.inside k.within

  -- its message is the next of the plan
  pub works : Replays plan (Some x) (w.saved me) h
  works = subst (λ z. MayWork z (Some x) (w.saved me) h) mode_is (subst (λ o. MayWork was.mode o (w.saved me) h) k.message at_me.works)

  phase_was : w.phase me ≡ Replaying plan.replayed true alone
  phase_was = at_me.phase_is ∙ (λ i. phase_of n (mode_is i) (k.message i))

  -- not the outside
  apart : (me == 0) ≡ false
  apart = grind (arith, nat_tests, k.inside)

  -- what it has again, and the next message of its history
  abbrev count : ℕ
  count = w.saved me + plan.replayed

  abbrev g : List Message
  g = take count h

  abbrev gx : List Message
  gx = g ++ x ∷ []

  covered : length (take (w.saved me) h) ≡ w.saved me
  covered = take-length h (w.saved me) (s.sound.saved me)

  whole : length h ≡ w.saved me + length plan.messages
  whole = ap length (sym works.messages) ∙ length-append (take (w.saved me) h) plan.messages ∙ ap (λ j. j + length plan.messages) covered

  more : count < length h
  more = omega (arith, whole, works.left)

  next_is : slice_get h count ≡ Some x
  next_is =
      ap (λ j. slice_get h (j + plan.replayed)) (sym covered)
      ∙ ap (λ xs. slice_get xs (length (take (w.saved me) h) + plan.replayed)) (sym works.messages)
      ∙ slice_get-behind (take (w.saved me) h) plan.messages plan.replayed
      ∙ works.next

  gx_suc : take (w.saved me + suc plan.replayed) h ≡ gx
  gx_suc = let at : w.saved me + suc plan.replayed ≡ suc count = omega arith in ap (λ j. take j h) at ∙ take-next h count x next_is

  gx_is : take (w.saved me + (plan.replayed + 1)) h ≡ gx
  gx_is = let at : w.saved me + (plan.replayed + 1) ≡ suc count = omega arith in ap (λ j. take j h) at ∙ take-next h count x next_is

  state_was : was.state ≡ w.handlers.state me g
  state_was = at_me.state_is (ap is_lost mode_is) ∙ ap (λ z. w.handlers.state me (held_by z (w.saved me) h)) mode_is

  state_is : t.state ≡ w.handlers.state me g
  state_is = sym k.state ∙ state_was

  senders_was : was.receipts.senders ≡ senders g
  senders_was = at_me.senders ∙ ap (λ z. senders (held_by z (w.saved me) h)) mode_is

  received_was : received was ≡ count
  received_was = ap length senders_was ∙ length-map g (λ (z : Message). z.sender) ∙ take-length h count (omega (arith, more))

  flags_was : length was.receipts.acknowledged ≡ count
  flags_was = at_me.flags ∙ received_was

  rsn_is : t.rsn ≡ count + 1
  rsn_is = sym k.rsn ∙ ap (λ j. j + 1) received_was

  recovering : (j : ℕ) → 0 < j → j ≤ length h → w.acknowledged me j ≡ true
  recovering = s.sound.recovering me (ap is_recovering phase_was)

  -- and what it has then
  mode_now : y.mode ≡ modes.Replaying then alone
  mode_now = c.mode ∙ ap advanced mode_is

  state_now : y.state ≡ w.handlers.state me gx
  state_now = c.state ∙ sym (state_after w b a g state_is)

  senders_now : y.receipts.senders ≡ senders gx
  senders_now = ap (λ (r : Received). r.senders) c.receipts ∙ ap (λ xs. xs ++ x.sender ∷ []) senders_was ∙ sym (map_push (λ (z : Message). z.sender) g x)

  received_now : length y.receipts.senders ≡ count + 1
  received_now = ap (λ (r : Received). length r.senders) c.receipts ∙ length-append was.receipts.senders (x.sender ∷ []) ∙ ap (λ j. j + 1) received_was

  abbrev flags : List Bool
  flags = was.receipts.acknowledged ++ false ∷ []

  flags_count : length flags ≡ count + 1
  flags_count = length-append was.receipts.acknowledged (false ∷ []) ∙ ap (λ j. j + 1) flags_was

  flags_are : y.receipts.acknowledged ≡ set flags (received was + 1 - 1) true
  flags_are = ap (λ (r : Received). r.acknowledged) c.receipts

  flags_now : length y.receipts.acknowledged ≡ length y.receipts.senders
  flags_now = ap length flags_are ∙ length-set flags (received was + 1 - 1) true ∙ flags_count ∙ sym received_now

  flag : (j : ℕ) → j < count + 1 → (b : Bool) → (j == count) ≡ b → slice_index_or (set flags (received was + 1 - 1) true) j false ≡ true
  flag j l true e =
      let same : j ≡ received was + 1 - 1 = grind (arith, nat_tests, received_was) in
      ap (λ i. slice_index_or (set flags (received was + 1 - 1) true) i false) same ∙ get_or-set_same flags (received was + 1 - 1) true false (omega (arith, flags_count, received_was))
  flag j l false e =
      let other : j ≢ count = grind (arith, nat_tests) in
      let low : j < count = omega (arith, l, other) in
      get_or-set_other flags (received was + 1 - 1) j true false (λ same. other (omega (arith, same, received_was)))
      ∙ get_or_append_left was.receipts.acknowledged (false ∷ []) false j (omega (arith, flags_was, low))
      ∙ at_me.acknowledged_is j (omega (arith, received_was, low))
      ∙ recovering (suc j) (omega arith) (omega (arith, low, more))

  acknowledged_now : (j : ℕ) → j < length y.receipts.senders → slice_index_or y.receipts.acknowledged j false ≡ w.acknowledged me (suc j)
  acknowledged_now j l =
      ap (λ bs. slice_index_or bs j false) flags_are
      ∙ flag j (omega (arith, l, received_now)) (j == count) refl
      ∙ sym (recovering (suc j) (omega arith) (omega (arith, l, received_now, more)))

  saves_now : Saves n me y.saved (w.handlers.state me (take (w.saved me) h)) (take (w.saved me) h) (w.saved_trims me) (w.handlers.sends me (take (w.saved me) h))
  saves_now = subst (λ z. Saves n me z (w.handlers.state me (take (w.saved me) h)) (take (w.saved me) h) (w.saved_trims me) (w.handlers.sends me (take (w.saved me) h))) (sym c.saved) at_me.saves

  log_now : IsLogOf n me y.outbox.log
  log_now = record { owner = c.outbox.owner ∙ log_of.owner; width = c.outbox.width ∙ log_of.width }

  module _ (d : ℕ) (to : d ≤ n) (other : me ≢ d) where
    sent_is : sent w me d ≡ w.handlers.sends me g d
    sent_is = rw (apart, phase_was) refl

    log_is : log_at m me ≡ was.outbox.log
    log_is = rw apart refl

    kept : Keeps (queue_of d was.outbox.log) (w.trims me d) (w.handlers.sends me g d) (w.numbers me d)
    kept = subst (λ ps. Keeps (queue_of d was.outbox.log) (w.trims me d) ps (w.numbers me d)) sent_is (subst (λ l. Keeps (queue_of d l) (w.trims me d) (sent w me d) (w.numbers me d)) log_is (keeps_at m w s me d k.within to other (ap is_down phase_was)))

    numbers_within : (i j : ℕ) → w.numbers me d i ≡ Some j → i ≤ length (w.handlers.sends me g d)
    numbers_within i j e = let l : i ≤ length (sent w me d) = ((s.tidy me).numbered d i j e).1 in omega (arith, l, ap length sent_is)

    keeps_now : Keeps (queue_of d y.outbox.log) (w.trims me d) (w.handlers.sends me gx d) (w.numbers me d)
    keeps_now = keeps-given w b a g state_is d was.outbox y.outbox c.outbox (dest-of n me d was.outbox log_of to other) kept numbers_within

  shut_now : (d : ℕ) → slice_index_or y.outbox.gate.released d 0 ≡ 0
  shut_now d = ap (λ rs. slice_index_or rs d 0) c.outbox.released ∙ s.shows.shut me d k.inside k.within (ap is_up phase_was)

  accepted : refusal_of w 0 (Finish me) ≡ None
  accepted = rw (open_now.inside, phase_was) refl

  -- something is left to replay
  module _ (left : plan.replayed + 1 < length plan.messages) (calls : ℕ) where
    goes_on : nat_lt (w.saved me + suc plan.replayed) (length h) ≡ true
    goes_on = grind (arith, nat_tests, whole, left)

    held_now : held_by y.mode (w.saved me) h ≡ gx
    held_now = ap (λ z. held_by z (w.saved me) h) mode_now ∙ gx_is

    works_now : Replays then None (w.saved me) h
    works_now = record { before = works.before; messages = works.messages; left = left; next = tt }

    phase_now : Replaying (suc plan.replayed) false alone ≡ phase_of n y.mode y.working
    phase_now = let one : suc plan.replayed ≡ plan.replayed + 1 = omega arith in ap (λ j. Replaying j false alone) one ∙ sym (λ i. phase_of n (mode_now i) (c.working i))

    here : StandsAt n me y (w.handlers.state me) (w.handlers.sends me) h (Replaying (suc plan.replayed) false alone) (w.incarnation me) (w.acknowledged me) (w.saved me) (w.saved_trims me)
    here =
        record {
          state_is = λ e. state_now ∙ sym (ap (w.handlers.state me) held_now);
          gone = λ e. absurd (false≢true (sym (ap is_lost mode_now) ∙ e));
          senders = senders_now ∙ sym (ap senders held_now);
          flags = flags_now;
          acknowledged_is = acknowledged_now;
          in_order = at_me.in_order;
          phase_is = phase_now;
          works = subst (λ z. MayWork z y.working (w.saved me) h) (sym mode_now) (subst (λ o. Replays then o (w.saved me) h) (sym c.working) works_now);
          incarnation_is = at_me.incarnation_is ∙ sym c.incarnation;
          saves = saves_now;
        }

    same : (q : ℕ) → (q == me) ≡ false → Same w w.history (put w.phase me (Replaying (suc plan.replayed) false alone)) w.saved w.saved_trims w.acknowledged w.released w.incarnation w.trims w.numbers q
    same q e = record { history_is = refl; phase_is = rw e refl; saved_is = refl; saved_trims_is = refl; acknowledged_is = refl; released_is = refl; incarnation_is = refl; trims_is = refl; numbers_is = refl }

    shows_after : Shows (record m { processes = set m.processes (me - 1) y; calls = calls }) (record w { phase = put w.phase me (Replaying (suc plan.replayed) false alone) })
    shows_after =
        shows-one m w s.shows me k.inside k.within y m.started calls w.started s.shows.started w.history (put w.phase me (Replaying (suc plan.replayed) false alone)) w.saved w.saved_trims w.acknowledged w.released w.incarnation w.trims w.numbers same
        (rw (self-same me) here)
        (λ d to other back. rw (self-same me, apart, gx_suc) (keeps_now d to other))
        (λ d to other up. let e = rw (self-same me) at up in absurd (false≢true e))
        (λ d down. shut_now d)

    -- the result of a replayed message is a step, where more is left to replay
    pub goes-on : Steps m (record m { processes = set m.processes (me - 1) y; calls = calls }) 0 (Finish me) (Replayed t.rsn) w
    goes-on =
        step m (record m { processes = set m.processes (me - 1) y; calls = calls }) 0 (Finish me) (Replayed t.rsn) w s accepted (rw phase_was (ap Replayed rsn_is))
        (rw (phase_was, goes_on) shows_after)
        refl

  -- nothing is
  module _ (last : plan.replayed + 1 ≡ length plan.messages) (calls : ℕ) where
    ends : nat_lt (w.saved me + suc plan.replayed) (length h) ≡ false
    ends = grind (arith, nat_tests, whole, last)

    all : gx ≡ h
    all = let at : w.saved me + suc plan.replayed ≡ length h = omega (arith, whole, last) in sym gx_suc ∙ ap (λ j. take j h) at ∙ take-all h

    caught-up : IsCaughtUp w n me y (life w me)
    caught-up =
        record {
          state = state_now ∙ ap (w.handlers.state me) all;
          senders_are = senders_now ∙ ap senders all;
          flags = flags_now;
          acknowledged_is = acknowledged_now;
          in_order = at_me.in_order;
          idle = c.working;
          incarnation_is = at_me.incarnation_is ∙ sym c.incarnation;
          saves = saves_now;
          log_of = log_now;
          logs = λ d to other. subst (λ l. Keeps (queue_of d y.outbox.log) (w.trims me d) (w.handlers.sends me l d) (w.numbers me d)) all (keeps_now d to other);
          shut = shut_now;
          run = run_to-whole (w.acknowledged me) (length h) recovering;
        }

    abbrev now : TheMachine
    now = replaced m me y k.inside k.within

    others_now : ShowsBut n me now w
    others_now = but-replaced m me y k.inside k.within n w (others m w me s.shows)

    within_now : me ≤ length now.processes
    within_now = let to_now = ShowsBut.width others_now in omega (arith, to_now, k.within)

    done : IsCaughtUp w n me (process_at now me) (life w me)
    done = subst (λ z. IsCaughtUp w n me z (life w me)) (sym (now_at m me y k.inside k.within)) caught-up

    ups : (q : ℕ) → 0 < q → q ≤ n → q ≢ me → is_up_at now q ≡ is_up (w.phase q)
    ups q positive within other = up-but n me now w others_now q positive within other

    -- and so is that of the last one, after which the process restores its numbers, or is up
    pub settles : (new : TheMachine) → SettlesAt me alone now new → Steps m (record new { calls = calls }) 0 (Finish me) (Replayed t.rsn) w
    settles new e =
        let todo = peers_of w me alone in
        let after = replaced now me e.process k.inside within_now in
        let at_me_now = settled n me now w (process_at now me) e.process e.peers todo k.inside within_now done e.settles (peers-are n me now w alone e.peers e.are (ShowsBut.width others_now) s.shows.count ups) (peers-within n me now w alone e.peers e.are (ShowsBut.width others_now) s.shows.count ups) in
        let but : ShowsBut n me after (ready w me todo) =
        but-replaced now me e.process k.inside within_now n (ready w me todo)
        (but-world me k.inside now w (ready w me todo) refl (λ q other. let far : (q == me) ≡ false = grind (arith, nat_tests) in rw far refl) n others_now) in
        let shows : Shows after (ready w me todo) = together n after (ready w me todo) me k.inside k.within but at_me_now in
        subst (λ (v : TheMachine). Steps m (record v { calls = calls }) 0 (Finish me) (Replayed t.rsn) w) (sym e.becomes)
        (step m (record after { calls = calls }) 0 (Finish me) (Replayed t.rsn) w s accepted (rw phase_was (ap Replayed rsn_is)) (rw (phase_was, ends) (shows-calls after (ready w me todo) calls shows)) refl)
