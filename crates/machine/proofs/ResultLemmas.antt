-- What the fields say of a result that is taken in, and what they keep
use Rattle.std.proofs.Common.{◌≡◌, ◌≢◌, ℕ, ◌+◌, ◌-◌, ◌<◌, ◌≤◌, List, [], ◌∷◌, ◌++◌, length, length-append, map, Bool, true, false, refl, sym, ap, ◌∙◌, subst, arith, set}
use Rattle.std.specs.Prelude.{◌==◌, nat_le, Option, Some, None, is_some, slice_index_or}
use Rattle.std.specs.List.{list_all}
use Rattle.std.proofs.lemmas.Bool.{false≢true}
use Rattle.std.proofs.lemmas.Bool.Decides.{nat_tests}
use Rattle.std.specs.Vec.{with_item}
use Rattle.std.proofs.lemmas.List.{get_or_default, get_or-set_same, length-map, length-set, set-get_or}
use Rattle.std.proofs.lemmas.List.Folds.{list_all-append}
use Rattle.rsn.specs.Receipts.{Received, accepted, acknowledged, run_of}
use Rattle.rsn.proofs.ReceiptLemmas.{run_of-reaches, run_of-bound, run_of-push}
use Rattle.checkpoint.specs.Saved.{TheSaved, is_sender}
use Rattle.replay.specs.Plan.{ThePlan, numbered}
use Rattle.replay.specs.Task.{TheTask, TheCompletion, MayCall}
use Rattle.world.specs.declared.message.Message.{Message}
use Rattle.world.specs.Refusals.{one_if}
use Rattle.session_process.specs.Process.{TheProcess, idle_process, received, advanced, Commits, Recalls, IsNextAt}
use Rattle.session_process.specs.Mode.{is_live, is_lost}
use Rattle.session_process.specs.declared.mode.Mode.{Mode}
use Rattle.session_process.specs.declared.mode.Mode.TheVariants as modes
use Rattle.machine.specs.Work.{IsInPlan, IsNextIn}
use Rattle.machine.specs.Fields.{view_of, IsSound, IsSoundAt}
use Rattle.machine.specs.Jobs.{Matches}
use Rattle.machine.specs.Recoveries.{MaySettle}
use Rattle.machine.specs.Simulation.{TheMachine, process_at, is_up_at}
use Rattle.machine.specs.declared.machine.Machine.TheInside.{Inside}
use Rattle.machine.proofs.Status.{live-lost}
use Rattle.machine.proofs.Soundness.{sound_at}
use Rattle.machine.proofs.Restoration.{put-sound}

-- the process of a task that matches
module _ (inside : Inside) (i : IsSound inside) (m : TheMachine) (view_is : view_of inside ≡ m) (t : TheTask) (k : Matches m t) where
  -- its process is sound
  pub sound : (e : ℕ) → IsSoundAt (length m.processes) t.who.me (slice_index_or m.lengths (t.who.me - 1) e) m.calls (process_at m t.who.me)
  sound e =
      let P : TheMachine → Type 0 = λ v. t.who.me ≤ length v.processes → IsSoundAt (length v.processes) t.who.me (slice_index_or v.lengths (t.who.me - 1) e) v.calls (process_at v t.who.me) in
      subst P view_is (λ within. sound_at inside i t.who.me (idle_process 0 0 0) e k.inside within) k.within

  -- the message that it works on is one of its calls
  pub room : received (process_at m t.who.me) + 1 ≤ m.calls
  room =
      let one : one_if (is_some (process_at m t.who.me).working) ≡ 1 = ap (λ o. one_if (is_some o)) k.message in
      omega (arith, (sound 0).begun_by, one)

-- a sender more
more-senders : (me n s : ℕ) (xs : List ℕ) → list_all (is_sender me n) xs ≡ true → s ≤ n → s ≢ me → list_all (is_sender me n) (xs ++ s ∷ []) ≡ true
more-senders me n s xs all within other =
    let low : nat_le s n ≡ true = grind (arith, nat_tests) in
    let apart : (s == me) ≡ false = grind (arith, nat_tests) in
    list_all-append (is_sender me n) xs (s ∷ []) ∙ rw (all, low, apart) refl

live-planned : (t : Mode) (o : Option Message) (n : ℕ) → is_live t ≡ true → IsInPlan t o n
live-planned modes.Live o n e = tt
live-planned modes.Down o n e = absurd (false≢true e)
live-planned (modes.Replaying plan alone) o n e = absurd (false≢true e)
live-planned (modes.Resync peers) o n e = absurd (false≢true e)

-- a process that took in a result is sound
pub sound-committed : (n me len calls : ℕ) (b : TheCompletion) (was y : TheProcess) → IsSoundAt n me len calls was → Commits b was y → is_live was.mode ≡ true → length y.state ≡ length was.state → b.task.message.sender ≤ n → b.task.message.sender ≢ me → received was + 1 ≤ calls → IsSoundAt n me len (calls + 1) y
sound-committed n me len calls b was y s c live same from other room =
    let up : is_live y.mode ≡ true = ap is_live c.mode ∙ live in
    let more : received y ≡ received was + 1 = ap (λ (r : Received). length r.senders) c.receipts ∙ length-append was.receipts.senders (b.task.message.sender ∷ []) in
    let idle : one_if (is_some y.working) ≡ 0 = ap (λ o. one_if (is_some o)) c.working in
    record {
      short = s.short;
      state = λ e. same ∙ s.state (live-lost was.mode live);
      log = record { owner = c.outbox.owner ∙ s.log.owner; width = c.outbox.width ∙ s.log.width };
      senders = ap (λ (r : Received). list_all (is_sender me n) r.senders) c.receipts ∙ more-senders me n b.task.message.sender was.receipts.senders s.senders from other;
      whole = λ e. absurd (false≢true (sym e ∙ up));
      planned = live-planned y.mode y.working (received y) up;
      begun_by = omega (arith, room, more, idle);
      incarnation = let l = s.incarnation in let now = c.incarnation in omega (arith, l, now);
      own = ap (λ (z : TheSaved). z.me) c.saved ∙ s.own;
      count = ap (λ (z : TheSaved). z.count) c.saved ∙ s.count;
      saved_state = ap (λ (z : TheSaved). length z.state) c.saved ∙ s.saved_state;
      saved_by = let l = s.saved_by in let now = ap (λ (z : TheSaved). length z.senders) c.saved in omega (arith, l, now);
    }

-- one more message of the plan is replayed
advanced-planned : (t : Mode) (plan : ThePlan) (alone : Bool) (o : Option Message) (n : ℕ) → t ≡ modes.Replaying plan alone → IsInPlan t o n → IsInPlan (advanced t) None (n + 1)
advanced-planned t plan alone o n e planned =
    let was : IsInPlan (modes.Replaying plan alone) o n = subst (λ z. IsInPlan z o n) e planned in
    subst (λ z. IsInPlan (advanced z) None (n + 1)) (sym e) (omega (arith, was.0), tt)

-- all that was received is acknowledged, and so is one more
run-on : (n : ℕ) (r : Received) (s : ℕ) → length r.acknowledged ≡ n → run_of r.acknowledged ≡ n → run_of (acknowledged (n + 1) (accepted s r)).acknowledged ≡ n + 1
run-on n r s flags all =
    let place : n + 1 - 1 ≡ n = omega arith in
    let long : length (r.acknowledged ++ false ∷ []) ≡ n + 1 = length-append r.acknowledged (false ∷ []) ∙ ap (λ j. j + 1) flags in
    let before : run_of (r.acknowledged ++ false ∷ []) ≡ n = run_of-push r.acknowledged ∙ all in
    let reached : n + 1 ≤ run_of (set (r.acknowledged ++ false ∷ []) n true) = run_of-reaches (r.acknowledged ++ false ∷ []) n (omega (arith, before)) (omega (arith, long)) in
    let bound : run_of (set (r.acknowledged ++ false ∷ []) n true) ≤ length (set (r.acknowledged ++ false ∷ []) n true) = run_of-bound (set (r.acknowledged ++ false ∷ []) n true) in
    let same : length (set (r.acknowledged ++ false ∷ []) n true) ≡ length (r.acknowledged ++ false ∷ []) = length-set (r.acknowledged ++ false ∷ []) n true in
    rw place (omega (arith, long, reached, bound, same))

-- what a process has that took in a replayed result
module _ (n me len calls : ℕ) (b : TheCompletion) (was y : TheProcess) (s : IsSoundAt n me len calls was) (c : Recalls b was y) (plan : ThePlan) (alone : Bool) (mode_is : was.mode ≡ modes.Replaying plan alone) (flags : length was.receipts.acknowledged ≡ received was) where
  -- it has received one message more
  pub one-more : received y ≡ received was + 1
  one-more = ap (λ (r : Received). length r.senders) c.receipts ∙ length-append was.receipts.senders (b.task.message.sender ∷ [])

  -- which are all acknowledged
  pub whole-now : run_of y.receipts.acknowledged ≡ received y
  whole-now = ap (λ (r : Received). run_of r.acknowledged) c.receipts ∙ run-on (received was) was.receipts b.task.message.sender flags (s.whole (ap is_live mode_is)) ∙ sym one-more

  -- it isn't lost
  pub back-now : is_lost y.mode ≡ false
  back-now = ap is_lost (c.mode ∙ ap advanced mode_is)

  -- and it is sound
  pub sound-recalled : length y.state ≡ length was.state → b.task.message.sender ≤ n → b.task.message.sender ≢ me → received was + 1 ≤ calls → IsSoundAt n me len calls y
  sound-recalled same from other room =
      let idle : one_if (is_some y.working) ≡ 0 = ap (λ o. one_if (is_some o)) c.working in
      record {
        short = s.short;
        state = λ e. same ∙ s.state (ap is_lost mode_is);
        log = record { owner = c.outbox.owner ∙ s.log.owner; width = c.outbox.width ∙ s.log.width };
        senders = ap (λ (r : Received). list_all (is_sender me n) r.senders) c.receipts ∙ more-senders me n b.task.message.sender was.receipts.senders s.senders from other;
        whole = λ e. whole-now;
        planned = subst (λ z. IsInPlan z y.working (received y)) (sym c.mode) (subst (λ o. IsInPlan (advanced was.mode) o (received y)) (sym c.working) (subst (IsInPlan (advanced was.mode) None) (sym one-more) (advanced-planned was.mode plan alone was.working (received was) mode_is s.planned)));
        begun_by = let more = one-more in omega (arith, room, more, idle);
        incarnation = let l = s.incarnation in let now = c.incarnation in omega (arith, l, now);
        own = ap (λ (z : TheSaved). z.me) c.saved ∙ s.own;
        count = ap (λ (z : TheSaved). z.count) c.saved ∙ s.count;
        saved_state = ap (λ (z : TheSaved). length z.state) c.saved ∙ s.saved_state;
        saved_by = let l = s.saved_by in let now = ap (λ (z : TheSaved). length z.senders) c.saved in omega (arith, l, now);
      }

-- one that isn't up and has a job open replays
pub replaying-mode : (t : Mode) (o : Option Message) (n : ℕ) (x : Message) → is_live t ≡ false → IsInPlan t o n → o ≡ Some x → (plan : ThePlan) × (alone : Bool) × (t ≡ modes.Replaying plan alone)
replaying-mode modes.Live o n x live planned e = absurd (false≢true (sym live))
replaying-mode modes.Down o n x live planned e = absurd (cc)
replaying-mode (modes.Replaying plan alone) o n x live planned e = (plan, alone, refl)
replaying-mode (modes.Resync peers) o n x live planned e = absurd (cc)

-- the message of a replayed job is the next of the plan
pub next-at : (z : Mode) (o : Option Message) (n : ℕ) (t : TheTask) → IsInPlan z o n → o ≡ Some t.message → n + 1 ≡ t.rsn → IsNextAt z t
next-at modes.Live o n t planned e rsn = tt
next-at modes.Down o n t planned e rsn = tt
next-at (modes.Replaying plan alone) o n t planned e rsn =
    let next : IsNextIn plan (Some t.message) = subst (IsNextIn plan) e planned.1 in
    ap (numbered (plan.before + plan.replayed + 1)) next ∙ ap (λ r. Some (r, t.message)) (ap (λ j. j + 1) planned.0 ∙ rsn)
next-at (modes.Resync peers) o n t planned e rsn = tt

-- the process of such a job, as the fields have it
module _ (i : Inside) (s : IsSound i) (m : TheMachine) (view_is : view_of i ≡ m) (b : TheCompletion) (k : Matches m b.task) (down : is_up_at m b.task.who.me ≡ false) (p : ℕ) (p_is : p ≡ b.task.who.me) (was : TheProcess) (here : was ≡ slice_index_or i.processes.items (p - 1) was) where
  pub positive-at : 0 < p
  positive-at = omega (arith, p_is, k.inside)

  pub within-at : p ≤ length i.processes.items
  within-at = subst (λ (v : TheMachine). p ≤ length v.processes) (sym view_is) (omega (arith, p_is, k.within))

  -- it is the machine's process of this number
  pub was-at : was ≡ process_at m b.task.who.me
  was-at = here ∙ get_or_default i.processes.items (p - 1) was (idle_process 0 0 0) (omega (arith, positive-at, within-at)) ∙ ap (λ (v : TheMachine). process_at v p) view_is ∙ ap (process_at m) p_is

  off : is_live (process_at m b.task.who.me).mode ≡ false
  off = let apart : (b.task.who.me == 0) ≡ false = grind (arith, nat_tests, k.inside) in rw apart at down

  -- it replays
  pub replays-at : (plan : ThePlan) × (alone : Bool) × ((process_at m b.task.who.me).mode ≡ modes.Replaying plan alone)
  replays-at = replaying-mode (process_at m b.task.who.me).mode (process_at m b.task.who.me).working (received (process_at m b.task.who.me)) b.task.message off (sound i s m view_is b.task k 0).planned k.message

  -- the message of the job is the next of its plan
  pub next-of : IsNextAt was.mode b.task
  next-of = subst (λ (x : TheProcess). IsNextAt x.mode b.task) (sym was-at) (next-at (process_at m b.task.who.me).mode (process_at m b.task.who.me).working (received (process_at m b.task.who.me)) b.task (sound i s m view_is b.task k 0).planned k.message k.rsn)

  -- what it received, and one more, are calls that were made
  pub fits-at : received was + 1 ≤ i.calls
  fits-at =
      let calls : m.calls ≡ i.calls = ap (λ (v : TheMachine). v.calls) (sym view_is) in
      omega (arith, room i s m view_is b.task k, ap received was-at, calls)

  sound-was : (e : ℕ) → IsSoundAt (length i.processes.items) p (slice_index_or i.lengths.items (p - 1) e) i.calls was
  sound-was e = subst (IsSoundAt (length i.processes.items) p (slice_index_or i.lengths.items (p - 1) e) i.calls) (sym here) (sound_at i s p was e positive-at within-at)

  -- where nothing was taken in, nothing changed
  module _ (y : TheProcess) (undone : y ≡ was) where
    pub undone-sound : IsSound (record i { processes = with_item i.processes (p - 1) y })
    undone-sound = put-sound i s p y positive-at within-at (λ e. subst (IsSoundAt (length i.processes.items) p (slice_index_or i.lengths.items (p - 1) e) i.calls) (sym undone) (sound-was e))

    pub undone-view : view_of (record i { processes = with_item i.processes (p - 1) y }) ≡ m
    undone-view =
        let kept : set i.processes.items (p - 1) y ≡ i.processes.items = ap (set i.processes.items (p - 1)) (undone ∙ here) ∙ set-get_or i.processes.items (p - 1) was in
        (λ j. record (view_of i) { processes = kept j }) ∙ view_is

  module _ (y : TheProcess) (c : Recalls b was y) (flags : length was.receipts.acknowledged ≡ received was) (size : length b.state ≡ length b.task.state) (may : MayCall b.task.who) where
    mode-at : was.mode ≡ modes.Replaying replays-at.0 replays-at.1
    mode-at = ap (λ (x : TheProcess). x.mode) was-at ∙ replays-at.2

    count-at : length m.processes ≡ length i.processes.items
    count-at = ap (λ (v : TheMachine). length v.processes) (sym view_is)

    same-length : length y.state ≡ length was.state
    same-length = ap length c.state ∙ size ∙ sym (ap length k.state) ∙ sym (ap (λ (x : TheProcess). length x.state) was-at)

    -- with the result taken in, the machine is sound
    pub recalled-sound : IsSound (record i { processes = with_item i.processes (p - 1) y })
    recalled-sound =
        put-sound i s p y positive-at within-at (λ e. sound-recalled (length i.processes.items) p _ i.calls b was y (sound-was e) c replays-at.0 replays-at.1 mode-at flags same-length
        (omega (arith, k.from, k.count, count-at, may.sender)) (λ f. may.other (k.from ∙ f ∙ p_is)) fits-at)

    -- the process may settle
    pub recalled-settles : MaySettle (view_of (record i { processes = with_item i.processes (p - 1) y })) p
    recalled-settles =
        let at : process_at (view_of (record i { processes = with_item i.processes (p - 1) y })) p ≡ y = get_or-set_same i.processes.items (p - 1) y (idle_process 0 0 0) (omega (arith, positive-at, within-at)) in
        let sure = sound-was 0 in
        record {
          inside = positive-at;
          within = omega (arith, length-set i.processes.items (p - 1) y, within-at);
          back = ap (λ (x : TheProcess). is_lost x.mode) at ∙ back-now (length i.processes.items) p _ i.calls b was y sure c replays-at.0 replays-at.1 mode-at flags;
          idle = ap (λ (x : TheProcess). x.working) at ∙ c.working;
          whole = ap (λ (x : TheProcess). run_of x.receipts.acknowledged) at ∙ whole-now (length i.processes.items) p _ i.calls b was y sure c replays-at.0 replays-at.1 mode-at flags ∙ sym (ap received at);
        }

    pub recalls-at : Recalls b (process_at m b.task.who.me) y
    recalls-at = subst (λ x. Recalls b x y) was-at c

    -- and the machine is the one with that process
    pub recalled-view : view_of (record i { processes = with_item i.processes (p - 1) y }) ≡ record m { processes = set m.processes (b.task.who.me - 1) y }
    recalled-view = λ j. record (view_is j) { processes = set (view_is j).processes (p_is j - 1) y }

    -- of whose plan one message more is replayed
    pub mode-then : y.mode ≡ modes.Replaying (record replays-at.0 { replayed = replays-at.0.replayed + 1 }) replays-at.1
    mode-then = c.mode ∙ ap advanced mode-at
