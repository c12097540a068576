-- A process that is back as its checkpoint says is sound
use Rattle.std.proofs.Common.{◌≡◌, ℕ, ◌+◌, ◌-◌, ◌<◌, ◌≤◌, List, [], ◌++◌, length, map, take, drop, set, sym, ap, ◌∙◌, subst, arith}
use Rattle.std.specs.Prelude.{Bool, slice_index_or}
use Rattle.std.specs.List.{list_all}
use Rattle.std.specs.Vec.{with_item, with_items}
use Rattle.std.proofs.lemmas.List.{append-nil, drop_all, get_or_default, get_or-set_same, length-map, length-set, take_all}
use Rattle.limits.specs.declared.TheConstants.{ENTRIES}
use Rattle.rsn.specs.Receipts.{run_of}
use Rattle.checkpoint.specs.declared.form.CheckpointForm.TheVariants.{Second}
use Rattle.checkpoint.specs.Saved.{TheSaved, Fits, is_sender, log_again, queue_again}
use Rattle.replay.specs.Plan.{ThePlan}
use Rattle.session_process.specs.Process.{TheProcess, idle_process, received, restored, unnumbered_at}
use Rattle.session_process.specs.Mode.{is_lost}
use Rattle.session_process.specs.Outside.{TheOutside}
use Rattle.session_process.proofs.StableLemmas.{run-replicate}
use Rattle.machine.specs.Recoveries.{MaySettle, forgotten}
use Rattle.machine.specs.Simulation.{TheMachine, process_at}
use Rattle.machine.specs.Fields.{view_of, AreCarried, IsLogOf, IsSoundAt, IsSound}
use Rattle.machine.specs.declared.machine.Machine.TheInside.{Inside}
use Rattle.machine.proofs.Preservation.{sound-call}
use Rattle.machine.proofs.Losses.{forgot, forgotten-at, forgotten-width, inputs-forgot, log-forgot, processes-forgot}
use Rattle.machine.proofs.Soundness.{sound_at, sound-put}

-- the log of a checkpoint
pub log-again : (n me len calls : ℕ) (x : TheProcess) → IsSoundAt n me len calls x → Fits Second x.saved → IsLogOf n me (log_again x.saved)
log-again n me len calls x i fits =
    record {
      owner = i.own;
      width = (let e = length-map x.saved.queues queue_again in let f = fits.queues in omega (arith, e, f, i.count));
    }

-- so is the process
pub restored-sound : (n me len calls : ℕ) (x : TheProcess) (plan : ThePlan) (alone : Bool) → IsSoundAt n me len calls x → Fits Second x.saved → plan.before ≡ length x.saved.senders → plan.replayed ≡ 0
    → IsSoundAt n me len calls (restored plan alone x)
restored-sound n me len calls x plan alone i fits before fresh =
    record {
      short = i.short;
      state = λ _. i.saved_state;
      log = log-again n me len calls x i fits;
      senders = (λ j. list_all (is_sender (sym i.own j) (sym i.count j)) x.saved.senders) ∙ fits.senders;
      whole = λ _. run-replicate (length x.saved.senders);
      planned = (omega (arith, before, fresh), tt);
      begun_by = omega (arith, i.saved_by);
      incarnation = i.incarnation;
      own = i.own;
      count = i.count;
      saved_state = i.saved_state;
      saved_by = i.saved_by;
    }

-- one process takes the place of another
pub put-sound : (m : Inside) → IsSound m → (p : ℕ) (y : TheProcess) → 0 < p → p ≤ length m.processes.items
    → ((e : ℕ) → IsSoundAt (length m.processes.items) p (slice_index_or m.lengths.items (p - 1) e) m.calls y) → IsSound (record m { processes = with_item m.processes (p - 1) y })
put-sound m i p y positive within now =
    let len = length-set m.processes.items (p - 1) y in
    record {
      some = omega (arith, len, i.some);
      few = omega (arith, len, i.few);
      lengths = i.lengths ∙ sym len;
      processes = sound-put m.processes.items m.lengths.items p m.calls y positive within i.processes now;
      outside = subst (λ n. IsLogOf n 0 m.outside.log) (sym len) i.outside;
      calls = i.calls;
      started = i.started;
      inputs = i.inputs;
      shown = i.shown;
      wire = subst (AreCarried m.wire) (sym len) i.wire;
      keys = i.keys;
    }

-- one more call is counted
pub count-sound : (m : Inside) → IsSound m → m.calls < ENTRIES + 1 → IsSound (record m { calls = m.calls + 1 })
count-sound m i calls = sound-call m m.wire i calls i.wire i.keys

-- all senders forget the numbers above k for p
pub forgotten-sound : (m : Inside) → IsSound m → (p k : ℕ) (ys : List TheProcess) → ys ≡ map (unnumbered_at p k) m.processes.items → (o : TheOutside) → o ≡ record m.outside { log = forgot p k m.outside.log }
    → IsSound (record m { processes = with_items m.processes ys; outside = o })
forgotten-sound m s p k ys is o out =
    let was = m.processes.items in
    let zs = take m.processes.len (ys ++ drop (length ys) was) in
    let many : length ys ≡ length was = ap length is ∙ length-map was (unnumbered_at p k) in
    let len_is : m.processes.len ≡ length was = m.processes.ok.0 in
    let none : drop (length ys) was ≡ [] = drop_all (length ys) was (omega (arith, many)) in
    let all : zs ≡ ys = ap (λ l. take m.processes.len (ys ++ l)) none ∙ ap (take m.processes.len) (append-nil ys) ∙ take_all m.processes.len ys (omega (arith, many, len_is)) in
    let zs_are : zs ≡ map (unnumbered_at p k) was = all ∙ is in
    let len : length zs ≡ length was = ap length all ∙ many in
    record {
      some = omega (arith, len, s.some);
      few = omega (arith, len, s.few);
      lengths = s.lengths ∙ sym len;
      processes = processes-forgot was m.lengths.items p k m.calls s.processes zs zs_are;
      outside = subst (λ (v : TheOutside). IsLogOf (length zs) 0 v.log) (sym out) (subst (λ n. IsLogOf n 0 (forgot p k m.outside.log)) (sym len) (log-forgot (length was) 0 p k m.outside.log s.outside));
      calls = s.calls;
      started = s.started;
      inputs = inputs-forgot p k m.calls m.outside o out s.inputs;
      shown = (let same = ap (λ (v : TheOutside). length v.shown) out in omega (arith, same, s.shown));
      wire = subst (AreCarried m.wire) (sym len) s.wire;
      keys = s.keys;
    }

-- its checkpoint is that of before
pub kept-saved : (i : Inside) (m : TheMachine) (p k : ℕ) (was : TheProcess) → 0 < p → p ≤ length m.processes → view_of i ≡ forgotten p k m → was ≡ slice_index_or i.processes.items (p - 1) was
    → (process_at m p).saved ≡ was.saved
kept-saved i m p k was positive within forgets here =
    let inside : p ≤ length i.processes.items = let width : length i.processes.items ≡ length m.processes = ap (λ (v : TheMachine). length v.processes) forgets ∙ forgotten-width m p k in omega (arith, width, within) in
    let is : was ≡ unnumbered_at p k (process_at m p) =
    here ∙ get_or_default i.processes.items (p - 1) was (idle_process 0 0 0) (omega (arith, positive, inside)) ∙ ap (λ (v : TheMachine). process_at v p) forgets ∙ forgotten-at m p k p positive within in
    sym (ap (λ (x : TheProcess). x.saved) is)

-- a process is back in the machine that forgot
module _ (i : Inside) (m : TheMachine) (p k : ℕ) (plan : ThePlan) (alone : Bool) (was y : TheProcess) (positive : 0 < p) (within : p ≤ length m.processes) (forgets : view_of i ≡ forgotten p k m)
    (here : was ≡ slice_index_or i.processes.items (p - 1) was) (is : y ≡ restored plan alone was) where
  inside : p ≤ length i.processes.items
  inside = let width : length i.processes.items ≡ length m.processes = ap (λ (v : TheMachine). length v.processes) forgets ∙ forgotten-width m p k in omega (arith, width, within)

  was_is : was ≡ unnumbered_at p k (process_at m p)
  was_is = here ∙ get_or_default i.processes.items (p - 1) was (idle_process 0 0 0) (omega (arith, positive, inside)) ∙ ap (λ (v : TheMachine). process_at v p) forgets ∙ forgotten-at m p k p positive within

  back-is : y ≡ restored plan alone (process_at m p)
  back-is = is ∙ ap (restored plan alone) was_is

  abbrev now : Inside
  now = record i { processes = with_item i.processes (p - 1) y }

  -- that machine is sound
  pub back-sound : IsSound i → Fits Second (process_at m p).saved → plan.before ≡ length (process_at m p).saved.senders → plan.replayed ≡ 0 → IsSound (record i { processes = with_item i.processes (p - 1) y })
  back-sound s fits before fresh =
      let saved : (process_at m p).saved ≡ was.saved = sym (ap (λ (x : TheProcess). x.saved) was_is) in
      put-sound i s p y positive inside
      (λ e. subst (IsSoundAt (length i.processes.items) p (slice_index_or i.lengths.items (p - 1) e) i.calls) (sym is)
      (restored-sound (length i.processes.items) p _ i.calls was plan alone (subst (IsSoundAt (length i.processes.items) p (slice_index_or i.lengths.items (p - 1) e) i.calls) (sym here) (sound_at i s p was e positive inside))
      (subst (Fits Second) saved fits) (before ∙ ap (λ (z : TheSaved). length z.senders) saved) fresh))

  -- the process may settle in it
  pub back-settles : MaySettle (view_of now) p
  back-settles =
      let at : process_at (view_of now) p ≡ restored plan alone was = get_or-set_same i.processes.items (p - 1) y (idle_process 0 0 0) (omega (arith, positive, inside)) ∙ is in
      record {
        inside = positive;
        within = omega (arith, length-set i.processes.items (p - 1) y, inside);
        back = ap (λ (x : TheProcess). is_lost x.mode) at;
        idle = ap (λ (x : TheProcess). x.working) at;
        whole = ap (λ (x : TheProcess). run_of x.receipts.acknowledged) at ∙ run-replicate (length was.saved.senders) ∙ sym (ap received at);
      }

  -- and it is the one that forgot, with the process restored
  pub back-shown : view_of now ≡ record (forgotten p k m) { processes = set (forgotten p k m).processes (p - 1) (restored plan alone (process_at m p)) }
  back-shown = λ j. record (forgets j) { processes = set (forgets j).processes (p - 1) (back-is j) }
