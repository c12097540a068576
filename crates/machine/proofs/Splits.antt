-- A process that restores its numbers while the receipts of another are read: the list of processes is cut between them
use Rattle.std.proofs.Common.{◌≡◌, ℕ, suc, ◌+◌, ◌-◌, ◌<◌, ◌≤◌, List, [], ◌++◌, length, map, take, drop, set, false, sym, ap, ◌∙◌, subst, arith}
use Rattle.std.specs.Prelude.{◌==◌, Result, Ok, Err, OnOk, OnErr, slice_index_or}
use Rattle.std.specs.Vec.{with_items}
use Rattle.std.proofs.lemmas.Bool.Decides.{nat_tests}
use Rattle.std.proofs.lemmas.List.{append-nil, drop_all, take_all, get_or_append_left, get_or-append-add, get_or_default, get_or-set_same, length-set, set-append_left, set-append_right}
use Rattle.rsn.specs.Receipts.{Received, numbers_of}
use Rattle.sender_log.specs.Queue.{renumbered}
use Rattle.sender_log.specs.Log.{queue_of}
use Rattle.session_process.specs.Process.{TheProcess, idle_process}
use Rattle.session_process.specs.Outbox.{with_messages}
use Rattle.machine.specs.Replays.{renumbered_at}
use Rattle.machine.specs.Fields.{view_of, AreCarried, IsLogOf, IsSoundAt, IsSound}
use Rattle.machine.specs.Simulation.{TheMachine, process_at, log_at}
use Rattle.machine.specs.declared.machine.Machine.TheInside.{Inside}
use Rattle.machine.proofs.Soundness.{sound_at, sound-put, sound-outbox}

either : {X E A B C : Type 0} (r : Result X E) → OnOk r A → OnErr r B → (A → C) → (B → C) → C
either (Ok x) a b f g = f a
either (Err e) a b f g = g b

module _ (i : Inside) (s : IsSound i) (m : TheMachine) (view_is : view_of i ≡ m) (p r : ℕ) (positive : 0 < p) (within : p ≤ length m.processes) (was y : TheProcess) (ys : List TheProcess)
    (was_at : was ≡ slice_index_or i.processes.items (p - 1) was) (ys_are : ys ≡ set i.processes.items (p - 1) y) where
  inside : p ≤ length i.processes.items
  inside = subst (λ (v : TheMachine). p ≤ length v.processes) (sym view_is) within

  zs_are : take i.processes.len (ys ++ drop (length ys) i.processes.items) ≡ set i.processes.items (p - 1) y
  zs_are =
      let was_all = i.processes.items in
      let many : length ys ≡ length was_all = ap length ys_are ∙ length-set was_all (p - 1) y in
      let len_is : i.processes.len ≡ length was_all = i.processes.ok.0 in
      let none : drop (length ys) was_all ≡ [] = drop_all (length ys) was_all (omega (arith, many)) in
      ap (λ l. take i.processes.len (ys ++ l)) none ∙ ap (take i.processes.len) (append-nil ys) ∙ take_all i.processes.len ys (omega (arith, many, len_is)) ∙ ys_are

  -- what is cut out is the process
  pub split-was : was ≡ process_at m p
  split-was = was_at ∙ get_or_default i.processes.items (p - 1) was (idle_process 0 0 0) (omega (arith, positive, inside)) ∙ ap (λ (v : TheMachine). process_at v p) view_is

  -- where it is put back, the machine has it in its place
  pub split-view : view_of (record i { processes = with_items i.processes ys }) ≡ record m { processes = set m.processes (p - 1) y }
  split-view = (λ j. record (view_of i) { processes = zs_are j }) ∙ (λ j. record (view_is j) { processes = set (view_is j).processes (p - 1) y })

  -- with its log
  split-log : log_at (view_of (record i { processes = with_items i.processes ys })) p ≡ y.outbox.log
  split-log =
      let apart : (p == 0) ≡ false = grind (arith, nat_tests) in
      ap (λ v. log_at v p) split-view ∙ rw apart (ap (λ (x : TheProcess). x.outbox.log) (get_or-set_same m.processes (p - 1) y (idle_process 0 0 0) (omega (arith, positive, within))))

  split-sound : ((e : ℕ) → IsSoundAt (length i.processes.items) p (slice_index_or i.lengths.items (p - 1) e) i.calls y) → IsSound (record i { processes = with_items i.processes ys })
  split-sound now =
      let len = ap length zs_are ∙ length-set i.processes.items (p - 1) y in
      record {
        some = omega (arith, len, s.some);
        few = omega (arith, len, s.few);
        lengths = s.lengths ∙ sym len;
        processes = subst (λ l. (q : ℕ) (d : TheProcess) (e : ℕ) → q < length l → IsSoundAt (length l) (suc q) (slice_index_or i.lengths.items q e) i.calls (slice_index_or l q d)) (sym zs_are) (sound-put i.processes.items i.lengths.items p i.calls y positive inside s.processes now);
        outside = subst (λ n. IsLogOf n 0 i.outside.log) (sym len) s.outside;
        calls = s.calls;
        started = s.started;
        inputs = s.inputs;
        shown = s.shown;
        wire = subst (AreCarried i.wire) (sym len) s.wire;
        keys = s.keys;
      }

  module _ {X E : Type 0} (answer : Result X E) (receipts : Received)
      (ok : OnOk answer (y ≡ record was { outbox = with_messages r (renumbered (numbers_of p receipts) (queue_of r was.outbox.log)) was.outbox })) (err : OnErr answer (y ≡ was)) where
    sound-was : (e : ℕ) → IsSoundAt (length i.processes.items) p (slice_index_or i.lengths.items (p - 1) e) i.calls was
    sound-was e = subst (IsSoundAt (length i.processes.items) p (slice_index_or i.lengths.items (p - 1) e) i.calls) (sym was_at) (sound_at i s p was e positive inside)

    renumbered-sound : (e : ℕ) → y ≡ record was { outbox = with_messages r (renumbered (numbers_of p receipts) (queue_of r was.outbox.log)) was.outbox } → IsSoundAt (length i.processes.items) p (slice_index_or i.lengths.items (p - 1) e) i.calls y
    renumbered-sound e is =
        let old = sound-was e in
        subst (IsSoundAt (length i.processes.items) p (slice_index_or i.lengths.items (p - 1) e) i.calls) (sym is)
        (sound-outbox (length i.processes.items) p _ i.calls was (with_messages r (renumbered (numbers_of p receipts) (queue_of r was.outbox.log)) was.outbox) old
        (record { owner = old.log.owner; width = length-set was.outbox.log.queues r (renumbered (numbers_of p receipts) (queue_of r was.outbox.log)) ∙ old.log.width }))

    -- the machine stays sound, whether numbers are restored or memory runs out
    resynced-sound : IsSound (record i { processes = with_items i.processes ys })
    resynced-sound =
        split-sound (λ e. either answer ok err (renumbered-sound e) (λ same. subst (IsSoundAt (length i.processes.items) p (slice_index_or i.lengths.items (p - 1) e) i.calls) (sym same) (sound-was e)))

    if-fine : (a : Result X E) (A B : Type 0) → OnOk a A → (A → B) → OnOk a B
    if-fine (Ok x) A B v f = f v
    if-fine (Err e) A B v f = tt

    -- and where they are, it is the machine with p's numbers for r
    resynced-view : receipts ≡ (process_at m r).receipts → OnOk answer (view_of (record i { processes = with_items i.processes ys }) ≡ renumbered_at p r m)
    resynced-view read =
        if-fine answer (y ≡ record was { outbox = with_messages r (renumbered (numbers_of p receipts) (queue_of r was.outbox.log)) was.outbox }) (view_of (record i { processes = with_items i.processes ys }) ≡ renumbered_at p r m) ok
        (λ is. split-view ∙ ap (λ z. record m { processes = set m.processes (p - 1) z }) (is ∙ (λ j. record (split-was j) { outbox = with_messages r (renumbered (numbers_of p (read j)) (queue_of r (split-was j).outbox.log)) (split-was j).outbox })))

-- ---- the two parts of the list: in front of the cut and behind it

module _ (i : Inside) (s : IsSound i) (m : TheMachine) (view_is : view_of i ≡ m) (fr bk : List TheProcess) (parts : i.processes.items ≡ fr ++ bk) where
  front-here : (k : ℕ) (any : TheProcess) → k < length fr → slice_index_or fr k any ≡ slice_index_or i.processes.items k any
  front-here k any low = sym (get_or_append_left fr bk any k low) ∙ ap (λ l. slice_index_or l k any) (sym parts)

  back-here : (k : ℕ) (any : TheProcess) → length fr ≡ k → slice_index_or bk 0 any ≡ slice_index_or i.processes.items k any
  back-here k any size =
      let place : length fr + 0 ≡ k = omega (arith, size) in
      sym (get_or-append-add fr bk 0 any) ∙ ap (λ n. slice_index_or (fr ++ bk) n any) place ∙ ap (λ l. slice_index_or l k any) (sym parts)

  module _ (q : ℕ) (positive : 0 < q) (within : q ≤ length m.processes) (any : TheProcess) where
    -- with another default
    whole-any : (other : TheProcess) → slice_index_or i.processes.items (q - 1) any ≡ slice_index_or i.processes.items (q - 1) other
    whole-any other = get_or_default i.processes.items (q - 1) any other (let many = ap (λ (v : TheMachine). length v.processes) view_is in omega (arith, many, within, positive))

    whole-at : slice_index_or i.processes.items (q - 1) any ≡ process_at m q
    whole-at = whole-any (idle_process 0 0 0) ∙ ap (λ (v : TheMachine). process_at v q) view_is

    -- what stands there is the process of this number
    pub front-at : q - 1 < length fr → slice_index_or fr (q - 1) any ≡ process_at m q
    front-at low = front-here (q - 1) any low ∙ whole-at

    pub back-at : length fr ≡ q - 1 → slice_index_or bk 0 any ≡ process_at m q
    back-at size = back-here (q - 1) any size ∙ whole-at

  -- p restores its numbers for r: what the machine is then
  module _ (p r : ℕ) (positive : 0 < p) (within : p ≤ length m.processes) (any y : TheProcess) where
    module _ (low : p - 1 < length fr) where
      front-was : slice_index_or fr (p - 1) any ≡ slice_index_or i.processes.items (p - 1) (slice_index_or fr (p - 1) any)
      front-was = front-here (p - 1) any low ∙ whole-any p positive within any (slice_index_or fr (p - 1) any)

      front-set : set fr (p - 1) y ++ bk ≡ set i.processes.items (p - 1) y
      front-set = sym (set-append_left fr bk (p - 1) y low) ∙ ap (λ l. set l (p - 1) y) (sym parts)

      pub front-log : log_at (view_of (record i { processes = with_items i.processes (set fr (p - 1) y ++ bk) })) p ≡ y.outbox.log
      front-log = split-log i s m view_is p r positive within (slice_index_or fr (p - 1) any) y (set fr (p - 1) y ++ bk) front-was front-set

      module _ {X E : Type 0} (answer : Result X E) (receipts : Received)
          (ok : OnOk answer (y ≡ record (slice_index_or fr (p - 1) any) { outbox = with_messages r (renumbered (numbers_of p receipts) (queue_of r (slice_index_or fr (p - 1) any).outbox.log)) (slice_index_or fr (p - 1) any).outbox }))
          (err : OnErr answer (y ≡ slice_index_or fr (p - 1) any)) where
        pub front-sound : IsSound (record i { processes = with_items i.processes (set fr (p - 1) y ++ bk) })
        front-sound = resynced-sound i s m view_is p r positive within (slice_index_or fr (p - 1) any) y (set fr (p - 1) y ++ bk) front-was front-set answer receipts ok err

        pub front-view : receipts ≡ (process_at m r).receipts → OnOk answer (view_of (record i { processes = with_items i.processes (set fr (p - 1) y ++ bk) }) ≡ renumbered_at p r m)
        front-view read = resynced-view i s m view_is p r positive within (slice_index_or fr (p - 1) any) y (set fr (p - 1) y ++ bk) front-was front-set answer receipts ok err read

    module _ (size : length fr ≡ p - 1) where
      back-was : slice_index_or bk 0 any ≡ slice_index_or i.processes.items (p - 1) (slice_index_or bk 0 any)
      back-was = back-here (p - 1) any size ∙ whole-any p positive within any (slice_index_or bk 0 any)

      back-set : fr ++ set bk 0 y ≡ set i.processes.items (p - 1) y
      back-set =
          let none : p - 1 - (p - 1) ≡ 0 = omega arith in
          ap (λ k. fr ++ set bk k y) (sym none) ∙ sym (set-append_right fr bk (p - 1) (p - 1) y size (omega arith)) ∙ ap (λ l. set l (p - 1) y) (sym parts)

      pub back-log : log_at (view_of (record i { processes = with_items i.processes (fr ++ set bk 0 y) })) p ≡ y.outbox.log
      back-log = split-log i s m view_is p r positive within (slice_index_or bk 0 any) y (fr ++ set bk 0 y) back-was back-set

      module _ {X E : Type 0} (answer : Result X E) (receipts : Received)
          (ok : OnOk answer (y ≡ record (slice_index_or bk 0 any) { outbox = with_messages r (renumbered (numbers_of p receipts) (queue_of r (slice_index_or bk 0 any).outbox.log)) (slice_index_or bk 0 any).outbox }))
          (err : OnErr answer (y ≡ slice_index_or bk 0 any)) where
        pub back-sound : IsSound (record i { processes = with_items i.processes (fr ++ set bk 0 y) })
        back-sound = resynced-sound i s m view_is p r positive within (slice_index_or bk 0 any) y (fr ++ set bk 0 y) back-was back-set answer receipts ok err

        pub back-view : receipts ≡ (process_at m r).receipts → OnOk answer (view_of (record i { processes = with_items i.processes (fr ++ set bk 0 y) }) ≡ renumbered_at p r m)
        back-view read = resynced-view i s m view_is p r positive within (slice_index_or bk 0 any) y (fr ++ set bk 0 y) back-was back-set answer receipts ok err read
