-- What the fields keep when one process changes
use Rattle.std.proofs.Common.{◌≡◌, ℕ, suc, ◌+◌, ◌-◌, ◌<◌, ◌≤◌, List, [], ◌∷◌, length, map, Bool, true, arith, set}
use Rattle.std.specs.Prelude.{slice_index_or, Option, Some}
use Rattle.std.proofs.lemmas.List.{length-set}
use Rattle.world.specs.declared.message.Message.{Message}
use Rattle.session_process.specs.Process.{TheProcess, received}
use Rattle.session_process.specs.declared.mode.Mode.{Mode}
use Rattle.session_process.specs.declared.mode.Mode.TheVariants as modes
use Rattle.session_process.specs.Outbox.{TheOutbox}
use Rattle.machine.specs.Work.{IsNextFor, IsInPlan}
use Rattle.machine.specs.Fields.{IsSoundAt, IsLogOf, IsSound}
use Rattle.machine.specs.declared.machine.Machine.TheInside.{Inside}
use Rattle.machine.proofs.Updates.{set-is}
use Rattle.machine.proofs.Preservation.{later}

-- the process of this number, from 1, is sound
pub sound_at : (m : Inside) → IsSound m → (p : ℕ) (d : TheProcess) (e : ℕ) → 0 < p → p ≤ length m.processes.items → IsSoundAt (length m.processes.items) p (slice_index_or m.lengths.items (p - 1) e) m.calls (slice_index_or m.processes.items (p - 1) d)
sound_at m i p d e positive within =
    let back : suc (p - 1) ≡ p = omega arith in
    rw back at (i.processes (p - 1) d e (omega arith))

-- it stays so with another outbox, whose log is its own
pub sound-outbox : (n me len calls : ℕ) (x : TheProcess) (b : TheOutbox) → IsSoundAt n me len calls x → IsLogOf n me b.log → IsSoundAt n me len calls (record x { outbox = b })
sound-outbox n me len calls x b s log =
    record {
      short = s.short;
      state = s.state;
      log = log;
      senders = s.senders;
      whole = s.whole;
      planned = s.planned;
      begun_by = s.begun_by;
      incarnation = s.incarnation;
      own = s.own;
      count = s.count;
      saved_state = s.saved_state;
      saved_by = s.saved_by;
    }

-- where a message is the next for a process, it may be worked on
next-planned : (t : Mode) (o : Option Message) (x : Message) (n : ℕ) → IsNextFor t x → IsInPlan t o n → IsInPlan t (Some x) n
next-planned modes.Live o x n next planned = tt
next-planned modes.Down o x n next planned = absurd next
next-planned (modes.Replaying plan alone) o x n next planned = (planned.0, next)
next-planned (modes.Resync peers) o x n next planned = absurd next

-- one more call, in which it begins to work on a message
pub sound-begun : (n me len calls : ℕ) (x : TheProcess) (message : Message) → IsSoundAt n me len calls x → IsNextFor x.mode message → IsSoundAt n me len (calls + 1) (record x { working = Some message })
sound-begun n me len calls x message s next =
    record {
      short = s.short;
      state = s.state;
      log = s.log;
      senders = s.senders;
      whole = s.whole;
      planned = next-planned x.mode x.working message (received x) next s.planned;
      begun_by = omega (arith, s.begun_by);
      incarnation = omega (arith, s.incarnation);
      own = s.own;
      count = s.count;
      saved_state = s.saved_state;
      saved_by = omega (arith, s.saved_by);
    }

-- one process changes, and stays sound
module _ (xs : List TheProcess) (lengths : List ℕ) (to calls : ℕ) (y : TheProcess) (positive : 0 < to) (within : to ≤ length xs) where
  pub sound-put : ((p : ℕ) (d : TheProcess) (e : ℕ) → p < length xs → IsSoundAt (length xs) (suc p) (slice_index_or lengths p e) calls (slice_index_or xs p d))
      → ((e : ℕ) → IsSoundAt (length xs) to (slice_index_or lengths (to - 1) e) calls y)
      → (p : ℕ) (d : TheProcess) (e : ℕ) → p < length (set xs (to - 1) y) → IsSoundAt (length (set xs (to - 1) y)) (suc p) (slice_index_or lengths p e) calls (slice_index_or (set xs (to - 1) y) p d)
  sound-put all now p d e h =
      let P : ℕ → Bool → TheProcess → Type 0 = λ q b x. (e : ℕ) → IsSoundAt (length xs) (suc q) (slice_index_or lengths q e) calls x in
      let back : suc (to - 1) ≡ to = omega arith in
      let there : P (to - 1) true y = rw back now in
      let len : length (set xs (to - 1) y) ≡ length xs = length-set xs (to - 1) y in
      rw len (set-is P xs to y positive within there (λ q d h e. all q d e h) p d h e)

-- as does one that takes part in a call
pub sound-set : (xs : List TheProcess) (lengths : List ℕ) (to calls : ℕ) (y : TheProcess) → 0 < to → to ≤ length xs
    → ((p : ℕ) (d : TheProcess) (e : ℕ) → p < length xs → IsSoundAt (length xs) (suc p) (slice_index_or lengths p e) calls (slice_index_or xs p d))
    → ((e : ℕ) → IsSoundAt (length xs) to (slice_index_or lengths (to - 1) e) (calls + 1) y)
    → (p : ℕ) (d : TheProcess) (e : ℕ) → p < length (set xs (to - 1) y) → IsSoundAt (length (set xs (to - 1) y)) (suc p) (slice_index_or lengths p e) (calls + 1) (slice_index_or (set xs (to - 1) y) p d)
sound-set xs lengths to calls y positive within all = sound-put xs lengths to (calls + 1) y positive within (λ q d e h. later _ _ _ _ _ (all q d e h))
