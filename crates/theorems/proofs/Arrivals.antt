-- A message arrives
use Rattle.std.proofs.Common.{◌≡◌, ◌≢◌, ◌⊎◌, inl, inr, ℕ, suc, ◌+◌, ◌<◌, ◌≤◌, [], ◌∷◌, ◌++◌, length, take, true, refl, ap, ◌∙◌, subst, arith}
use Rattle.std.specs.Prelude.{Option, Some, None, slice_get, if◌then◌else◌, ◌==◌}
use Rattle.world.specs.declared.message.Message.{Message}
use Rattle.world.specs.History.{count_of, rsn_of}
use Rattle.world.specs.Phases.{Up, Busy, is_up}
use Rattle.world.specs.World.{World, put}
use Rattle.world.specs.Calls.{begin, number_for, duplicate, show}
use Rattle.theorems.specs.Invariants.Secured.{Safe}
use Rattle.theorems.specs.Invariants.Sound.{PacketShape, Sound}
use Rattle.theorems.specs.Invariants.Exact.{PacketTrue, Exact}
use Rattle.theorems.proofs.ListLemmas.{take-all, take-push, get-push}
use Rattle.theorems.proofs.HistoryLemmas.{count-push, names-found}
use Rattle.theorems.proofs.Frames.{put-wire, sound-left, sound-wire, exact-wire, Moves, sound-phase, exact-phase}
use Rattle.theorems.proofs.Wire.{sound-swap, exact-swap}

pub sound-duplicate : (w : World) (key d : ℕ) (m : Message) (new : ℕ) → is_up (w.phase d) ≡ true → Sound w → Sound (duplicate w key d m new)
sound-duplicate w key d m new up h = sound-swap w key new _ (shape (rsn_of (w.history d) m.sender m.ssn)) h
  where
    shape : (x : Option ℕ) → PacketShape w (number_for w d m x)
    shape None = tt
    shape (Some k) = record { past = omega arith; live = λ _. up }

pub exact-duplicate : (w : World) (key d : ℕ) (m : Message) (new : ℕ) → Exact w → Exact (duplicate w key d m new)
exact-duplicate w key d m new h = exact-swap w key new _ (truth (rsn_of (w.history d) m.sender m.ssn) refl) h
  where
    truth : (x : Option ℕ) → rsn_of (w.history d) m.sender m.ssn ≡ x → PacketTrue w (number_for w d m x)
    truth None e = tt
    truth (Some k) e = λ _. names-found (w.history d) m.sender m.ssn k e

pub sound-show : (w : World) (key : ℕ) (m : Message) → m.ssn ≡ suc (count_of m.sender w.shown) → Sound w → Sound (show w key m)
sound-show w key m next h =
    sound-left w w.numbers w.released w.inputs w.feeds w.started w.trims (put w.wire key None) (w.shown ++ m ∷ []) (record {
      covered = h.covered;
      shown_covered = λ s. let a : w.trims s 0 ≤ count_of s w.shown = h.shown_covered s in let b : count_of s (w.shown ++ m ∷ []) ≡ count_of s w.shown + (if m.sender == s then 1 else 0) = count-push s w.shown m in omega arith;
      above = h.trims;
      packets = put-wire (PacketShape w) w.wire key None h.packets tt;
      next = λ k x e. split k x (get-push w.shown m k x e);
    }) h
  where
    split : (k : ℕ) (x : Message) → ((k < length w.shown) × (slice_get w.shown k ≡ Some x)) ⊎ ((k ≡ length w.shown) × (m ≡ x)) → x.ssn ≡ suc (count_of x.sender (take k (w.shown ++ m ∷ [])))
    split k x (inl r) = rw (take-push w.shown (m ∷ []) k (let l : k < length w.shown = r.0 in omega arith)) (h.shown k x r.1)
    split k x (inr r) =
        let whole : take k (w.shown ++ m ∷ []) ≡ w.shown = take-push w.shown (m ∷ []) k (let l : k ≡ length w.shown = r.0 in omega arith) ∙ ap (λ j. take j w.shown) r.0 ∙ take-all w.shown in
        let P : Message → Type 0 = λ y. y.ssn ≡ suc (count_of y.sender (take k (w.shown ++ m ∷ []))) in
        subst P r.1 (rw whole next)

pub exact-show : (w : World) (key : ℕ) (m : Message) → Safe w 0 m → Exact w → Exact (show w key m)
exact-show w key m is h =
    record {
      alone = h.alone;
      recorded = h.recorded;
      acknowledged = h.acknowledged;
      packets = put-wire (PacketTrue w) w.wire key None h.packets tt;
      working = h.working;
      received = h.received;
      released = h.released;
      shown = λ k x e. split k x (get-push w.shown m k x e);
    }
  where
    split : (k : ℕ) (x : Message) → ((k < length w.shown) × (slice_get w.shown k ≡ Some x)) ⊎ ((k ≡ length w.shown) × (m ≡ x)) → Safe w 0 x
    split k x (inl r) = h.shown k x r.1
    split k x (inr r) = let P : Message → Type 0 = λ y. Safe w 0 y in subst P r.1 is

-- a process that is up, with no job open, may begin one on the next message of a sender
pub moves-begin : (w : World) (d : ℕ) (m : Message) → 0 < d → d ≤ w.count → w.phase d ≡ Up → m.sender ≢ d → m.sender ≤ w.count → m.ssn ≡ suc (count_of m.sender (w.history d)) → Moves w d (Busy m)
moves-begin w d m a b up ne from next =
    record { inside = a; below = b; was = rw up refl; now = refl; stays = λ _. refl; next = record { target = a; inside = b; other = ne; from = from; next = next }; replays = tt; recovering = λ e. absurd (cc); forth = rw up (omega arith) }

pub sound-begin : (w : World) (key d : ℕ) (m : Message) → Moves w d (Busy m) → Sound w → Sound (begin w key d m)
sound-begin w key d m moves h =
    let s : Sound (record w { phase = put w.phase d (Busy m) }) = sound-phase w d (Busy m) moves h in
    sound-wire (record w { phase = put w.phase d (Busy m) }) (put w.wire key None) (w.started + 1) (put-wire (PacketShape (record w { phase = put w.phase d (Busy m) })) w.wire key None s.packets tt) s

pub exact-begin : (w : World) (key d : ℕ) (m : Message) → Moves w d (Busy m) → w.phase d ≡ Up → Safe w d m → Sound w → Exact w → Exact (begin w key d m)
exact-begin w key d m moves up is s h =
    let x : Exact (record w { phase = put w.phase d (Busy m) }) = exact-phase w d (Busy m) moves refl is (λ q e. inl (rw up refl)) s h in
    exact-wire (record w { phase = put w.phase d (Busy m) }) (put w.wire key None) (w.started + 1) (put-wire (PacketTrue (record w { phase = put w.phase d (Busy m) })) w.wire key None x.packets tt) x
