-- A live job is finished
use Rattle.std.proofs.Common.{◌≡◌, ◌⊎◌, inl, inr, ℕ, zero, suc, ◌+◌, ◌<◌, ◌≤◌, List, [], ◌∷◌, ◌++◌, length, take, Bool, true, false, refl, sym, ◌∙◌, subst, arith, length-append}
use Rattle.std.specs.Prelude.{Some, slice_get, if◌then◌else◌}
use Rattle.world.specs.declared.message.Message.{Message}
use Rattle.world.specs.declared.packet.Packet.TheVariants.{Number}
use Rattle.world.specs.History.{nth, count_of}
use Rattle.world.specs.Phases.{Up, Busy, is_up, is_down}
use Rattle.world.specs.World.{World, put}
use Rattle.world.specs.Logs.{payloads, sent, length_in}
use Rattle.world.specs.Calls.{commit}
use Rattle.theorems.specs.Growth.{Begins}
use Rattle.theorems.specs.Invariants.Secured.{Safe}
use Rattle.theorems.specs.Invariants.Exact.{JobSafe, IsRecorded, is_restored, is_alone, Exact}
use Rattle.theorems.specs.Invariants.Sound.{JobNext, IsNext, Replays, is_recovering, Sound}
use Rattle.theorems.proofs.Changes.{choose, at-itself}
use Rattle.theorems.proofs.ListLemmas.{take-push, get-before, get-last, get-push, nth-prefix, nth-within, begins-self, begins-length}
use Rattle.theorems.proofs.HistoryLemmas.{ordered-push}
use Rattle.theorems.proofs.LogLemmas.{payloads-prefix}
use Rattle.theorems.proofs.SecuredLemmas.{Carries, safe, job-safe, Grown, carries-grown, covers}
use Rattle.theorems.proofs.Frames.{shape-by, true-by}
use Rattle.theorems.proofs.Wire.{sound-put, exact-put}

-- without the packet
abbrev pub with-received : World → ℕ → Message → World
with-received w p m = record w { history = put w.history p (w.history p ++ m ∷ []); phase = put w.phase p Up }

longer : (h : List Message) (m : Message) (k : ℕ) → k ≤ length h → k ≤ length (h ++ m ∷ [])
longer h m k l = omega (arith, length-append {A = Message})

sound-received : (w : World) (p : ℕ) (m : Message) → w.phase p ≡ Busy m → Sound w → Sound (with-received w p m)
sound-received w p m busy h =
    let next : IsNext w.count p (w.history p) m = rw busy at (h.working p) in
    let old : ℕ → Bool → List Message = λ q b. if b then w.history p ++ m ∷ [] else w.history q in
    record {
      grows = h.grows;
      outside = choose p (λ j b. (0 < j → w.count < j) → (if b then Up else w.phase j) ≡ Up) (λ _. refl) (λ j _. h.outside j);
      received = choose p (λ j b. (k : ℕ) (x : Message) → slice_get (if b then w.history p ++ m ∷ [] else w.history j) k ≡ Some x → IsNext w.count j (take k (if b then w.history p ++ m ∷ [] else w.history j)) x)
          (ordered-push w.count p (w.history p) m (h.received p) next) (λ j _. h.received j);
      working = choose p (λ j b. JobNext w.count j (if b then w.history p ++ m ∷ [] else w.history j) (if b then Up else w.phase j)) tt (λ j _. h.working j);
      saved = choose p (λ j b. w.saved j ≤ length (if b then w.history p ++ m ∷ [] else w.history j)) (longer _ m _ (h.saved p)) (λ j _. h.saved j);
      replays = choose p (λ j b. Replays (w.saved j) (length (if b then w.history p ++ m ∷ [] else w.history j)) (if b then Up else w.phase j)) tt (λ j _. h.replays j);
      acknowledged = choose p (λ j b. (k : ℕ) → w.acknowledged j k ≡ true → k ≤ length (if b then w.history p ++ m ∷ [] else w.history j)) (λ k e. longer _ m k (h.acknowledged p k e)) (λ j _. h.acknowledged j);
      recovering = choose p (λ j b. is_recovering (if b then Up else w.phase j) ≡ true → (k : ℕ) → 0 < k → k ≤ length (if b then w.history p ++ m ∷ [] else w.history j) → w.acknowledged j k ≡ true) (λ e. absurd (cc)) (λ j _. h.recovering j);
      covered = choose p (λ j b. 0 < j → (s : ℕ) → w.trims s j ≤ count_of s (take (w.saved j) (if b then w.history p ++ m ∷ [] else w.history j)))
          (λ a s. rw (take-push (w.history p) (m ∷ []) (w.saved p) (h.saved p)) (h.covered p a s)) (λ j _. h.covered j);
      shown_covered = h.shown_covered;
      trims = h.trims;
      packets = λ key. shape-by w (with-received w p m) (λ d t s. s)
          (λ r k s. record { past = s.past; live = choose p (λ j b. (k ≡ w.incarnation j → is_up (w.phase j) ≡ true) → k ≡ w.incarnation j → is_up (if b then Up else w.phase j) ≡ true) (λ _ _. refl) (λ j _ l. l) r s.live })
          (w.wire key) (h.packets key);
      shown = h.shown;
    }

pub sound-commit : (w : World) (p : ℕ) (m : Message) (new : ℕ) → w.phase p ≡ Busy m → Sound w → Sound (commit w p m new)
sound-commit w p m new busy h =
    sound-put (with-received w p m) new (Some (Number p m.sender m.ssn (length (w.history p) + 1) (w.incarnation p))) (record { past = omega arith; live = λ _. at-itself p (λ b. is_up (if b then Up else w.phase p) ≡ true) refl })
    (sound-received w p m busy h)

-- a world grows by the message that is received
pub grown-received : (w : World) (p : ℕ) (m : Message) → w.phase p ≡ Busy m → Sound w → Grown w (with-received w p m)
grown-received w p m busy h =
    let live : is_down (w.phase p) ≡ false = rw busy refl in
    let down : (q : ℕ) → is_down (put w.phase p Up q) ≡ is_down (w.phase q) = choose p (λ j b. is_down (if b then Up else w.phase j) ≡ is_down (w.phase j)) (sym live) (λ j _. refl) in
    let more : (s d : ℕ) → Begins (sent w s d) (sent (with-received w p m) s d) =
    λ s d. choose p (λ j b. Begins (sent w j d) (payloads w j (take (length_in (if b then w.history p ++ m ∷ [] else w.history j) (w.saved j) (if b then Up else w.phase j)) (if b then w.history p ++ m ∷ [] else w.history j)) d)) (grown d) (λ j _. begins-self _) s in
    record {
      down = down;
      history = choose p (λ j b. Begins (w.history j) (if b then w.history p ++ m ∷ [] else w.history j)) (m ∷ [], refl) (λ j _. begins-self _);
      acknowledged = λ q k _ _ e. e;
      held = λ q _. (refl, λ k _ _ l. record { by = l.by; ssn = l.ssn; number = l.number; entry = record { live = down l.by ∙ l.entry.live; above = l.entry.above; within = let a : length (sent w l.by q) ≤ length (sent (with-received w p m) l.by q) = begins-length _ _ (more l.by q) in let b : l.ssn ≤ length (sent w l.by q) = l.entry.within in omega arith } });
      payloads_grow = λ s g d. begins-self _;
    }
  where
    grown : (d : ℕ) → Begins (sent w p d) (payloads w p (take (length (w.history p ++ m ∷ [])) (w.history p ++ m ∷ [])) d)
    grown d =
        rw (busy, ← take-push (w.history p) (m ∷ []) (length (w.history p)) (omega arith)) (payloads-prefix w h.grows p (w.history p ++ m ∷ []) d (length (w.history p)) _ (omega (arith, length-append {A = Message})))

pub exact-commit : (w : World) (p : ℕ) (m : Message) (new : ℕ) → w.phase p ≡ Busy m → Sound w → Exact w → Exact (commit w p m new)
exact-commit w p m new busy s h =
    let v : World = with-received w p m in
    let c : Carries w v = carries-grown (grown-received w p m busy s) in
    let is : Safe w p m = rw busy at (h.working p) in
    let back : (a q : ℕ) → is_restored (put w.phase p Up a) q ≡ true → is_restored (w.phase a) q ≡ true =
    λ a q. choose p (λ j b. is_restored (if b then Up else w.phase j) q ≡ true → is_restored (w.phase j) q ≡ true) (λ _. rw busy refl) (λ j _ e. e) a in
    let older : (q k : ℕ) (x : Message) → k ≤ length (w.history q) → nth (v.history q) k ≡ Some x → nth (w.history q) k ≡ Some x =
    λ q k x l. choose p (λ j b. k ≤ length (w.history j) → nth (if b then w.history p ++ m ∷ [] else w.history j) k ≡ Some x → nth (w.history j) k ≡ Some x) (was k x) (λ j _ _ e. e) q l in
    let newer : (q k : ℕ) (x : Message) → nth (w.history q) k ≡ Some x → nth (v.history q) k ≡ Some x =
    λ q k x. choose p (λ j b. nth (w.history j) k ≡ Some x → nth (if b then w.history p ++ m ∷ [] else w.history j) k ≡ Some x) (nth-prefix _ _ k x (m ∷ [], refl)) (λ j _ e. e) q in
    let recorded : (q k : ℕ) → k ≤ length (w.history q) → IsRecorded w q k → IsRecorded v q k = λ q k l r a y e f. r a y (older q k y l e) (back y.sender q f) in
    let x : Exact v = record {
      alone = choose p (λ j b. is_alone (if b then Up else w.phase j) ≡ false) refl (λ j _. h.alone j);
      recorded = λ a q i k e. let n = h.recorded a q i k e in record { message = n.message; at = newer q k n.message n.at; sender = n.sender; ssn = n.ssn };
      acknowledged = λ q k e. recorded q k (s.acknowledged q k e) (h.acknowledged q k e);
      packets = λ key. true-by w v (safe c) (λ r t i k n _ f e. record { message = (f e).message; at = newer r k (f e).message (f e).at; sender = (f e).sender; ssn = (f e).ssn })
          (λ t r k n _ f e. record { message = (f e).message; at = newer r k (f e).message (f e).at; sender = (f e).sender; recorded = recorded r k (nth-within (w.history r) k (f e).message (f e).at).1 (f e).recorded })
          (w.wire key) (s.packets key) (h.packets key);
      working = choose p (λ j b. JobSafe v j (if b then Up else w.phase j)) tt (λ j _. job-safe c j (w.phase j) (h.working j));
      received = choose p (λ j b. (k : ℕ) (y : Message) → slice_get (if b then w.history p ++ m ∷ [] else w.history j) k ≡ Some y → Safe v j y)
          (λ k y e. of v c is k y (get-push (w.history p) m k y e)) (λ j _ k y e. safe c j y (h.received j k y e));
      shown = λ k y e. safe c 0 y (h.shown k y e);
      released = λ q d. covers c q d (w.released q d) (h.released q d);
    } in
    exact-put v new (Some (Number p m.sender m.ssn (length (w.history p) + 1) (w.incarnation p))) (λ _. record { message = m; at = at-itself p (λ b. nth (if b then w.history p ++ m ∷ [] else w.history p) (length (w.history p) + 1) ≡ Some m) (let e : length (w.history p) + 1 ≡ suc (length (w.history p)) = omega arith in rw e (get-last (w.history p) m)); sender = refl; ssn = refl }) x
  where
    was : (k : ℕ) (x : Message) → k ≤ length (w.history p) → nth (w.history p ++ m ∷ []) k ≡ Some x → nth (w.history p) k ≡ Some x
    was zero x l e = absurd (cc)
    was (suc k) x l e = get-before (w.history p) (m ∷ []) k x (omega arith) e

    of : (v : World) → Carries w v → Safe w p m → (k : ℕ) (y : Message) → ((k < length (w.history p)) × (slice_get (w.history p) k ≡ Some y)) ⊎ ((k ≡ length (w.history p)) × (m ≡ y)) → Safe v p y
    of v c is k y (inl r) = safe c p y (h.received p k y r.1)
    of v c is k y (inr r) = let P : Message → Type 0 = λ z. Safe v p z in subst P r.1 (safe c p m is)
