-- A process restores its numbers for a peer
use Rattle.std.proofs.Common.{◌≡◌, ◌≢◌, ◌⊎◌, inl, inr, ℕ, suc, ◌<◌, ◌≤◌, List, [], ◌∷◌, Bool, true, false, refl, sym, ap, ◌∙◌, subst, arith}
use Rattle.std.specs.Prelude.{Some, slice_get, ◌||◌, if◌then◌else◌, ◌==◌}
use Rattle.std.proofs.lemmas.Bool.Decides.{nat_tests}
use Rattle.world.specs.declared.message.Message.{Message}
use Rattle.world.specs.History.{nth, rsn_of}
use Rattle.world.specs.Phases.{Resync, is_down, has, without}
use Rattle.world.specs.World.{World, put}
use Rattle.world.specs.Logs.{is_entry}
use Rattle.world.specs.Calls.{told, resync}
use Rattle.theorems.specs.Kept.{IsEntry}
use Rattle.theorems.specs.Invariants.Exact.{IsRecorded, Names, is_restored, Exact}
use Rattle.theorems.specs.Invariants.Sound.{Sound}
use Rattle.theorems.proofs.Changes.{choose, at-itself}
use Rattle.theorems.proofs.ListLemmas.{at-number}
use Rattle.theorems.proofs.HistoryLemmas.{placed, names-found}
use Rattle.theorems.proofs.LogLemmas.{entry-test, entry-of}
use Rattle.theorems.proofs.SecuredLemmas.{Carries, safe, job-safe, covers}
use Rattle.theorems.proofs.Frames.{Told, true-by, sound-beside, carries-kept}
use Rattle.theorems.proofs.Replays.{sound-ready, exact-ready}

-- p's log has for its messages to r the numbers that r told it
abbrev pub renumbered : World → ℕ → ℕ → World
renumbered w p r = record w { numbers = put w.numbers p (put (w.numbers p) r (told w p r)) }

-- leaving r out of the peers leaves out no other
pub without-has : (ps : List ℕ) (r q : ℕ) → q ≢ r → has (without ps r) q ≡ false → has ps q ≡ false
without-has [] r q ne e = refl
without-has (x ∷ ps) r q ne e = split (x == r) refl e (without-has ps r q ne)
  where
    split : (b : Bool) → (x == r) ≡ b → has (if b then without ps r else x ∷ without ps r) q ≡ false → (has (without ps r) q ≡ false → has ps q ≡ false) → ((q == x) || has ps q) ≡ false
    split true f e more = let g : (q == x) ≡ false = grind (arith, nat_tests) in rw g (more e)
    split false f e more = go (q == x) e
      where
        go : (c : Bool) → (c || has (without ps r) q) ≡ false → (c || has ps q) ≡ false
        go true e = e
        go false e = more e

pub sound-renumbered : (w : World) (p r : ℕ) → Sound w → Sound (renumbered w p r)
sound-renumbered w p r s = sound-beside w (put w.numbers p (put (w.numbers p) r (told w p r))) w.released w.inputs w.feeds s

pub sound-resync : (w : World) (p r : ℕ) (todo : List ℕ) → 0 < p → p ≤ w.count → w.phase p ≡ Resync todo → Sound w → Sound (resync w p r)
sound-resync w p r todo a b e s = rw e (sound-ready (renumbered w p r) p (without todo r) a b (rw e refl) (sound-renumbered w p r s))

module _ (w : World) (p r : ℕ) (s : Sound w) (h : Exact w) where
  -- what p's log has for r then is what r received
  told-names : (i m : ℕ) → told w p r i ≡ Some m → Names (w.history r) m p i
  told-names i m e = split (is_entry w p r i) e
    where
      split : (b : Bool) → (if b then rsn_of (w.history r) p i else w.numbers p r i) ≡ Some m → Names (w.history r) m p i
      split true e = names-found (w.history r) p i m e
      split false e = h.recorded p r i m e

  -- a message of p that r received is told as it is
  told-placed : (m : ℕ) (y : Message) → nth (w.history r) m ≡ Some y → y.sender ≡ p → rsn_of (w.history r) p y.ssn ≡ Some m
  told-placed m y e i =
      let at : (k : ℕ) × (m ≡ suc k) × (slice_get (w.history r) k ≡ Some y) = at-number (w.history r) m y e in
      let f : rsn_of (w.history r) y.sender y.ssn ≡ Some (suc at.0) = placed w.count r (w.history r) (s.received r) at.0 y at.2 in
      let P : ℕ → Type 0 = λ a. rsn_of (w.history r) a y.ssn ≡ Some (suc at.0) in
      subst P i f ∙ ap (λ z. Some z) (sym at.1)

  told-keeps : (m : ℕ) (y : Message) → nth (w.history r) m ≡ Some y → y.sender ≡ p → w.numbers p r y.ssn ≡ Some m → told w p r y.ssn ≡ Some m
  told-keeps m y e i n = split (is_entry w p r y.ssn)
    where
      split : (b : Bool) → (if b then rsn_of (w.history r) p y.ssn else w.numbers p r y.ssn) ≡ Some m
      split true = told-placed m y e i
      split false = n

  renumbered-keeps : (q m : ℕ) (y : Message) → nth (w.history q) m ≡ Some y → w.numbers y.sender q y.ssn ≡ Some m → (renumbered w p r).numbers y.sender q y.ssn ≡ Some m
  renumbered-keeps q m y e =
      choose p (λ a b. a ≡ y.sender → w.numbers a q y.ssn ≡ Some m → (if b then put (w.numbers p) r (told w p r) else w.numbers a) q y.ssn ≡ Some m)
      (λ i. choose r (λ c b. nth (w.history c) m ≡ Some y → w.numbers p c y.ssn ≡ Some m → (if b then told w p r else w.numbers p c) y.ssn ≡ Some m) (λ f n. told-keeps m y f (sym i) n) (λ c _ _ n. n) q e)
      (λ a _ _ n. n) y.sender refl

  renumbered-recorded : (q m : ℕ) → IsRecorded w q m → IsRecorded (renumbered w p r) q m
  renumbered-recorded q m f a y e g = renumbered-keeps q m y e (f a y e g)

  pub carries-renumbered : is_down (w.phase r) ≡ false → Carries w (renumbered w p r)
  carries-renumbered live = carries-kept w w.trims (renumbered w p r).numbers (λ q m d _ l. record {
    by = l.by;
    ssn = l.ssn;
    entry = l.entry;
    number = choose p (λ a b. w.numbers a q l.ssn ≡ Some m → (if b then put (w.numbers p) r (told w p r) else w.numbers a) q l.ssn ≡ Some m)
        (choose r (λ c b. is_down (w.phase c) ≡ true → w.numbers p c l.ssn ≡ Some m → (if b then told w p r else w.numbers p c) l.ssn ≡ Some m) (λ f. absurd (let g : true ≡ false = sym f ∙ live in cc)) (λ c _ _ n. n) q d)
        (λ a _ n. n) l.by l.number;
  })

  exact-renumbered : is_down (w.phase r) ≡ false → Exact (renumbered w p r)
  exact-renumbered live =
      let c : Carries w (renumbered w p r) = carries-renumbered live in
      record {
        alone = h.alone;
        recorded = choose p (λ a b. (q i m : ℕ) → (if b then put (w.numbers p) r (told w p r) else w.numbers a) q i ≡ Some m → Names (w.history q) m a i)
            (choose r (λ q b. (i m : ℕ) → (if b then told w p r else w.numbers p q) i ≡ Some m → Names (w.history q) m p i) told-names (λ q _. h.recorded p q)) (λ a _. h.recorded a);
        acknowledged = λ q m e. renumbered-recorded q m (h.acknowledged q m e);
        packets = λ j. true-by w (renumbered w p r) (safe c) (λ _ _ _ _ _ _ f. f) (λ t q m k _ f e. let y = f e in record { message = y.message; at = y.at; sender = y.sender; recorded = renumbered-recorded q m y.recorded }) (w.wire j) (s.packets j) (h.packets j);
        working = λ q. job-safe c q (w.phase q) (h.working q);
        received = λ q j y e. safe c q y (h.received q j y e);
        shown = λ j y e. safe c 0 y (h.shown j y e);
        released = λ q d. covers c q d (w.released q d) (h.released q d);
      }

  renumbered-told : (todo : List ℕ) → w.phase p ≡ Resync todo → Told (renumbered w p r) p r
  renumbered-told todo e m y a f i =
      let at : (k : ℕ) × (m ≡ suc k) × (slice_get (w.history r) k ≡ Some y) = at-number (w.history r) m y f in
      let number : m ≡ suc at.0 = at.1 in
      let entry : IsEntry w y.sender r y.ssn = entry-of w s h r at.0 y at.2 (omega arith) (rw (i, e) refl) (rw (i, e) refl) in
      let test : is_entry w p r y.ssn ≡ true = rw i at (entry-test w y.sender r y.ssn entry) in
      at-itself p (λ b. (if b then put (w.numbers p) r (told w p r) else w.numbers p) r y.ssn ≡ Some m) (at-itself r (λ b. (if b then told w p r else w.numbers p r) y.ssn ≡ Some m) (rw test (told-placed m y f i)))

  pub exact-resync : (todo : List ℕ) → 0 < p → p ≤ w.count → w.phase p ≡ Resync todo → is_down (w.phase r) ≡ false → Exact (resync w p r)
  exact-resync todo a b e live = rw e (exact-ready (renumbered w p r) p (without todo r) a b (rw e refl) less (sound-renumbered w p r s) (exact-renumbered live))
    where
      less : (q : ℕ) → has (without todo r) q ≡ false → (is_restored (w.phase p) q ≡ true) ⊎ Told (renumbered w p r) p q
      less q f = split (q == r) refl
        where
          split : (b : Bool) → (q == r) ≡ b → (is_restored (w.phase p) q ≡ true) ⊎ Told (renumbered w p r) p q
          split true t = inr (let same : r ≡ q = grind (arith, nat_tests) in let P : ℕ → Type 0 = λ c. Told (renumbered w p r) p c in subst P same (renumbered-told todo e))
          split false t = inl (rw e (let n : has todo q ≡ false = without-has todo r q (grind (arith, nat_tests)) f in rw n refl))
