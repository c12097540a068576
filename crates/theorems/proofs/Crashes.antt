-- A process crashes
use Rattle.std.proofs.Common.{◌≡◌, ◌≢◌, ℕ, suc, ◌+◌, ◌<◌, ◌≤◌, length, take, true, false, refl, arith}
use Rattle.std.specs.Prelude.{Some, None, slice_get, if◌then◌else◌}
use Rattle.world.specs.declared.message.Message.{Message}
use Rattle.world.specs.declared.packet.Packet.TheVariants.{Number, Acknowledgement}
use Rattle.world.specs.History.{nth, count_of}
use Rattle.world.specs.Phases.{Up, Down, is_down, is_up}
use Rattle.world.specs.World.{World}
use Rattle.world.specs.Logs.{payloads, length_in}
use Rattle.world.specs.Calls.{crash}
use Rattle.theorems.specs.Kept.{IsEntry, Held}
use Rattle.theorems.specs.Invariants.Secured.{Secured, Covers}
use Rattle.theorems.specs.Invariants.Exact.{JobSafe, IsRecorded, Names, PacketTrue, is_restored, is_alone, Exact}
use Rattle.theorems.specs.Invariants.Sound.{JobNext, Replays, IsPast, is_recovering, Sound}
use Rattle.theorems.proofs.Changes.{choose, elsewhere}
use Rattle.theorems.proofs.ListLemmas.{at-number, nth-of, begins-self}
use Rattle.theorems.proofs.HistoryLemmas.{above}
use Rattle.theorems.proofs.PhaseLemmas.{up-restored, up-down, up-length}
use Rattle.theorems.proofs.LogLemmas.{entry-of}
use Rattle.theorems.proofs.SecuredLemmas.{Carries, safe, job-safe, covers, covers-none}
use Rattle.theorems.proofs.Frames.{shape-by, true-by}

pub sound-crash : (w : World) (p : ℕ) → 0 < p → p ≤ w.count → Sound w → Sound (crash w p)
sound-crash w p inside below h =
    record {
      grows = h.grows;
      outside = choose p (λ j b. (0 < j → w.count < j) → (if b then Down else w.phase j) ≡ Up) (λ e. let i : w.count < p = e inside in absurd (omega arith)) (λ j _. h.outside j);
      received = h.received;
      working = choose p (λ j b. JobNext w.count j (w.history j) (if b then Down else w.phase j)) tt (λ j _. h.working j);
      saved = h.saved;
      replays = choose p (λ j b. Replays (w.saved j) (length (w.history j)) (if b then Down else w.phase j)) tt (λ j _. h.replays j);
      acknowledged = choose p (λ j b. (m : ℕ) → (if b then (λ _. false) else w.acknowledged j) m ≡ true → m ≤ length (w.history j)) (λ m e. absurd (cc)) (λ j _. h.acknowledged j);
      recovering = choose p (λ j b. is_recovering (if b then Down else w.phase j) ≡ true → (m : ℕ) → 0 < m → m ≤ length (w.history j) → (if b then (λ _. false) else w.acknowledged j) m ≡ true) (λ e. absurd (cc)) (λ j _. h.recovering j);
      covered = λ q a s. choose p (λ j b. (if b then w.saved_trims p else w.trims j) q ≤ count_of j (take (w.saved q) (w.history q)))
          (let x : w.saved_trims p q ≤ w.trims p q = h.trims p q in let y : w.trims p q ≤ count_of p (take (w.saved q) (w.history q)) = h.covered q a p in omega arith) (λ j _. h.covered q a j) s;
      shown_covered = choose p (λ j b. (if b then w.saved_trims p else w.trims j) 0 ≤ count_of j w.shown)
          (let x : w.saved_trims p 0 ≤ w.trims p 0 = h.trims p 0 in let y : w.trims p 0 ≤ count_of p w.shown = h.shown_covered p in omega arith) (λ j _. h.shown_covered j);
      trims = λ s d. choose p (λ j b. w.saved_trims j d ≤ (if b then w.saved_trims p else w.trims j) d) (omega arith) (λ j _. h.trims j d) s;
      packets = λ key. shape-by w (crash w p) (λ d t s. s) past (w.wire key) (h.packets key);
      shown = h.shown;
    }
  where
    past : (r k : ℕ) → IsPast w r k → IsPast (crash w p) r k
    past r k = choose p (λ j b. IsPast w j k → record { past : k ≤ (if b then w.incarnation p + 1 else w.incarnation j); live : k ≡ (if b then w.incarnation p + 1 else w.incarnation j) → is_up (if b then Down else w.phase j) ≡ true })
        (λ s. let a : k ≤ w.incarnation p = s.past in record { past = omega arith; live = λ e. absurd (omega arith) }) (λ j _ s. s) r

-- what p has secured, logs that are up hold
module _ (w : World) (p : ℕ) (others : (q : ℕ) → q ≢ p → is_up (w.phase q) ≡ true) (live : is_down (w.phase p) ≡ false) (s : Sound w) (h : Exact w) where
  held-after : (m : ℕ) → w.saved p < m → m ≤ length (w.history p) → w.acknowledged p m ≡ true → Held (crash w p) p m
  held-after m above within acknowledged =
      let got : (x : Message) × (nth (w.history p) m ≡ Some x) = nth-of (w.history p) m (omega arith) within in
      let at : (k : ℕ) × (m ≡ suc k) × (slice_get (w.history p) k ≡ Some got.0) = at-number (w.history p) m got.0 got.1 in
      let number : m ≡ suc at.0 = at.1 in
      let other : got.0.sender ≢ p = (s.received p at.0 got.0 at.2).other in
      let up : is_up (w.phase got.0.sender) ≡ true = others got.0.sender other in
      let recorded : w.numbers got.0.sender p got.0.ssn ≡ Some m = h.acknowledged p m acknowledged above got.0 got.1 (up-restored _ up p) in
      let entry : IsEntry w got.0.sender p got.0.ssn = entry-of w s h p at.0 got.0 at.2 (omega arith) (up-down _ up) (up-length _ up _ _) in
      record {
        by = got.0.sender;
        ssn = got.0.ssn;
        number = elsewhere p (λ a b. (w.numbers a p got.0.ssn ≡ Some m) → (if b then (λ _ _. None) else w.numbers a) p got.0.ssn ≡ Some m) (λ a e. e) got.0.sender other recorded;
        entry = elsewhere p (λ a b. IsEntry w a p got.0.ssn → record {
          live : is_down (if b then Down else w.phase a) ≡ false;
          above : (if b then w.saved_trims p else w.trims a) p < got.0.ssn;
          within : got.0.ssn ≤ length (payloads w a (take (length_in (w.history a) (w.saved a) (if b then Down else w.phase a)) (w.history a)) p);
        }) (λ a e. e) got.0.sender other entry;
      }

  pub carries-crash : Carries w (crash w p)
  carries-crash =
      record {
        secured = λ q k. choose p (λ j b. Secured w j k → record {
          within : k ≤ length (w.history j);
          held : is_down (if b then Down else w.phase j) ≡ true → (m : ℕ) → w.saved j < m → m ≤ k → Held (crash w p) j m;
          acknowledged : is_down (if b then Down else w.phase j) ≡ false → (m : ℕ) → 0 < m → m ≤ k → (if b then (λ _. false) else w.acknowledged j) m ≡ true;
        })
            (λ c. let l : k ≤ length (w.history p) = c.within in record { within = l; held = λ _ m a b. held-after m a (omega arith) (c.acknowledged live m (omega arith) b); acknowledged = λ e. absurd (cc) })
            (λ j ne c. record { within = c.within; held = λ e. absurd (let f : is_down (w.phase j) ≡ false = up-down _ (others j ne) in cc); acknowledged = c.acknowledged }) q;
        same = λ q k _. refl;
        payloads_grow = λ a g d. begins-self _;
      }

  recorded-after : (q m : ℕ) → IsRecorded w q m → IsRecorded (crash w p) q m
  recorded-after q m r a x e = choose p (λ j b. (is_restored (w.phase j) q ≡ true → w.numbers j q x.ssn ≡ Some m) → is_restored (if b then Down else w.phase j) q ≡ true → (if b then (λ _ _. None) else w.numbers j) q x.ssn ≡ Some m)
      (λ _ f. absurd (cc)) (λ j _ g. g) x.sender (r a x e)

  pub exact-crash : Exact (crash w p)
  exact-crash =
      record {
        alone = choose p (λ j b. is_alone (if b then Down else w.phase j) ≡ false) refl (λ j _. h.alone j);
        recorded = choose p (λ j b. (q i m : ℕ) → (if b then (λ _ _. None) else w.numbers j) q i ≡ Some m → Names (w.history q) m j i) (λ q i m e. absurd (cc)) (λ j _. h.recorded j);
        acknowledged = choose p (λ j b. (m : ℕ) → (if b then (λ _. false) else w.acknowledged j) m ≡ true → IsRecorded (crash w p) j m) (λ m e. absurd (cc)) (λ j _ m e. recorded-after j m (h.acknowledged j m e));
        packets = λ key. true-by w (crash w p) (safe carries-crash) number acknowledgement (w.wire key) (s.packets key) (h.packets key);
        working = choose p (λ j b. JobSafe (crash w p) j (if b then Down else w.phase j)) tt (λ j _. job-safe carries-crash j (w.phase j) (h.working j));
        received = λ q k y e. safe carries-crash q y (h.received q k y e);
        shown = λ k y e. safe carries-crash 0 y (h.shown k y e);
        released = choose p (λ j b. (d : ℕ) → Covers (crash w p) j d ((if b then (λ _. 0) else w.released j) d)) (covers-none (crash w p) p) (λ j _ d. covers carries-crash j d (w.released j d) (h.released j d));
      }
    where
      past : (r k : ℕ) → IsPast w r k → k ≡ (crash w p).incarnation r → k ≡ w.incarnation r
      past r k = choose p (λ j b. IsPast w j k → k ≡ (if b then w.incarnation p + 1 else w.incarnation j) → k ≡ w.incarnation j) (λ f e. let a : k ≤ w.incarnation p = f.past in absurd (omega arith)) (λ j _ _ e. e) r

      number : (r t i m k : ℕ) → IsPast w r k → PacketTrue w (Some (Number r t i m k)) → PacketTrue (crash w p) (Some (Number r t i m k))
      number r t i m k f g e = g (past r k f e)

      acknowledgement : (t r m k : ℕ) → IsPast w r k → PacketTrue w (Some (Acknowledgement t r m k)) → PacketTrue (crash w p) (Some (Acknowledgement t r m k))
      acknowledgement t r m k f g e = let y = g (past r k f e) in record { message = y.message; at = y.at; sender = y.sender; recorded = recorded-after r m y.recorded }
