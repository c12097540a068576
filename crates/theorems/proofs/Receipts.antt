-- A number arrives at its sender, and an acknowledgement at its receiver
use Rattle.std.proofs.Common.{◌≡◌, ◌⊎◌, inl, inr, ℕ, suc, ◌<◌, ◌≤◌, length, take, max, Bool, true, false, refl, sym, ap, ◌∙◌, subst, arith}
use Rattle.std.specs.Prelude.{Some, None, slice_get, nat_le, if◌then◌else◌, ◌==◌}
use Rattle.std.proofs.lemmas.Bool.Decides.{nat_tests}
use Rattle.world.specs.declared.message.Message.{Message}
use Rattle.world.specs.declared.packet.Packet.TheVariants.{Acknowledgement}
use Rattle.world.specs.History.{nth}
use Rattle.world.specs.Phases.{is_down}
use Rattle.world.specs.World.{World, put}
use Rattle.world.specs.Logs.{payloads, run_to}
use Rattle.world.specs.Calls.{recorded, note, acknowledge}
use Rattle.theorems.specs.Invariants.Secured.{Covers}
use Rattle.theorems.specs.Invariants.Sound.{IsPast, PacketShape, Sound}
use Rattle.theorems.specs.Invariants.Exact.{IsRecorded, Names, Exact}
use Rattle.theorems.proofs.RunLemmas.{run_to-is}
use Rattle.theorems.proofs.Changes.{choose, at-itself}
use Rattle.theorems.proofs.ListLemmas.{at-number, begins-self}
use Rattle.theorems.proofs.HistoryLemmas.{unique}
use Rattle.theorems.proofs.SecuredLemmas.{Carries, safe, job-safe, carries-grown, covers}
use Rattle.theorems.proofs.Frames.{put-wire, true-by, sound-beside}
use Rattle.theorems.proofs.Wire.{exact-put, sound-swap, exact-swap}

-- what is recorded after that
pub recorded-cases : (w : World) (s r i k a q j : ℕ) → ((a ≡ s) × (q ≡ r) × (j ≡ i) × (recorded w s r i k a q j ≡ Some k)) ⊎ (recorded w s r i k a q j ≡ w.numbers a q j)
recorded-cases w s r i k a q j = split (a == s) refl (q == r) refl (j == i) refl
  where
    split : (b : Bool) → (a == s) ≡ b → (c : Bool) → (q == r) ≡ c → (d : Bool) → (j == i) ≡ d
        → ((a ≡ s) × (q ≡ r) × (j ≡ i) × (recorded w s r i k a q j ≡ Some k)) ⊎ (recorded w s r i k a q j ≡ w.numbers a q j)
    split true e true f true g = inl (grind (arith, nat_tests), grind (arith, nat_tests), grind (arith, nat_tests), rw (e, f, g) refl)
    split true e true f false g = let x : a ≡ s = grind (arith, nat_tests) in let y : q ≡ r = grind (arith, nat_tests) in inr (rw (e, f, g) (cc))
    split true e false f d g = let x : a ≡ s = grind (arith, nat_tests) in inr (rw (e, f) (cc))
    split false e c f d g = inr (rw e refl)

recorded-same : (w : World) (s r i k : ℕ) → recorded w s r i k s r i ≡ Some k
recorded-same w s r i k = let e : (s == s) ≡ true = grind (arith, nat_tests) in let f : (r == r) ≡ true = grind (arith, nat_tests) in let g : (i == i) ≡ true = grind (arith, nat_tests) in rw (e, f, g) refl

-- a number for a process that isn't down costs nothing that is secured
pub carries-recorded : (w : World) (r s i k : ℕ) → is_down (w.phase r) ≡ false → Carries w (record w { numbers = recorded w s r i k })
carries-recorded w r s i k live = carries-grown (record {
  down = λ p. refl;
  history = λ p. begins-self _;
  acknowledged = λ p m _ _ e. e;
  payloads_grow = λ a g d. begins-self _;
  held = λ p d. (refl, λ m _ _ l. record { by = l.by; ssn = l.ssn; number = held-on p d m l.by l.ssn l.number (recorded-cases w s r i k l.by p l.ssn); entry = l.entry });
})
  where
    held-on : (p : ℕ) → is_down (w.phase p) ≡ true → (m a j : ℕ) → w.numbers a p j ≡ Some m → ((a ≡ s) × (p ≡ r) × (j ≡ i) × (recorded w s r i k a p j ≡ Some k)) ⊎ (recorded w s r i k a p j ≡ w.numbers a p j) → recorded w s r i k a p j ≡ Some m
    held-on p d m a j n (inr t) = t ∙ n
    held-on p d m a j n (inl t) = absurd (let e : is_down (w.phase r) ≡ true = rw t.1 at d in cc)

pub exact-note : (w : World) (key r s i k incarnation new : ℕ) → incarnation ≡ w.incarnation r → is_down (w.phase r) ≡ false → Names (w.history r) k s i → Sound w → Exact w → Exact (note w key r s i k incarnation new)
exact-note w key r s i k incarnation new at live names sound h =
    let v : World = record w { numbers = recorded w s r i k } in
    let number : (a q j m : ℕ) → recorded w s r i k a q j ≡ Some m → Names (w.history q) m a j = λ a q j m e. of a q j m e (recorded-cases w s r i k a q j) in
    let kept : (q m : ℕ) (x : Message) → nth (w.history q) m ≡ Some x → w.numbers x.sender q x.ssn ≡ Some m → recorded w s r i k x.sender q x.ssn ≡ Some m =
    λ q m x e n. stays q m x e n (recorded-cases w s r i k x.sender q x.ssn) in
    let c : Carries w v = carries-recorded w r s i k live in
    let x : Exact v =
    record {
      alone = h.alone;
      recorded = number;
      acknowledged = λ p m e a x f g. kept p m x f (h.acknowledged p m e a x f g);
      packets = λ j. true-by w v (safe c) (λ _ _ _ _ _ _ f. f) (λ a q m n _ f e. record { message = (f e).message; at = (f e).at; sender = (f e).sender; recorded = λ l y g u. kept q m y g ((f e).recorded l y g u) }) (w.wire j) (sound.packets j) (h.packets j);
      working = λ p. job-safe c p (w.phase p) (h.working p);
      received = λ q j y e. safe c q y (h.received q j y e);
      shown = λ j y e. safe c 0 y (h.shown j y e);
      released = λ q d. covers c q d (w.released q d) (h.released q d);
    } in
    exact-swap v key new (Some (Acknowledgement s r k incarnation)) (λ _. record { message = names.message; at = names.at; sender = names.sender; recorded = λ _ y e _. itself y e }) x
  where
    of : (a q j m : ℕ) → recorded w s r i k a q j ≡ Some m → ((a ≡ s) × (q ≡ r) × (j ≡ i) × (recorded w s r i k a q j ≡ Some k)) ⊎ (recorded w s r i k a q j ≡ w.numbers a q j) → Names (w.history q) m a j
    of a q j m e (inl t) =
        let same : k ≡ m = cc in
        let P : ℕ → Type 0 = λ n. Names (w.history q) n a j in
        subst P same (rw (t.0, t.1, t.2) names)
    of a q j m e (inr t) = h.recorded a q j m (sym t ∙ e)

    stays : (q m : ℕ) (x : Message) → nth (w.history q) m ≡ Some x → w.numbers x.sender q x.ssn ≡ Some m → ((x.sender ≡ s) × (q ≡ r) × (x.ssn ≡ i) × (recorded w s r i k x.sender q x.ssn ≡ Some k)) ⊎ (recorded w s r i k x.sender q x.ssn ≡ w.numbers x.sender q x.ssn)
        → recorded w s r i k x.sender q x.ssn ≡ Some m
    stays q m x e n (inr t) = t ∙ n
    stays q m x e n (inl t) =
        let here : nth (w.history r) m ≡ Some x = rw t.1 at e in
        let a : (u : ℕ) × (m ≡ suc u) × (slice_get (w.history r) u ≡ Some x) = at-number (w.history r) m x here in
        let b : (u : ℕ) × (k ≡ suc u) × (slice_get (w.history r) u ≡ Some names.message) = at-number (w.history r) k names.message names.at in
        let one : a.0 ≡ b.0 = unique w.count r (w.history r) (sound.received r) a.0 b.0 x names.message a.2 b.2 (t.0 ∙ sym names.sender) (t.2 ∙ sym names.ssn) in
        t.3 ∙ ap (λ u. Some u) (let am : m ≡ suc a.0 = a.1 in let bk : k ≡ suc b.0 = b.1 in omega arith)

    itself : (y : Message) → nth (w.history r) k ≡ Some y → recorded w s r i k y.sender r y.ssn ≡ Some k
    itself y e =
        let a : y.sender ≡ s = (let f : y ≡ names.message = cc in ap (λ m. m.sender) f ∙ names.sender) in
        let b : y.ssn ≡ i = (let f : y ≡ names.message = cc in ap (λ m. m.ssn) f ∙ names.ssn) in
        rw (a, b) (recorded-same w s r i k)

pub sound-note : (w : World) (key r s i k incarnation new : ℕ) → IsPast w r incarnation → Sound w → Sound (note w key r s i k incarnation new)
sound-note w key r s i k incarnation new past h =
    let v : World = record w { numbers = recorded w s r i k } in
    sound-swap v key new (Some (Acknowledgement s r k incarnation)) past (sound-beside w (recorded w s r i k) w.released w.inputs w.feeds h)

-- of two counts that are covered the greater is
larger : (w : World) (p d a b : ℕ) → Covers w p d a → Covers w p d b → Covers w p d (max a b)
larger w p d a b x y = split (nat_le a b) refl
  where
    split : (c : Bool) → nat_le a b ≡ c → Covers w p d (max a b)
    split true e = let l : a ≤ b = grind (arith, nat_tests) in let m : max a b ≡ b = omega arith in rw m y
    split false e = let l : b < a = grind (arith, nat_tests) in let m : max a b ≡ a = omega arith in rw m x

-- one number of r is acknowledged, without the wire
abbrev pub acknowledged-at : World → ℕ → ℕ → World
acknowledged-at w r k = record (acknowledge w 0 r k) { wire = w.wire }

pub carries-acknowledged : (w : World) (r k : ℕ) → Carries w (acknowledged-at w r k)
carries-acknowledged w r k =
    let more : (p m : ℕ) → w.acknowledged p m ≡ true → put w.acknowledged r (put (w.acknowledged r) k true) p m ≡ true =
    λ p m. choose r (λ j c. w.acknowledged j m ≡ true → (if c then put (w.acknowledged r) k true else w.acknowledged j) m ≡ true) (choose k (λ i c. w.acknowledged r i ≡ true → (if c then true else w.acknowledged r i) ≡ true) (λ _. refl) (λ i _ f. f) m) (λ j _ f. f) p in
    carries-grown (record { down = λ p. refl; history = λ p. begins-self _; acknowledged = λ p m _ _ e. more p m e; payloads_grow = λ a g d. begins-self _; held = λ p d. (refl, λ m _ _ l. l) })

pub sound-acknowledge : (w : World) (key r k : ℕ) → k ≤ length (w.history r) → Sound w → Sound (acknowledge w key r k)
sound-acknowledge w key r k l h =
    record {
      grows = h.grows;
      outside = h.outside;
      received = h.received;
      working = h.working;
      saved = h.saved;
      replays = h.replays;
      acknowledged = choose r (λ j b. (m : ℕ) → (if b then put (w.acknowledged r) k true else w.acknowledged j) m ≡ true → m ≤ length (w.history j))
          (choose k (λ m b. (if b then true else w.acknowledged r m) ≡ true → m ≤ length (w.history r)) (λ _. l) (λ m _. h.acknowledged r m)) (λ j _. h.acknowledged j);
      recovering = λ p e m a b. choose r (λ j c. w.acknowledged j m ≡ true → (if c then put (w.acknowledged r) k true else w.acknowledged j) m ≡ true)
          (choose k (λ i c. w.acknowledged r i ≡ true → (if c then true else w.acknowledged r i) ≡ true) (λ _. refl) (λ i _ f. f) m) (λ j _ f. f) p (h.recovering p e m a b);
      covered = h.covered;
      shown_covered = h.shown_covered;
      trims = h.trims;
      packets = put-wire (PacketShape w) w.wire key None h.packets tt;
      shown = h.shown;
    }

pub exact-acknowledge : (w : World) (key s r k : ℕ) → is_down (w.phase r) ≡ false → IsRecorded w r k → Sound w → Exact w → Exact (acknowledge w key r k)
exact-acknowledge w key s r k live now sound h =
    let v : World = acknowledged-at w r k in
    let c : Carries w v = carries-acknowledged w r k in
    let x : Exact v =
    record {
      alone = h.alone;
      recorded = h.recorded;
      acknowledged = choose r (λ j b. (m : ℕ) → (if b then put (w.acknowledged r) k true else w.acknowledged j) m ≡ true → IsRecorded w j m)
          (choose k (λ m b. (if b then true else w.acknowledged r m) ≡ true → IsRecorded w r m) (λ _. now) (λ m _. h.acknowledged r m)) (λ j _. h.acknowledged j);
      packets = λ j. true-by w v (safe c) (λ _ _ _ _ _ _ f. f) (λ _ _ _ _ _ f. f) (w.wire j) (sound.packets j) (h.packets j);
      working = λ p. job-safe c p (w.phase p) (h.working p);
      received = λ q j y e. safe c q y (h.received q j y e);
      shown = λ j y e. safe c 0 y (h.shown j y e);
      released = choose r (λ j b. (d : ℕ) → Covers v j d ((if b then (λ d. max (w.released r d) (length (payloads w r (take (run_to (put (w.acknowledged r) k true) (length (w.history r))) (w.history r)) d))) else w.released j) d))
          (λ d. larger v r d (w.released r d) _ (covers c r d (w.released r d) (h.released r d)) (run d))
          (λ j _ d. covers c j d (w.released j d) (h.released j d));
    } in
    exact-put v key None tt x
  where
    n : ℕ
    n = run_to (put (w.acknowledged r) k true) (length (w.history r))

    run : (d : ℕ) → Covers (acknowledged-at w r k) r d (length (payloads w r (take n (w.history r)) d))
    run d =
        let i = run_to-is (put (w.acknowledged r) k true) (length (w.history r)) in
        let l : n ≤ length (w.history r) = i.0 in
        record {
          upto = n;
          secured = record { within = l; held = λ e. absurd (let f : true ≡ false = sym e ∙ live in cc); acknowledged = λ _ m a b. at-itself r (λ c. (if c then put (w.acknowledged r) k true else w.acknowledged r) m ≡ true) (i.1 m a b) };
          within = omega arith;
        }
