-- Calls that change the wire, a phase or released counts alone
use Rattle.std.proofs.Common.{◌≡◌, ◌⊎◌, inl, inr, ℕ, suc, ◌<◌, ◌≤◌, length, take, true, false, refl, sym, ◌∙◌, arith, List, Bool}
use Rattle.std.specs.Prelude.{Option, Some, None, slice_get, if◌then◌else◌}
use Rattle.world.specs.declared.message.Message.{Message}
use Rattle.world.specs.declared.packet.Packet.{Packet}
use Rattle.world.specs.declared.packet.Packet.TheVariants.{Delivery, Number, Acknowledgement}
use Rattle.world.specs.History.{nth, count_of, Payload}
use Rattle.world.specs.Phases.{Phase, Up, is_up, is_down}
use Rattle.world.specs.World.{World, put}
use Rattle.world.specs.Logs.{payloads, sent, length_in}
use Rattle.theorems.specs.Growth.{Begins}
use Rattle.theorems.specs.Kept.{Held}
use Rattle.theorems.specs.Invariants.Secured.{Safe, Covers}
use Rattle.theorems.specs.Invariants.Exact.{JobSafe, IsRecorded, PacketTrue, is_restored, is_alone, Exact}
use Rattle.theorems.specs.Invariants.Sound.{JobNext, Replays, IsPast, PacketShape, is_recovering, Sound}
use Rattle.theorems.proofs.Changes.{choose}
use Rattle.theorems.proofs.ListLemmas.{begins-self, begins-length}
use Rattle.theorems.proofs.LogLemmas.{payloads-prefix}
use Rattle.theorems.proofs.SecuredLemmas.{Carries, safe, job-safe, Grown, carries-grown, covers}

-- p's log has the numbers of all its messages that q received after its checkpoint
abbrev pub Told : World → ℕ → ℕ → Type 0
Told w p q = (m : ℕ) (x : Message) → w.saved q < m → nth (w.history q) m ≡ Some x → x.sender ≡ p
    → w.numbers p q x.ssn ≡ Some m

-- what holds of all packets and of a new one still holds of all when the new one is put on the wire
pub put-wire : (P : Option Packet → Type 0) (wire : ℕ → Option Packet) (key : ℕ) (x : Option Packet) → ((j : ℕ) → P (wire j)) → P x → (j : ℕ) → P (put wire key x j)
put-wire P wire key x all now = choose key (λ j b. P (if b then x else wire j)) now (λ j _. all j)

-- what Sound says of dropped log entries, the wire and the outputs, if they become these
pub record Leaves (w : World) (trims : ℕ → ℕ → ℕ) (wire : ℕ → Option Packet) (shown : List Message) : Type 0 where
  pub covered : (p : ℕ) → 0 < p → (s : ℕ) → trims s p ≤ count_of s (take (w.saved p) (w.history p))
  pub shown_covered : (s : ℕ) → trims s 0 ≤ count_of s shown
  pub above : (s d : ℕ) → w.saved_trims s d ≤ trims s d
  pub packets : (key : ℕ) → PacketShape w (wire key)
  pub next : (k : ℕ) (x : Message) → slice_get shown k ≡ Some x → x.ssn ≡ suc (count_of x.sender (take k shown))

module _ (w : World) (numbers : ℕ → ℕ → ℕ → Option ℕ) (released : ℕ → ℕ → ℕ) (inputs : ℕ → List Payload) (feeds : ℕ → Bool) (started : ℕ) where
  -- a world stays sound if its logs, wire and outputs may become these, whatever is recorded, released, put in or started
  pub sound-left : (trims : ℕ → ℕ → ℕ) (wire : ℕ → Option Packet) (shown : List Message) → Leaves w trims wire shown → Sound w
      → Sound (record w { trims = trims; wire = wire; shown = shown; numbers = numbers; released = released; inputs = inputs; feeds = feeds; started = started })
  sound-left trims wire shown l h =
      record {
        grows = h.grows;
        outside = h.outside;
        received = h.received;
        working = h.working;
        saved = h.saved;
        replays = h.replays;
        acknowledged = h.acknowledged;
        recovering = h.recovering;
        covered = l.covered;
        shown_covered = l.shown_covered;
        trims = l.above;
        packets = l.packets;
        shown = l.next;
      }

-- a world stays sound on another wire, if each packet has its shape
pub sound-wire : (w : World) (wire : ℕ → Option Packet) (n : ℕ) → ((key : ℕ) → PacketShape w (wire key)) → Sound w → Sound (record w { wire = wire; started = n })
sound-wire w wire n packets h =
    let left : Leaves w w.trims wire w.shown = record { covered = h.covered; shown_covered = h.shown_covered; above = h.trims; packets = packets; next = h.shown } in
    sound-left w w.numbers w.released w.inputs w.feeds n w.trims wire w.shown left h

-- a world stays exact on another wire with other releases, if each packet is true and messages that outlive a crash send what is released
exact-on : (w : World) (wire : ℕ → Option Packet) (n : ℕ) (released : ℕ → ℕ → ℕ) → ((key : ℕ) → PacketTrue w (wire key)) → ((q d : ℕ) → Covers w q d (released q d)) → Exact w
    → Exact (record w { wire = wire; started = n; released = released })
exact-on w wire n released packets covered h =
    record { alone = h.alone; recorded = h.recorded; acknowledged = h.acknowledged; packets = packets; working = h.working; received = h.received; shown = h.shown; released = covered }

-- on another wire alone
pub exact-wire : (w : World) (wire : ℕ → Option Packet) (n : ℕ) → ((key : ℕ) → PacketTrue w (wire key)) → Exact w → Exact (record w { wire = wire; started = n })
exact-wire w wire n packets h = exact-on w wire n w.released packets h.released h

-- packets keep their shape from v to w
pub shape-by : (v w : World) → ((d : ℕ) (m : Message) → PacketShape v (Some (Delivery d m)) → PacketShape w (Some (Delivery d m))) → ((r k : ℕ) → IsPast v r k → IsPast w r k)
    → (x : Option Packet) → PacketShape v x → PacketShape w x
shape-by v w text past None h = tt
shape-by v w text past (Some (Delivery d m)) h = text d m h
shape-by v w text past (Some (Number r s i m k)) h = past r k h
shape-by v w text past (Some (Acknowledgement s r m k)) h = past r k h

-- and stay true
pub true-by : (v w : World) → ((d : ℕ) (m : Message) → Safe v d m → Safe w d m)
    → ((r s i m k : ℕ) → IsPast v r k → PacketTrue v (Some (Number r s i m k)) → PacketTrue w (Some (Number r s i m k)))
    → ((s r m k : ℕ) → IsPast v r k → PacketTrue v (Some (Acknowledgement s r m k)) → PacketTrue w (Some (Acknowledgement s r m k)))
    → (x : Option Packet) → PacketShape v x → PacketTrue v x → PacketTrue w x
true-by v w text number acknowledgement None p h = tt
true-by v w text number acknowledgement (Some (Delivery d m)) p h = text d m h
true-by v w text number acknowledgement (Some (Number r s i m k)) p h = number r s i m k p h
true-by v w text number acknowledgement (Some (Acknowledgement s r m k)) p h = acknowledgement s r m k p h

-- p may come into phase x, whatever it was in
pub record Enters (w : World) (p : ℕ) (x : Phase) : Type 0 where
  pub inside : 0 < p
  pub below : p ≤ w.count
  pub stays : is_up (w.phase p) ≡ true → is_up x ≡ true
  pub next : JobNext w.count p (w.history p) x
  pub replays : Replays (w.saved p) (length (w.history p)) x
  pub all : is_recovering x ≡ true → (k : ℕ) → 0 < k → k ≤ length (w.history p) → w.acknowledged p k ≡ true

-- and the world stays sound
pub sound-enters : (w : World) (p : ℕ) (x : Phase) → Enters w p x → Sound w → Sound (record w { phase = put w.phase p x })
sound-enters w p x m h =
    record {
      grows = h.grows;
      outside = choose p (λ j b. (0 < j → w.count < j) → (if b then x else w.phase j) ≡ Up) (λ e. let i : w.count < p = e m.inside in let j : p ≤ w.count = m.below in absurd (omega arith)) (λ j _. h.outside j);
      received = h.received;
      working = choose p (λ j b. JobNext w.count j (w.history j) (if b then x else w.phase j)) m.next (λ j _. h.working j);
      saved = h.saved;
      replays = choose p (λ j b. Replays (w.saved j) (length (w.history j)) (if b then x else w.phase j)) m.replays (λ j _. h.replays j);
      acknowledged = h.acknowledged;
      recovering = choose p (λ j b. is_recovering (if b then x else w.phase j) ≡ true → (k : ℕ) → 0 < k → k ≤ length (w.history j) → w.acknowledged j k ≡ true) m.all (λ j _. h.recovering j);
      covered = h.covered;
      shown_covered = h.shown_covered;
      trims = h.trims;
      packets = λ key. shape-by w (record w { phase = put w.phase p x }) (λ d t s. s)
          (λ r k s. record { past = s.past; live = choose p (λ j b. (k ≡ w.incarnation j → is_up (w.phase j) ≡ true) → k ≡ w.incarnation j → is_up (if b then x else w.phase j) ≡ true) (λ l e. m.stays (l e)) (λ j _ l. l) r s.live })
          (w.wire key) (h.packets key);
      shown = h.shown;
    }

-- p's phase becomes x, and p was not down and isn't
pub record Moves (w : World) (p : ℕ) (x : Phase) : Type 0 where
  pub inside : 0 < p
  pub below : p ≤ w.count
  pub was : is_down (w.phase p) ≡ false
  pub now : is_down x ≡ false
  pub stays : is_up (w.phase p) ≡ true → is_up x ≡ true
  pub next : JobNext w.count p (w.history p) x
  pub replays : Replays (w.saved p) (length (w.history p)) x
  pub recovering : is_recovering x ≡ true → is_recovering (w.phase p) ≡ true
  pub forth : length_in (w.history p) (w.saved p) (w.phase p) ≤ length_in (w.history p) (w.saved p) x

pub sound-phase : (w : World) (p : ℕ) (x : Phase) → Moves w p x → Sound w → Sound (record w { phase = put w.phase p x })
sound-phase w p x m h = sound-enters w p x (record { inside = m.inside; below = m.below; stays = m.stays; next = m.next; replays = m.replays; all = λ e. h.recovering p (m.recovering e) }) h

-- a phase that moves takes no history, no acknowledgement and no number that is held
pub grown-phase : (w : World) (p : ℕ) (x : Phase) → Moves w p x → Sound w → Grown w (record w { phase = put w.phase p x })
grown-phase w p x m h =
    let down : (q : ℕ) → is_down (put w.phase p x q) ≡ is_down (w.phase q) = choose p (λ j b. is_down (if b then x else w.phase j) ≡ is_down (w.phase j)) (m.now ∙ sym m.was) (λ j _. refl) in
    let more : (s d : ℕ) → Begins (sent w s d) (payloads w s (take (length_in (w.history s) (w.saved s) (put w.phase p x s)) (w.history s)) d) =
    λ s d. choose p (λ j b. Begins (sent w j d) (payloads w j (take (length_in (w.history j) (w.saved j) (if b then x else w.phase j)) (w.history j)) d)) (payloads-prefix w h.grows p (w.history p) d _ _ m.forth) (λ j _. begins-self _) s in
    record {
      down = down;
      history = λ q. begins-self _;
      acknowledged = λ q k _ _ e. e;
      held = λ q _. (refl, λ k _ _ l. record { by = l.by; ssn = l.ssn; number = l.number; entry = record { live = down l.by ∙ l.entry.live; above = l.entry.above; within = let a : length (sent w l.by q) ≤ length (payloads w l.by (take (length_in (w.history l.by) (w.saved l.by) (put w.phase p x l.by)) (w.history l.by)) q) = begins-length _ _ (more l.by q) in let b : l.ssn ≤ length (sent w l.by q) = l.entry.within in omega arith } });
      payloads_grow = λ s g d. begins-self _;
    }

-- and its numbers are no more restored than before
pub exact-phase : (w : World) (p : ℕ) (x : Phase) → Moves w p x → is_alone x ≡ false → JobSafe w p x → ((q : ℕ) → is_restored x q ≡ true → (is_restored (w.phase p) q ≡ true) ⊎ Told w p q) → Sound w → Exact w
    → Exact (record w { phase = put w.phase p x })
exact-phase w p x m alone job less s h =
    let w' : World = record w { phase = put w.phase p x } in
    let c : Carries w w' = carries-grown (grown-phase w p x m s) in
    let recorded : (q k : ℕ) → IsRecorded w q k → IsRecorded w' q k = λ q k r a y e f.
    choose p (λ j b. j ≡ y.sender → is_restored (if b then x else w.phase j) q ≡ true → (is_restored (w.phase j) q ≡ true → w.numbers j q y.ssn ≡ Some k) → w.numbers j q y.ssn ≡ Some k)
    (λ i f g. told q k y a e (sym i) g (less q f)) (λ j _ _ f g. g f) y.sender refl f (r a y e) in
    record {
      alone = choose p (λ j b. is_alone (if b then x else w.phase j) ≡ false) alone (λ j _. h.alone j);
      recorded = h.recorded;
      acknowledged = λ q k e. recorded q k (h.acknowledged q k e);
      packets = λ key. true-by w w' (safe c) (λ r t i k n _ f. f) (λ t r k n _ f e. record { message = (f e).message; at = (f e).at; sender = (f e).sender; recorded = recorded r k (f e).recorded }) (w.wire key) (s.packets key) (h.packets key);
      working = choose p (λ j b. JobSafe w' j (if b then x else w.phase j)) (job-safe c p x job) (λ j _. job-safe c j (w.phase j) (h.working j));
      received = λ q k y e. safe c q y (h.received q k y e);
      shown = λ k y e. safe c 0 y (h.shown k y e);
      released = λ q d. covers c q d (w.released q d) (h.released q d);
    }
  where
    told : (q k : ℕ) (y : Message) → w.saved q < k → nth (w.history q) k ≡ Some y → y.sender ≡ p → (is_restored (w.phase p) q ≡ true → w.numbers p q y.ssn ≡ Some k) → (is_restored (w.phase p) q ≡ true) ⊎ Told w p q → w.numbers p q y.ssn ≡ Some k
    told q k y a e i g (inl f) = g f
    told q k y a e i g (inr t) = t k y a e i

-- a world is sound whatever is recorded, released or put in
pub sound-beside : (w : World) (numbers : ℕ → ℕ → ℕ → Option ℕ) (released : ℕ → ℕ → ℕ) (inputs : ℕ → List Payload) (feeds : ℕ → Bool) → Sound w → Sound (record w { numbers = numbers; released = released; inputs = inputs; feeds = feeds })
sound-beside w numbers released inputs feeds h =
    let left : Leaves w w.trims w.wire w.shown = record { covered = h.covered; shown_covered = h.shown_covered; above = h.trims; packets = h.packets; next = h.shown } in
    sound-left w numbers released inputs feeds w.started w.trims w.wire w.shown left h

-- a world is sound whatever p has released
pub sound-released : (w : World) (p : ℕ) (f : ℕ → ℕ) → Sound w → Sound (record w { released = put w.released p f })
sound-released w p f h = sound-beside w w.numbers (put w.released p f) w.inputs w.feeds h

-- and exact, if messages that outlive a crash send all that p has released
pub exact-released : (w : World) (p : ℕ) (f : ℕ → ℕ) → ((d : ℕ) → Covers w p d (f d)) → Exact w → Exact (record w { released = put w.released p f })
exact-released w p f now h =
    exact-on w w.wire w.started (put w.released p f) h.packets (choose p (λ j b. (d : ℕ) → Covers w j d ((if b then f else w.released j) d)) now (λ j _. h.released j)) h

-- what is held stays held, and nothing else changes but dropped log entries and recorded numbers: nothing that was secured is lost
pub carries-kept : (w : World) (trims : ℕ → ℕ → ℕ) (numbers : ℕ → ℕ → ℕ → Option ℕ) → ((q m : ℕ) → is_down (w.phase q) ≡ true → w.saved q < m → Held w q m → Held (record w { trims = trims; numbers = numbers }) q m)
    → Carries w (record w { trims = trims; numbers = numbers })
carries-kept w trims numbers held =
    carries-grown (record { down = λ q. refl; history = λ q. begins-self _; acknowledged = λ q m _ _ e. e; payloads_grow = λ s g d. begins-self _; held = λ q d. (refl, λ m a _ l. held q m d a l) })

-- a world stays exact when log entries are dropped or inputs are put in, if what is secured carries over
pub exact-carried : (w : World) (trims : ℕ → ℕ → ℕ) (inputs : ℕ → List Payload) (feeds : ℕ → Bool) → Carries w (record w { trims = trims; inputs = inputs; feeds = feeds }) → Sound w → Exact w
    → Exact (record w { trims = trims; inputs = inputs; feeds = feeds })
exact-carried w trims inputs feeds c s h =
    record {
      alone = h.alone;
      recorded = h.recorded;
      acknowledged = h.acknowledged;
      packets = λ j. true-by w (record w { trims = trims; inputs = inputs; feeds = feeds }) (safe c) (λ _ _ _ _ _ _ f. f) (λ _ _ _ _ _ f. f) (w.wire j) (s.packets j) (h.packets j);
      working = λ p. job-safe c p (w.phase p) (h.working p);
      received = λ q j y e. safe c q y (h.received q j y e);
      shown = λ j y e. safe c 0 y (h.shown j y e);
      released = λ q d. covers c q d (w.released q d) (h.released q d);
    }
