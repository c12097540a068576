-- A process comes back
use Rattle.std.proofs.Common.{◌≡◌, ◌≢◌, ℕ, suc, ◌-◌, ◌<◌, ◌≤◌, List, [], ◌∷◌, length, take, Bool, true, false, refl, sym, ap, ◌∙◌, subst, arith}
use Rattle.std.specs.Prelude.{Option, Some, None, slice_get, nat_lt, nat_le, if◌then◌else◌}
use Rattle.std.proofs.lemmas.Bool.Decides.{nat_tests}
use Rattle.world.specs.declared.message.Message.{Message}
use Rattle.world.specs.declared.packet.Packet.TheVariants.{Number, Acknowledgement}
use Rattle.world.specs.History.{nth, count_of}
use Rattle.world.specs.Phases.{Phase, Down, Replaying, is_up, is_down}
use Rattle.world.specs.World.{World, put}
use Rattle.world.specs.Logs.{payloads, sent_in_all, length_in}
use Rattle.world.specs.Plan.{chosen, gather}
use Rattle.world.specs.Calls.{phase_with, released_with, ready, peers, keep, recover, up_to}
use Rattle.theorems.specs.Kept.{IsEntry, Held}
use Rattle.theorems.specs.Invariants.Secured.{Secured, Safe, Covers}
use Rattle.theorems.specs.Invariants.Exact.{JobSafe, IsRecorded, Names, PacketTrue, is_restored, is_alone, Exact}
use Rattle.theorems.specs.Invariants.Sound.{JobNext, IsNext, Replays, IsPast, is_recovering, Sound}
use Rattle.theorems.proofs.Changes.{choose, elsewhere, at-itself}
use Rattle.theorems.proofs.Tests.{at_most, is_at_most}
use Rattle.theorems.proofs.ListLemmas.{take-take, take-length, get-take, nth-taken, nth-take, some-same, begins-self, begins-take}
use Rattle.theorems.proofs.HistoryLemmas.{Ordered}
use Rattle.theorems.proofs.PhaseLemmas.{up-down, with-down, with-alone, with-next, with-safe, with-replays, with-restored}
use Rattle.theorems.proofs.SecuredLemmas.{Carries, safe, job-safe, covers, covers-all}
use Rattle.theorems.proofs.Frames.{Told, true-by, sound-enters, sound-released, exact-released}
use Rattle.theorems.proofs.Replays.{told-others}
use Rattle.theorems.proofs.PlanLemmas.{chosen-none, plan-is, gather-ordered, gather-begins}

-- p keeps these k messages
abbrev pub cut : World → ℕ → List Message → ℕ → World
cut w p g k =
    record w {
      history = put w.history p g;
      numbers = λ s. put (w.numbers s) p (λ i. up_to k (w.numbers s p i));
      acknowledged = put w.acknowledged p (λ m. nat_le m k);
    }

sound-cut : (w : World) (p : ℕ) (g : List Message) (k : ℕ) → w.phase p ≡ Down → w.saved p ≤ k → length g ≡ k → Ordered w.count p g → take (w.saved p) g ≡ take (w.saved p) (w.history p) → Sound w → Sound (cut w p g k)
sound-cut w p g k down l e o same s =
    record {
      grows = s.grows;
      outside = s.outside;
      received = choose p (λ j b. (i : ℕ) (x : Message) → slice_get (if b then g else w.history j) i ≡ Some x → IsNext w.count j (take i (if b then g else w.history j)) x) o (λ j _. s.received j);
      working = choose p (λ j b. JobNext w.count j (if b then g else w.history j) (w.phase j)) (rw down tt) (λ j _. s.working j);
      saved = choose p (λ j b. w.saved j ≤ length (if b then g else w.history j)) (rw e l) (λ j _. s.saved j);
      replays = choose p (λ j b. Replays (w.saved j) (length (if b then g else w.history j)) (w.phase j)) (rw down tt) (λ j _. s.replays j);
      acknowledged = choose p (λ j b. (m : ℕ) → (if b then (λ m. nat_le m k) else w.acknowledged j) m ≡ true → m ≤ length (if b then g else w.history j)) (λ m t. rw e (at_most m k t)) (λ j _. s.acknowledged j);
      recovering = choose p (λ j b. is_recovering (w.phase j) ≡ true → (m : ℕ) → 0 < m → m ≤ length (if b then g else w.history j) → (if b then (λ m. nat_le m k) else w.acknowledged j) m ≡ true)
          (λ _ m _ a. is_at_most m k (rw e at a)) (λ j _. s.recovering j);
      covered = choose p (λ j b. 0 < j → (a : ℕ) → w.trims a j ≤ count_of a (take (w.saved j) (if b then g else w.history j))) (λ i a. rw same (s.covered p i a)) (λ j _. s.covered j);
      shown_covered = s.shown_covered;
      trims = s.trims;
      packets = s.packets;
      shown = s.shown;
    }

pub up_to-is : (k m : ℕ) (o : Option ℕ) → up_to k o ≡ Some m → (o ≡ Some m) × (m ≤ k)
up_to-is k m None e = absurd (cc)
up_to-is k m (Some n) e = split (nat_le n k) refl e
  where
    split : (b : Bool) → nat_le n k ≡ b → (if b then Some n else None) ≡ Some m → (Some n ≡ Some m) × (m ≤ k)
    split true t e = let same : n ≡ m = cc in (e, let l : n ≤ k = at_most n k t in omega arith)
    split false t e = absurd (cc)

pub up_to-stays : (k m : ℕ) (o : Option ℕ) → o ≡ Some m → m ≤ k → up_to k o ≡ Some m
up_to-stays k m o e l = let P : Option ℕ → Type 0 = λ z. up_to k z ≡ Some m in subst P (sym e) (rw (is_at_most m k l) refl)

module _ (w : World) (p k : ℕ) (down : w.phase p ≡ Down) (after : w.saved p ≤ k) (within : k ≤ length (w.history p)) (held : (m : ℕ) → w.saved p < m → m ≤ k → Held w p m) (most : ¬ Held w p (suc k)) (s : Sound w) (h : Exact w) where
  -- p keeps its first k messages, and senders forget its numbers above k
  abbrev pub shortened : World
  shortened = cut w p (take k (w.history p)) k

  -- nothing of p beyond k is secured
  pub upto : (j : ℕ) → Secured w p j → j ≤ k
  upto j c = split (nat_le j k) refl
    where
      split : (b : Bool) → nat_le j k ≡ b → j ≤ k
      split true e = at_most j k e
      split false e = let l : k < j = grind (arith, nat_tests) in absurd (most (c.held (rw down refl) (suc k) (omega arith) (omega arith)))

  not-p : (a : ℕ) → is_down (w.phase a) ≡ false → a ≢ p
  not-p a live e = absurd (let f : is_down (w.phase p) ≡ false = rw e at live in let g : true ≡ false = (let t : true ≡ is_down (w.phase p) = rw down refl in t ∙ f) in cc)

  -- what is held up to k is still held
  held-shortened : (q m : ℕ) → (q ≡ p → m ≤ k) → Held w q m → Held shortened q m
  held-shortened q m l c =
      record {
        by = c.by;
        ssn = c.ssn;
        number = choose p (λ j b. (j ≡ p → m ≤ k) → w.numbers c.by j c.ssn ≡ Some m → (if b then (λ i. up_to k (w.numbers c.by p i)) else w.numbers c.by j) c.ssn ≡ Some m) (λ l e. up_to-stays k m _ e (l refl)) (λ j _ _ e. e) q l c.number;
        entry = elsewhere p (λ a b. IsEntry w a q c.ssn → record {
          live : is_down (w.phase a) ≡ false;
          above : w.trims a q < c.ssn;
          within : c.ssn ≤ length (payloads w a (take (length_in (if b then take k (w.history p) else w.history a) (w.saved a) (w.phase a)) (if b then take k (w.history p) else w.history a)) q);
        }) (λ a e. e) c.by (not-p c.by c.entry.live) c.entry;
      }

  pub carries-shortened : Carries w shortened
  carries-shortened =
      record {
        secured = λ q j. choose p (λ c b. Secured w c j → record {
          within : j ≤ length (if b then take k (w.history p) else w.history c);
          held : is_down (w.phase c) ≡ true → (m : ℕ) → w.saved c < m → m ≤ j → Held shortened c m;
          acknowledged : is_down (w.phase c) ≡ false → (m : ℕ) → 0 < m → m ≤ j → (if b then (λ m. nat_le m k) else w.acknowledged c) m ≡ true;
        })
            (λ c. let l : j ≤ k = upto j c in record { within = rw (take-length (w.history p) k within) l; held = λ d m a b. held-shortened p m (λ _. omega arith) (c.held d m a b); acknowledged = λ _ m a b. is_at_most m k (omega arith) })
            (λ q ne c. record { within = c.within; held = λ d m a b. held-shortened q m (λ e. absurd (ne e)) (c.held d m a b); acknowledged = c.acknowledged }) q;
        same = λ q j. choose p (λ c b. Secured w c j → take j (if b then take k (w.history p) else w.history c) ≡ take j (w.history c)) (λ c. take-take (w.history p) j k (upto j c)) (λ q _ _. refl) q;
        payloads_grow = λ a g d. begins-self _;
      }

  other-recorded : (q m : ℕ) → q ≢ p → IsRecorded w q m → IsRecorded shortened q m
  other-recorded q m ne r = elsewhere p (λ q b. (w.saved q < m → (x : Message) → nth (w.history q) m ≡ Some x → is_restored (w.phase x.sender) q ≡ true → w.numbers x.sender q x.ssn ≡ Some m)
      → w.saved q < m → (x : Message) → nth (if b then take k (w.history p) else w.history q) m ≡ Some x → is_restored (w.phase x.sender) q ≡ true → (if b then (λ i. up_to k (w.numbers x.sender p i)) else w.numbers x.sender q) x.ssn ≡ Some m)
      (λ q r. r) q ne r

  own-recorded : (m : ℕ) → m ≤ k → IsRecorded shortened p m
  own-recorded m l a y e f = go (held m a l)
    where
      there : nth (w.history p) m ≡ Some y
      there = nth-take (w.history p) k m y (at-itself p (λ b. nth (if b then take k (w.history p) else w.history p) m ≡ Some y → nth (take k (w.history p)) m ≡ Some y) (λ z. z) e)

      go : Held w p m → shortened.numbers y.sender p y.ssn ≡ Some m
      go c = named (h.recorded c.by p c.ssn m c.number)
        where
          named : Names (w.history p) m c.by c.ssn → shortened.numbers y.sender p y.ssn ≡ Some m
          named n =
              let same : n.message ≡ y = some-same n.message y (nth (w.history p) m) n.at there in
              let a : c.by ≡ y.sender = sym n.sender ∙ ap (λ z. z.sender) same in
              let b : c.ssn ≡ y.ssn = sym n.ssn ∙ ap (λ z. z.ssn) same in
              let number : w.numbers y.sender p y.ssn ≡ Some m = rw (← a, ← b) c.number in
              at-itself p (λ b. (if b then (λ i. up_to k (w.numbers y.sender p i)) else w.numbers y.sender p) y.ssn ≡ Some m) (up_to-stays k m _ number l)

  exact-shortened : Exact shortened
  exact-shortened =
      record {
        alone = h.alone;
        recorded = λ a q. choose p (λ c b. (i m : ℕ) → (if b then (λ i. up_to k (w.numbers a p i)) else w.numbers a c) i ≡ Some m → Names (if b then take k (w.history p) else w.history c) m a i)
            (λ i m e. let u = up_to-is k m (w.numbers a p i) e in let n = h.recorded a p i m u.0 in record { message = n.message; at = nth-taken (w.history p) k m n.message u.1 n.at; sender = n.sender; ssn = n.ssn })
            (λ q _. h.recorded a q) q;
        acknowledged = choose p (λ c b. (m : ℕ) → (if b then (λ m. nat_le m k) else w.acknowledged c) m ≡ true → IsRecorded shortened c m) (λ m e. own-recorded m (at_most m k e)) (λ q ne m e. other-recorded q m ne (h.acknowledged q m e));
        packets = λ j. true-by w shortened (safe carries-shortened) number acknowledgement (w.wire j) (s.packets j) (h.packets j);
        working = λ q. job-safe carries-shortened q (w.phase q) (h.working q);
        received = choose p (λ c b. (i : ℕ) (y : Message) → slice_get (if b then take k (w.history p) else w.history c) i ≡ Some y → Safe shortened c y)
            (λ i y e. safe carries-shortened p y (h.received p i y (get-take (w.history p) k i y e).1)) (λ q _ i y e. safe carries-shortened q y (h.received q i y e));
        shown = λ i y e. safe carries-shortened 0 y (h.shown i y e);
        released = λ q d. covers carries-shortened q d (w.released q d) (h.released q d);
      }
    where
      names : (r m : ℕ) (x : Message) → is_down (w.phase r) ≡ false → nth (w.history r) m ≡ Some x → nth (shortened.history r) m ≡ Some x
      names r m x live e = elsewhere p (λ c b. nth (w.history c) m ≡ Some x → nth (if b then take k (w.history p) else w.history c) m ≡ Some x) (λ c e. e) r (not-p r live) e

      number : (r t i m n : ℕ) → IsPast w r n → PacketTrue w (Some (Number r t i m n)) → PacketTrue shortened (Some (Number r t i m n))
      number r t i m n f g e = let y = g e in record { message = y.message; at = names r m y.message (up-down _ (f.live e)) y.at; sender = y.sender; ssn = y.ssn }

      acknowledgement : (t r m n : ℕ) → IsPast w r n → PacketTrue w (Some (Acknowledgement t r m n)) → PacketTrue shortened (Some (Acknowledgement t r m n))
      acknowledgement t r m n f g e = let y = g e in record { message = y.message; at = names r m y.message (up-down _ (f.live e)) y.at; sender = y.sender; recorded = other-recorded r m (not-p r (up-down _ (f.live e))) y.recorded }

-- p is down, all that it has is acknowledged, and it may come back in this phase
pub record Revives (w : World) (p : ℕ) (x : Phase) : Type 0 where
  pub inside : 0 < p
  pub below : p ≤ w.count
  pub was : w.phase p ≡ Down
  pub now : is_down x ≡ false
  pub next : JobNext w.count p (w.history p) x
  pub replays : Replays (w.saved p) (length (w.history p)) x
  pub all : (m : ℕ) → 0 < m → m ≤ length (w.history p) → w.acknowledged p m ≡ true

sound-revived : (w : World) (p : ℕ) (x : Phase) → Revives w p x → Sound w → Sound (record w { phase = put w.phase p x })
sound-revived w p x m h =
    let down : is_up (w.phase p) ≡ true → is_up x ≡ true = λ u. absurd (let f : is_up Down ≡ true = rw m.was at u in cc) in
    sound-enters w p x (record { inside = m.inside; below = m.below; stays = down; next = m.next; replays = m.replays; all = λ _. m.all }) h

module _ (w : World) (p : ℕ) (x : Phase) (m : Revives w p x) where
  -- p is back in this phase
  abbrev pub revived : World
  revived = record w { phase = put w.phase p x }

  held-revived : (q k : ℕ) → Held w q k → Held revived q k
  held-revived q k c =
      record {
        by = c.by;
        ssn = c.ssn;
        number = c.number;
        entry = choose p (λ a b. IsEntry w a q c.ssn → record {
          live : is_down (if b then x else w.phase a) ≡ false;
          above : w.trims a q < c.ssn;
          within : c.ssn ≤ length (payloads w a (take (length_in (w.history a) (w.saved a) (if b then x else w.phase a)) (w.history a)) q);
        })
            (λ e. absurd (let f : is_down Down ≡ false = rw m.was at e.live in cc)) (λ a _ e. e) c.by c.entry;
      }

  pub carries-revived : Carries w revived
  carries-revived =
      record {
        secured = λ q j. choose p (λ c b. Secured w c j → record {
          within : j ≤ length (w.history c);
          held : is_down (if b then x else w.phase c) ≡ true → (k : ℕ) → w.saved c < k → k ≤ j → Held revived c k;
          acknowledged : is_down (if b then x else w.phase c) ≡ false → (k : ℕ) → 0 < k → k ≤ j → w.acknowledged c k ≡ true;
        })
            (λ c. let l : j ≤ length (w.history p) = c.within in record { within = l; held = λ d. absurd (let e : true ≡ false = sym d ∙ m.now in cc); acknowledged = λ _ k a b. m.all k a (omega arith) })
            (λ q ne c. record { within = c.within; held = λ d k a b. held-revived q k (c.held d k a b); acknowledged = c.acknowledged }) q;
        same = λ q j _. refl;
        payloads_grow = λ a g d. begins-self _;
      }

  exact-revived : is_alone x ≡ false → JobSafe w p x → ((q : ℕ) → is_restored x q ≡ true → Told w p q) → Sound w → Exact w → Exact revived
  exact-revived alone job less s h =
      let recorded : (q k : ℕ) → IsRecorded w q k → IsRecorded revived q k = λ q k r a y e f.
      choose p (λ j b. j ≡ y.sender → is_restored (if b then x else w.phase j) q ≡ true → (is_restored (w.phase j) q ≡ true → w.numbers j q y.ssn ≡ Some k) → w.numbers j q y.ssn ≡ Some k)
      (λ i f g. less q f k y a e (sym i)) (λ j _ _ f g. g f) y.sender refl f (r a y e) in
      record {
        alone = choose p (λ j b. is_alone (if b then x else w.phase j) ≡ false) alone (λ j _. h.alone j);
        recorded = h.recorded;
        acknowledged = λ q k e. recorded q k (h.acknowledged q k e);
        packets = λ key. true-by w revived (safe carries-revived) (λ r t i k n _ f. f) (λ t r k n _ f e. record { message = (f e).message; at = (f e).at; sender = (f e).sender; recorded = recorded r k (f e).recorded }) (w.wire key) (s.packets key) (h.packets key);
        working = choose p (λ j b. JobSafe revived j (if b then x else w.phase j)) (job-safe carries-revived p x job) (λ j _. job-safe carries-revived j (w.phase j) (h.working j));
        received = λ q k y e. safe carries-revived q y (h.received q k y e);
        shown = λ k y e. safe carries-revived 0 y (h.shown k y e);
        released = λ q d. covers carries-revived q d (w.released q d) (h.released q d);
      }

-- the messages of p's checkpoint and its plan, k together if there are that many
abbrev pub gathered : World → ℕ → ℕ → List Message
gathered w p k = gather w p (take (w.saved p) (w.history p)) (k - w.saved p)

-- what a recovery gathers begins with what the checkpoint covers
pub gathered-same : (w : World) (p k : ℕ) → w.saved p ≤ length (w.history p) → take (w.saved p) (gathered w p k) ≡ take (w.saved p) (w.history p)
gathered-same w p k l =
    let n : length (take (w.saved p) (w.history p)) ≡ w.saved p = take-length (w.history p) (w.saved p) l in
    begins-take (take (w.saved p) (w.history p)) (gathered w p k) (gather-begins w p (take (w.saved p) (w.history p)) (k - w.saved p)) (w.saved p) (omega arith) ∙ take-take (w.history p) (w.saved p) (w.saved p) (omega arith)

sound-keep : (w : World) (p k : ℕ) → 0 < p → p ≤ w.count → w.phase p ≡ Down → w.saved p ≤ k → length (gathered w p k) ≡ k → Sound w → Sound (keep w p k)
sound-keep w p k a b down l e s =
    let start : Ordered w.count p (take (w.saved p) (w.history p)) = λ i x f. let t = get-take (w.history p) (w.saved p) i x f in rw (take-take (w.history p) i (w.saved p) (let u : i < w.saved p = t.0 in omega arith)) (s.received p i x t.1) in
    let o : Ordered w.count p (gathered w p k) = gather-ordered w p a b (rw down refl) (take (w.saved p) (w.history p)) start (k - w.saved p) in
    sound-cut w p (gathered w p k) k down l e o (gathered-same w p k (s.saved p)) s

-- the phase after a recovery
pub keeps-all : (w : World) (p k : ℕ) → length (gathered w p k) ≡ k → (m : ℕ) → 0 < m → m ≤ length ((keep w p k).history p) → (keep w p k).acknowledged p m ≡ true
keeps-all w p k e m a = at-itself p (λ b. m ≤ length (if b then gathered w p k else w.history p) → (if b then (λ m. nat_le m k) else w.acknowledged p) m ≡ true) (λ l. is_at_most m k (rw e at l))

pub kept-length : (w : World) (p k : ℕ) → length (gathered w p k) ≡ k → length ((keep w p k).history p) ≡ k
kept-length w p k e = at-itself p (λ b. length (if b then gathered w p k else w.history p) ≡ k) e

-- p may come back to replay, if k is more than its checkpoint covers
pub revives-replaying : (w : World) (p k : ℕ) (alone : Bool) → 0 < p → p ≤ w.count → w.phase p ≡ Down → w.saved p < k → length (gathered w p k) ≡ k → Revives (keep w p k) p (Replaying 0 false alone)
revives-replaying w p k alone a b down l e =
    record { inside = a; below = b; was = down; now = refl; next = tt; replays = rw (kept-length w p k e) (omega arith); all = keeps-all w p k e }

-- and to restore its numbers from these peers, or be up if there are none
pub revives-with : (w : World) (p k : ℕ) (rs : List ℕ) → 0 < p → p ≤ w.count → w.phase p ≡ Down → length (gathered w p k) ≡ k → Revives (keep w p k) p (phase_with rs)
revives-with w p k rs a b down e =
    record { inside = a; below = b; was = down; now = with-down rs; next = with-next rs _ _ _; replays = with-replays rs _ _; all = keeps-all w p k e }

pub sound-recover : (w : World) (p k : ℕ) (alone : Bool) → 0 < p → p ≤ w.count → w.phase p ≡ Down → w.saved p ≤ k → length (gathered w p k) ≡ k → Sound w → Sound (recover w p k alone)
sound-recover w p k alone a b down l e s = split (nat_lt (w.saved p) k) refl (sound-keep w p k a b down l e s)
  where
    split : (c : Bool) → nat_lt (w.saved p) k ≡ c → Sound (keep w p k) → Sound (if c then record (keep w p k) { phase = put w.phase p (Replaying 0 false alone) } else ready (keep w p k) p (peers w p alone))
    split true t v = sound-revived (keep w p k) p (Replaying 0 false alone) (revives-replaying w p k alone a b down (grind (arith, nat_tests)) e) v
    split false t v = sound-released (record (keep w p k) { phase = put w.phase p (phase_with (peers w p alone)) }) p (released_with (keep w p k) p (peers w p alone)) (sound-revived (keep w p k) p (phase_with (peers w p alone)) (revives-with w p k (peers w p alone) a b down e) v)

pub exact-keep : (w : World) (p k : ℕ) → w.phase p ≡ Down → w.saved p ≤ k → length (gathered w p k) ≡ k → chosen w p (gathered w p k) ≡ None → Sound w → Exact w → Exact (keep w p k)
exact-keep w p k down l e none s h =
    let r = plan-is w p s h k l e in
    let P : List Message → Type 0 = λ g. chosen w p g ≡ None in
    let Q : List Message → Type 0 = λ g. Exact (cut w p g k) in
    subst Q (sym r.0) (exact-shortened w p k down l r.1 r.2 (chosen-none w p s h k r.1 (subst P r.0 none)) s h)

pub exact-recover : (w : World) (p k : ℕ) → 0 < p → p ≤ w.count → w.phase p ≡ Down → w.saved p ≤ k → length (gathered w p k) ≡ k → chosen w p (gathered w p k) ≡ None → Sound w → Exact w → Exact (recover w p k false)
exact-recover w p k a b down l e none s h = split (nat_lt (w.saved p) k) refl (sound-keep w p k a b down l e s) (exact-keep w p k down l e none s h)
  where
    all : (rs : List ℕ) → (x : Exact (record (keep w p k) { phase = put w.phase p (phase_with (peers w p false)) })) → (d : ℕ) → Covers (record (keep w p k) { phase = put w.phase p (phase_with (peers w p false)) }) p d (released_with (keep w p k) p rs d)
    all [] x d = covers-all (record (keep w p k) { phase = put w.phase p (phase_with (peers w p false)) }) p d (sent_in_all (keep w p k) p d) (at-itself p (λ c. is_down (if c then phase_with (peers w p false) else w.phase p) ≡ false) (with-down (peers w p false))) (keeps-all w p k e) (omega arith)
    all (q ∷ qs) x d = x.released p d

    split : (c : Bool) → nat_lt (w.saved p) k ≡ c → Sound (keep w p k) → Exact (keep w p k) → Exact (if c then record (keep w p k) { phase = put w.phase p (Replaying 0 false false) } else ready (keep w p k) p (peers w p false))
    split true t v x = exact-revived (keep w p k) p (Replaying 0 false false) (revives-replaying w p k false a b down (grind (arith, nat_tests)) e) refl tt (λ q f. absurd (cc)) v x
    split false t v x =
        let y : Exact (record (keep w p k) { phase = put w.phase p (phase_with (peers w p false)) }) = exact-revived (keep w p k) p (phase_with (peers w p false)) (revives-with w p k (peers w p false) a b down e) (with-alone (peers w p false)) (with-safe (peers w p false) (keep w p k) p)
        (λ q f. told-others (keep w p k) p q v (with-restored (peers w p false) q f)) v x in
        exact-released (record (keep w p k) { phase = put w.phase p (phase_with (peers w p false)) }) p (released_with (keep w p k) p (peers w p false)) (all (peers w p false) y) y
