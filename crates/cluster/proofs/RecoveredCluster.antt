-- The cluster in which a node has recovered, and what the world has beside it
use Rattle.std.proofs.Common.{◌≡◌, ◌≢◌, ◌⊎◌, inl, inr, ℕ, suc, ◌+◌, ◌<◌, ◌≤◌, List, length, take, Bool, true, false, refl, sym, ap, ◌∙◌, subst, arith}
use Rattle.std.specs.Prelude.{Option, Some, None, not, ◌&&◌, ◌==◌, nat_lt, nat_le, if◌then◌else◌}
use Rattle.std.proofs.lemmas.Bool.Decides.{nat_tests}
use Rattle.world.specs.declared.message.Message.{Message}
use Rattle.world.specs.declared.packet.Packet.TheVariants.{Number as NumberPacket, Acknowledgement as AcknowledgementPacket}
use Rattle.world.specs.History.{nth, count_of, rsn_of}
use Rattle.world.specs.Phases.{Phase, Up, is_up, is_down, is_busy, is_working, is_replaying}
use Rattle.world.specs.World.{put}
use Rattle.world.specs.Logs.{payloads, sent, length_in, covered}
use Rattle.world.specs.Bounds.{WIRE, count_below}
use Rattle.world.specs.Calls.{up_to}
use Rattle.world.specs.Refusals.{one_if}
use Rattle.theorems.specs.Growth.{Begins}
use Rattle.theorems.specs.Invariants.Exact.{is_restored}
use Rattle.theorems.proofs.Changes.{choose, elsewhere, at-itself}
use Rattle.theorems.proofs.ListLemmas.{begins-self, take-take, take-length, nth-within}
use Rattle.theorems.proofs.PhaseLemmas.{up-restored}
use Rattle.theorems.proofs.Recoveries.{up_to-is, up_to-stays}
use Rattle.theorems.proofs.Tests.{is_at_most}
use Rattle.cluster.specs.Cluster.{Cluster, Live, Frozen, Collecting, Collected, runs, waiting, WINDOW}
use Rattle.cluster.specs.Rules.{Recovers, May, IsNode}
use Rattle.cluster.specs.Parcels.{reaches}
use Rattle.cluster.specs.Inside.Agrees.{Beside, world, NumberAs, HeardAs, CollectedAs, IsTold, IsIdle, OnWire, packets_of, is_back, is_answered, Agrees}
use Rattle.cluster.proofs.Worlds.{Lawful}
use Rattle.cluster.proofs.Facts.{true-not-false, back-is, back-answered}
use Rattle.cluster.proofs.Parcels.{parcels-goes}
use Rattle.cluster.proofs.Preservation.{cleaned, still-cleaned, owned-cleaned, none-cleaned, others-cleaned, none-waits}
use Rattle.cluster.proofs.RecoveryPoint.{back, told-all, within, no-next}

module _ (c : Cluster) (b : Beside) (p k : ℕ) (h : Agrees c b) (l : Lawful (world c b)) (may : May c (Recovers p k)) where
  abbrev g : List Message
  g = c.world.history p

  low : c.world.saved p ≤ k
  low = may.3

  long : k ≤ length g
  long = within c b p k h l may

  qback : (q : ℕ) → q ≤ c.world.count → q ≢ p → is_back c q ≡ true
  qback q a n = back c b p k h l may q a n

  abbrev no-numbers : ℕ → ℕ → Option ℕ
  no-numbers u v = None

  -- what the world has beside the cluster when p has come back
  abbrev pub b' : Beside
  b' =
      record b {
        incarnation = put b.incarnation p (b.incarnation p + 1);
        numbers = λ s. put (put b.numbers p (λ _ _. None) s) p (λ i. up_to k (put b.numbers p (λ _ _. None) s p i));
        trims = put b.trims p (b.saved_trims p);
        wire = cleaned b.wire p WIRE;
      }

  -- what such a number was
  number-was : (u v i m : ℕ) → b'.numbers u v i ≡ Some m → (u ≢ p) × (b.numbers u v i ≡ Some m) × (v ≡ p → m ≤ k)
  number-was = choose p (λ u s. (v i m : ℕ) → put (if s then no-numbers else b.numbers u) p (λ i. up_to k ((if s then no-numbers else b.numbers u) p i)) v i ≡ Some m → (u ≢ p) × (b.numbers u v i ≡ Some m) × (v ≡ p → m ≤ k))
      (λ v i m. choose p (λ y t. (if t then (λ (i : ℕ). up_to k None) else no-numbers y) i ≡ Some m → (p ≢ p) × (b.numbers p v i ≡ Some m) × (v ≡ p → m ≤ k)) (λ e. absurd (cc)) (λ y _ e. absurd (cc)) v)
      (λ u n. choose p (λ v t. (i m : ℕ) → (if t then (λ (i : ℕ). up_to k (b.numbers u p i)) else b.numbers u v) i ≡ Some m → (u ≢ p) × (b.numbers u v i ≡ Some m) × (v ≡ p → m ≤ k))
      (λ i m e. let t = up_to-is k m (b.numbers u p i) e in (n, t.0, λ _. t.1)) (λ v o i m e. (n, e, λ f. absurd (o f))))

  number-is : (u v i m : ℕ) → u ≢ p → b.numbers u v i ≡ Some m → (v ≡ p → m ≤ k) → b'.numbers u v i ≡ Some m
  number-is u v i m n = elsewhere p (λ u s. b.numbers u v i ≡ Some m → (v ≡ p → m ≤ k) → put (if s then no-numbers else b.numbers u) p (λ i. up_to k ((if s then no-numbers else b.numbers u) p i)) v i ≡ Some m)
      (λ u. choose p (λ v t. b.numbers u v i ≡ Some m → (v ≡ p → m ≤ k) → (if t then (λ (i : ℕ). up_to k (b.numbers u p i)) else b.numbers u v) i ≡ Some m) (λ e f. up_to-stays k m _ e (f refl)) (λ v _ e _. e) v) u n

  module _ (x : Phase) (released : ℕ → ℕ → ℕ) (live : is_down x ≡ false) (busy : is_busy x ≡ false) (working : is_working x ≡ false)
      (behind : (q : ℕ) → 0 < q → q ≤ c.world.count → q ≢ p → is_restored x q ≡ false) (same-released : (q r : ℕ) → q ≢ p → released q r ≡ c.world.released q r) where
    -- the cluster in which p has come back with this history
    abbrev pub came : List Message → Cluster
    came y =
        record c {
          stage = put c.stage p Live;
          greeted = put c.greeted p false;
          resumed = put c.resumed p (λ _. true);
          told = put c.told p (λ _. None);
          restoring = put c.restoring p (λ _. 0);
          world = record c.world {
            incarnation = put c.world.incarnation p (c.stored p);
            history = put c.world.history p y;
            phase = put c.world.phase p x;
            acknowledged = put c.world.acknowledged p (λ m. nat_le m k);
            released = released;
            trims = put c.world.trims p (c.world.saved_trims p);
            numbers = put c.world.numbers p (λ _ _. None);
          };
        }

    abbrev d : Cluster
    d = came (take k g)

    new-life : c.world.incarnation p < c.stored p
    new-life = h.stages.opened p may.1

    other-life : (q : ℕ) → d.world.incarnation q ≡ c.world.incarnation q → q ≢ p
    other-life q = choose p (λ j s. j ≡ q → (if s then c.stored p else c.world.incarnation j) ≡ c.world.incarnation j → q ≢ p) (λ _ e. absurd (let z = new-life in omega arith)) (λ j n i _ f. n (i ∙ f)) q refl

    back-d : (q : ℕ) → q ≢ p → is_back d q ≡ is_back c q
    back-d q n = elsewhere p (λ j s. (is_up (if s then x else c.world.phase j) && (if s then false else c.greeted j)) ≡ is_back c j) (λ j. refl) q n

    collects-d : (r : ℕ) → d.stage r ≡ Collecting → (r ≢ p) × (c.stage r ≡ Collecting)
    collects-d = choose p (λ j s. (if s then Live else c.stage j) ≡ Collecting → (j ≢ p) × (c.stage j ≡ Collecting)) (λ e. absurd (cc)) (λ j n e. (n, e))

    -- p has answered nobody that collects
    not-given : (r : ℕ) → r ≤ c.world.count → r ≢ p → c.stage r ≡ Collecting → b.gave p r ≡ c.stored r → ⊥
    not-given r a n e g = (h.hearing.given r p a may.0.1 n may.1 (told-all c b p k h l may r a n).3).2 e g

    covers-d : (s q : ℕ) → covered d.world s q ≡ covered c.world s q
    covers-d s q = choose 0 (λ j t. count_of s (if t then c.world.shown else take (c.world.saved j) (d.world.history j)) ≡ count_of s (if t then c.world.shown else take (c.world.saved j) (c.world.history j))) refl
        (λ j _. ap (count_of s) (choose p (λ i t. take (c.world.saved i) (if t then take k g else c.world.history i) ≡ take (c.world.saved i) (c.world.history i)) (take-take g (c.world.saved p) k low) (λ i _. refl) j)) q

    -- what q has heard of r, in the words of these alone
    abbrev HeardBy : ℕ → Bool → Bool → ℕ → ℕ → Type 0
    HeardBy life resumed answered q r =
        record {
          low : life ≤ c.heard q r;
          high : c.heard q r ≤ c.stored r;
          later : life < c.heard q r → resumed ≡ false;
          obeyed : c.heard q r ≡ life → answered ≡ true → resumed ≡ true;
        }

    by-p : (r : ℕ) → r ≤ c.world.count → r ≢ p → HeardBy (d.world.incarnation r) true (is_answered d r p) p r
    by-p r a n =
        let same : d.world.incarnation r ≡ c.world.incarnation r = elsewhere p (λ j s. (if s then c.stored p else c.world.incarnation j) ≡ c.world.incarnation j) (λ j. refl) r n in
        let e : c.heard p r ≡ c.world.incarnation r = (told-all c b p k h l may r a n).2 in
        let m : c.world.incarnation r ≤ c.stored r = h.stages.lives r in
        record { low = omega arith; high = omega arith; later = λ z. absurd (omega arith); obeyed = λ _ _. refl }

    of-p : (q : ℕ) → q ≤ c.world.count → q ≢ p → runs (c.stage q) ≡ true → HeardBy (c.stored p) (c.resumed q p) (if q == 0 then false else is_restored x q) q p
    of-p q a n ran =
        let e : c.heard q p ≡ c.stored p = (h.hearing.given q p a may.0.1 n may.1 (told-all c b p k h l may q a n).3).1 ran in
        record { low = omega arith; high = omega arith; later = λ z. absurd (omega arith); obeyed = λ _ f. absurd (wrong (q == 0) refl f) }
      where
        wrong : (t : Bool) → (q == 0) ≡ t → (if t then false else is_restored x q) ≡ true → ⊥
        wrong true z f = cc
        wrong false z f = true-not-false f (behind q (grind (arith, nat_tests)) a n)

    heard-d : (q r : ℕ) → q ≤ c.world.count → r ≤ c.world.count → q ≢ r → runs (d.stage q) ≡ true → HeardAs d q r
    heard-d q r = choose p (λ j s. j ≤ c.world.count → r ≤ c.world.count → j ≢ r → runs (if s then Live else c.stage j) ≡ true → HeardBy (d.world.incarnation r) ((if s then (λ (i : ℕ). true) else c.resumed j) r) (is_answered d r j) j r)
        (λ _ z n _. by-p r z (λ e. n (sym e)))
        (λ j n a z o e. choose p (λ i t. i ≤ c.world.count → j ≢ i → HeardBy (if t then c.stored p else c.world.incarnation i) (c.resumed j i) (if j == 0 then (if t then false else c.greeted i) else is_restored (if t then x else c.world.phase i) j) j i)
        (λ _ _. of-p j a n e) (λ i _ y u. let old : HeardAs c j i = h.hearing.heard j i a y u e in record { low = old.low; high = old.high; later = old.later; obeyed = old.obeyed }) r z o) q

    acks : (s q m : ℕ) → q ≢ p → OnWire b.wire (AcknowledgementPacket s q m (b.incarnation q)) → OnWire b'.wire (AcknowledgementPacket s q m (b'.incarnation q))
    acks s q m n o = elsewhere p (λ j t. j ≢ p → OnWire b.wire (AcknowledgementPacket s j m (b.incarnation j)) → OnWire b'.wire (AcknowledgementPacket s j m (if t then b.incarnation p + 1 else b.incarnation j)))
        (λ j y z. still-cleaned c p may.0.0 b.wire (AcknowledgementPacket s j m (b.incarnation j)) y z) q n n o

    pub agrees-came : Agrees d b'
    agrees-came =
        record {
          phases = record {
            live = choose p (λ j s. is_down (if s then x else c.world.phase j) ≡ false) live (λ j _. h.phases.live j);
            working = choose p (λ j s. is_working (if s then x else c.world.phase j) ≡ is_busy (if s then x else c.world.phase j)) (working ∙ sym busy) (λ j _. h.phases.working j);
          };
          stages = record {
            gateway = (
              elsewhere p (λ j s. c.stage j ≡ Live → (if s then Live else c.stage j) ≡ Live) (λ j e. e) 0 zero-other h.stages.gateway.0,
              elsewhere p (λ j s. c.world.incarnation j ≡ 1 → (if s then c.stored p else c.world.incarnation j) ≡ 1) (λ j e. e) 0 zero-other h.stages.gateway.1,
              elsewhere p (λ j s. c.greeted j ≡ true → (if s then false else c.greeted j) ≡ true) (λ j e. e) 0 zero-other h.stages.gateway.2,
            );
            lone = λ u v a z n e. lone u v a z n e;
            settled = choose p (λ j s. runs (if s then Live else c.stage j) ≡ true → (if s then c.stored p else c.world.incarnation j) ≡ c.stored j) (λ _. refl) (λ j _. h.stages.settled j);
            lives = choose p (λ j s. (if s then c.stored p else c.world.incarnation j) ≤ c.stored j) (omega arith) (λ j _. h.stages.lives j);
            opened = choose p (λ j s. (if s then Live else c.stage j) ≡ Collecting → (if s then c.stored p else c.world.incarnation j) < c.stored j) (λ e. absurd (cc)) (λ j _. h.stages.opened j);
            frozen = choose p (λ j s. (if s then Live else c.stage j) ≡ Frozen → (if s then x else c.world.phase j) ≡ Up) (λ e. absurd (cc)) (λ j _. h.stages.frozen j);
          };
          trimmed = record {
            trimmed = λ s q. rw (covers-d s q) (choose p (λ j t. (if t then c.world.saved_trims p else c.world.trims j) q ≤ covered c.world j q) (h.trimmed.saved_trimmed p q) (λ j _. h.trimmed.trimmed j q) s);
            saved_trimmed = λ s q. rw (covers-d s q) (h.trimmed.saved_trimmed s q);
          };
          untrimmed = record {
            trims = λ s q. choose p (λ j t. (if t then b.saved_trims p else b.trims j) q ≡ 0) (h.untrimmed.saved_trims p q) (λ j _. h.untrimmed.trims j q) s;
            saved_trims = h.untrimmed.saved_trims;
            feed = h.untrimmed.feed;
            free = h.untrimmed.free;
          };
          numbered = record {
            numbers = λ u v i m e. let t = number-was u v i m e in elsewhere p (λ j s. c.world.numbers j v i ≡ Some m → (if s then no-numbers else c.world.numbers j) v i ≡ Some m) (λ j f. f) u t.0 (h.numbered.numbers u v i m t.1);
            logged = λ u v i m a z n e. choose p (λ j s. j ≤ c.world.count → j ≢ v → (if s then no-numbers else c.world.numbers j) v i ≡ Some m
                → (b'.numbers j v i ≡ Some m) ⊎ ((is_answered d v j ≡ false) × (runs (if s then Live else c.stage j) ≡ true → (if s then (λ (x : ℕ). true) else c.resumed j) v ≡ false) × (suc (length (d.world.history v)) < m)) ⊎ (m ≤ c.world.saved v) ⊎ (is_restored (if s then x else c.world.phase j) v ≡ false))
                (λ _ _ f. absurd (cc)) (λ j o y t f. logged j v i m o y z (h.numbered.logged j v i m y z t f)) u a n e;
            fresh = λ u v i e. choose p (λ j s. j ≡ u → is_restored (if s then x else c.world.phase j) v ≡ false → b'.numbers u v i ≡ None)
                (λ f _. none-of-p u v i (sym f) (b'.numbers u v i) refl) (λ j n f g. absurd (all-restored j v n g)) u refl e;
            partly = λ u v i e. choose p (λ j s. is_restored (if s then x else c.world.phase j) v ≡ false → (if s then no-numbers else c.world.numbers j) v i ≡ (if nat_lt 0 i && nat_le i ((if s then (λ (y : ℕ). 0) else c.restoring j) v) then rsn_of (d.world.history v) j i else None))
                (λ _. let z : (nat_lt 0 i && nat_le i 0) ≡ false = grind (arith, nat_tests) in rw z refl) (λ j n f. absurd (all-restored j v n f)) u e;
            begins = λ u v e. choose p (λ j s. is_replaying (if s then x else c.world.phase j) ≡ true → (if s then (λ (y : ℕ). 0) else c.restoring j) v ≡ 0) (λ _. refl) (λ j _ f. h.numbered.begins j v f) u e;
            idle = λ u v e o. choose p (λ j s. is_restored (if s then x else c.world.phase j) v ≡ false → 0 < (if s then (λ (y : ℕ). 0) else c.restoring j) v → IsIdle (d.world.phase v) j) (λ _ f. absurd (omega arith)) (λ j n f _. absurd (all-restored j v n f)) u e o;
          };
          hearing = record {
            heard = heard-d;
            coming = λ u v a z n e f. choose p (λ j s. j ≡ u → c.heard u v ≡ d.world.incarnation v)
                (λ i. let P : ℕ → Type 0 = λ y. y ≢ v → c.heard y v ≡ d.world.incarnation v in subst P i (λ m. (told-all c b p k h l may v z (λ y. m (sym y))).2 ∙ sym (same-life v (λ y. m (sym y)))) n)
                (λ j m i. let o : u ≢ p = λ y. m (i ∙ y) in absurd (true-not-false (back-d u o ∙ qback u a o) f)) u refl;
            collected = λ r q a z n e. let t = collects-d r e in kept r q a z n t.0 t.1 (h.hearing.collected r q a z n t.1);
            gaves = h.hearing.gaves;
            given = λ q r a z n e f. let t = collects-d r e in let o : q ≢ p = (λ y. let P : ℕ → Type 0 = λ i. b.gave i r ≡ c.stored r in not-given r z t.0 t.1 (subst P y f)) in
                let y = h.hearing.given q r a z n t.1 f in
                (back-d q o ∙ y.0, elsewhere p (λ j s. (runs (c.stage j) ≡ true → c.heard j r ≡ c.stored r) → runs (if s then Live else c.stage j) ≡ true → c.heard j r ≡ c.stored r) (λ j g. g) q o y.1, λ s. y.2 (collects-d q s).1);
            own = choose p (λ j s. (if s then (λ (i : ℕ). None) else c.told j) j ≡ None) refl (λ j _. h.hearing.own j);
          };
          wired = record {
            wire = λ q m y a. choose p (λ j s. IsNode c j → nth (if s then take k g else c.world.history j) m ≡ Some y → (if s then (λ (i : ℕ). nat_le i k) else c.world.acknowledged j) m ≡ false
                → OnWire b'.wire (NumberPacket j y.sender y.ssn m (if s then b.incarnation p + 1 else b.incarnation j)) ⊎ OnWire b'.wire (AcknowledgementPacket y.sender j m (if s then b.incarnation p + 1 else b.incarnation j)))
                (λ _ e f. absurd (true-not-false (is_at_most m k (rw (take-length g k long) at (nth-within (take k g) m y e).1)) f))
                (λ j n i e f. elim (h.wired.wire j m y i e f) [
                  | inl o ↦ inl (still-cleaned c p may.0.0 b.wire (NumberPacket j y.sender y.ssn m (b.incarnation j)) n o)
                  | inr o ↦ inr (still-cleaned c p may.0.0 b.wire (AcknowledgementPacket y.sender j m (b.incarnation j)) n o)
                ]) q a;
            owned = owned-cleaned c p may.0.0 b.wire h.wired.owned;
            room = choose p (λ j s. IsNode c j → packets_of b'.wire j ≤ count_below (λ m. not ((if s then (λ (i : ℕ). nat_le i k) else c.world.acknowledged j) (suc m))) (length (if s then take k g else c.world.history j)))
                (λ _. let e : packets_of b'.wire p ≡ 0 = none-cleaned c p may.0.0 b.wire in omega arith)
                (λ j _ i. let e : packets_of b'.wire j ≤ packets_of b.wire j = others-cleaned c p may.0.0 b.wire j i.0 in let f : packets_of b.wire j ≤ waiting c j = h.wired.room j i in omega arith);
            window = choose p (λ j s. IsNode c j → count_below (λ m. not ((if s then (λ (i : ℕ). nat_le i k) else c.world.acknowledged j) (suc m))) (length (if s then take k g else c.world.history j)) + one_if (is_busy (if s then x else c.world.phase j)) ≤ WINDOW)
                (λ _. rw (take-length g k long, busy, none-waits k) (omega arith)) (λ j _. h.wired.window j);
          };
          parcels = parcels-goes {c = c} {b = b} {d = d} {e = b'} (record {
            count = refl;
            lives = choose p (λ j s. c.world.incarnation j ≤ (if s then c.stored p else c.world.incarnation j)) (let z = new-life in omega arith) (λ j _. omega arith);
            stored = λ q. omega arith;
            covers = λ s q. rw (covers-d s q) (omega arith);
            history = λ q e. elsewhere p (λ j s. Begins (c.world.history j) (if s then take k g else c.world.history j)) (λ j. begins-self _) q (other-life q e);
            up = λ q e f. elsewhere p (λ j s. is_back c j ≡ true → (is_up (if s then x else c.world.phase j) && (if s then false else c.greeted j)) ≡ true) (λ j z. z) q (other-life q e) f;
            back = λ q e _. elsewhere p (λ j s. length (if s then take k g else c.world.history j) ≡ length (c.world.history j)) (λ j. refl) q (other-life q e);
            released = λ q r e. let z : released q r ≡ c.world.released q r = same-released q r (other-life q e) in gate (q == 0) (length (c.world.inputs r)) (c.world.released q r) (released q r) (omega arith);
            sends = λ q r e. elsewhere p (λ j s. Begins (sent c.world j r) (payloads c.world j (take (length_in (if s then take k g else c.world.history j) (c.world.saved j) (if s then x else c.world.phase j)) (if s then take k g else c.world.history j)) r)) (λ j. begins-self _) q (other-life q e);
            acknowledged = λ q m e f. elsewhere p (λ j s. c.world.acknowledged j m ≡ true → (if s then (λ (i : ℕ). nat_le i k) else c.world.acknowledged j) m ≡ true) (λ j z. z) q (other-life q e) f;
            wire = λ s q m e y. inr (acks s q m (other-life q e) y);
            told = λ q r reach f e y z t n. let u = collects-d r e in
                (u.1, λ v. let o : q ≢ p = (λ y. let P : ℕ → Type 0 = λ i. b.gave i r ≡ c.stored r in not-given r t u.0 u.1 (subst P y v)) in (same-life q o, v, told-on q r reach f o u.0));
            restored = λ q r e f a z n. let o : r ≢ p = other-life r e in absurd (true-not-false (back-d r o ∙ qback r z o) f);
          }) refl h.parcels;
        }
      where
        same-life : (q : ℕ) → q ≢ p → d.world.incarnation q ≡ c.world.incarnation q
        same-life q o = elsewhere p (λ j s. (if s then c.stored p else c.world.incarnation j) ≡ c.world.incarnation j) (λ j. refl) q o

        told-on : (q r : ℕ) (reach : ℕ → Bool) (f : ℕ → Option Message) → q ≢ p → r ≢ p → IsTold c b q r reach f → IsTold d b' q r reach f
        told-on q r reach f o n = choose p (λ j s. j ≢ p → IsTold c b q j reach f → record {
          only : (m : ℕ) (x : Message) → reach m ≡ true → c.world.saved j < m → m ≤ suc (length (if s then take k g else c.world.history j)) → f m ≡ Some x → (nth (if s then take k g else c.world.history j) m ≡ Some x) × (x.sender ≡ q) × (b'.numbers q j x.ssn ≡ Some m);
          all : (m : ℕ) (x : Message) → reach m ≡ true → c.world.saved j < m → nth (if s then take k g else c.world.history j) m ≡ Some x → x.sender ≡ q → b'.numbers q j x.ssn ≡ Some m → f m ≡ Some x;
        })
            (λ m. absurd (m refl))
            (λ j m _ y. record {
              only = λ e x a z u v. let w_ = y.only e x a z u v in (w_.0, w_.1, number-is q j x.ssn e o w_.2 (λ i. absurd (m i)));
              all = λ e x a z u v number. y.all e x a z u v (number-was q j x.ssn e number).1;
            }) r n

        kept : (r q : ℕ) → r ≤ c.world.count → q ≤ c.world.count → q ≢ r → r ≢ p → c.stage r ≡ Collecting → CollectedAs c b r q (c.told r q) → CollectedAs d b' r q (d.told r q)
        kept r q a z n o e u = elsewhere p (λ j s. CollectedAs d b' r q (c.told j q) → CollectedAs d b' r q ((if s then (λ (i : ℕ). None) else c.told j) q)) (λ j y. y) r o (again (c.told r q) u)
          where
            again : (t : Option Collected) → CollectedAs c b r q t → CollectedAs d b' r q t
            again None y = tt
            again (Some f) y =
                let m : q ≢ p = (λ i. let P : ℕ → Type 0 = λ j. b.gave j r ≡ c.stored r in not-given r a o e (subst P i y.gave)) in
                record { heard = y.heard ∙ sym (same-life q m); gave = y.gave; is = told-on q r (reaches f.upto) f.entries m o y.is }

        zero-other : 0 ≢ p
        zero-other e = let z : 0 < p = may.0.0 in absurd (omega arith)

        gate : (t : Bool) (y m n : ℕ) → m ≤ n → (if t then y else m) ≤ (if t then y else n)
        gate true y m n e = omega arith
        gate false y m n e = e

        -- all others have all numbers
        all-restored : (j v : ℕ) → j ≢ p → is_restored (c.world.phase j) v ≡ false → ⊥
        all-restored j v n e = split (nat_le j c.world.count) refl
          where
            split : (t : Bool) → nat_le j c.world.count ≡ t → ⊥
            split true f = true-not-false (up-restored (c.world.phase j) (back-is c j (qback j (grind (arith, nat_tests)) n)).0 v) e
            split false f = true-not-false (let z : c.world.phase j ≡ Up = l.sound.outside j (λ _. grind (arith, nat_tests)) in let y : is_restored (c.world.phase j) v ≡ true = ap (λ (o : Phase). is_restored o v) z in y) e

        none-of-p : (u v i : ℕ) → u ≡ p → (o : Option ℕ) → b'.numbers u v i ≡ o → b'.numbers u v i ≡ None
        none-of-p u v i e None f = f
        none-of-p u v i e (Some m) f = absurd ((number-was u v i m f).0 e)

        kept-length : (m : ℕ) → suc k < m → suc (length (d.world.history p)) < m
        kept-length m e = at-itself p (λ s. suc (length (if s then take k g else c.world.history p)) < m) (rw (take-length g k long) e)

        shorter : (m : ℕ) → suc (length g) < m → suc (length (d.world.history p)) < m
        shorter m e = kept-length m (let z : k ≤ length g = long in omega arith)

        lone : (u v : ℕ) → u ≤ c.world.count → v ≤ c.world.count → u ≢ v → is_back d u ≡ false → is_back d v ≡ true
        lone u v a z n e = choose p (λ j _. j ≤ c.world.count → u ≢ j → is_back d j ≡ true) (λ _ m. absurd (true-not-false (back-d u m ∙ qback u a m) e)) (λ j m l _. back-d j m ∙ qback j l m) v z n

        unanswered : (u : ℕ) → u ≤ c.world.count → u ≢ p → is_answered d p u ≡ false
        unanswered u a n = at-itself p (λ s. (if u == 0 then (if s then false else c.greeted p) else is_restored (if s then x else c.world.phase p) u) ≡ false) (split (u == 0) refl)
          where
            split : (t : Bool) → (u == 0) ≡ t → (if t then false else is_restored x u) ≡ false
            split true z = refl
            split false z = behind u (grind (arith, nat_tests)) a n

        logged-here : (u i m : ℕ) → u ≢ p → u ≤ c.world.count → NumberAs c b u p i m → (b'.numbers u p i ≡ Some m) ⊎ ((is_answered d p u ≡ false) × (runs (c.stage u) ≡ true → c.resumed u p ≡ false) × (suc (length (d.world.history p)) < m)) ⊎ (m ≤ c.world.saved p) ⊎ (is_restored (c.world.phase u) p ≡ false)
        logged-here u i m o a (inr (inr e)) = inr (inr e)
        logged-here u i m o a (inr (inl e)) = inr (inl (unanswered u a o, e.1, shorter m e.2))
        logged-here u i m o a (inl e) = by_number (nat_le m k) refl
          where
            not-next : m ≢ suc k
            not-next s =
                let t = l.exact.recorded u p i m e in
                let P : ℕ → Type 0 = λ y. nth g y ≡ Some t.message in
                let Q : ℕ → Type 0 = λ y. b.numbers u p y ≡ Some m in
                let R : ℕ → Type 0 = λ y. b.numbers u p t.message.ssn ≡ Some y in
                no-next c b p k h l may u t.message a o (subst P s t.at) t.sender (subst R s (subst Q (sym t.ssn) e))

            by_number : (t : Bool) → nat_le m k ≡ t → (b'.numbers u p i ≡ Some m) ⊎ ((is_answered d p u ≡ false) × (runs (c.stage u) ≡ true → c.resumed u p ≡ false) × (suc (length (d.world.history p)) < m)) ⊎ (m ≤ c.world.saved p) ⊎ (is_restored (c.world.phase u) p ≡ false)
            by_number true y = inl (number-is u p i m o e (λ _. grind (arith, nat_tests)))
            by_number false y =
                let nl : c.world.incarnation p < c.stored p = new-life in
                let more : suc k < m = (let s : k < m = grind (arith, nat_tests) in let r : m ≢ suc k = not-next in omega arith) in
                inr (inl (unanswered u a o, (λ ran. (h.hearing.heard u p a may.0.1 o ran).later (let e1 : c.heard u p ≡ c.stored p = (h.hearing.given u p a may.0.1 o may.1 (told-all c b p k h l may u a o).3).1 ran in omega arith)), kept-length m more))

        logged : (u v i m : ℕ) → u ≢ p → u ≤ c.world.count → v ≤ c.world.count → NumberAs c b u v i m → (b'.numbers u v i ≡ Some m) ⊎ ((is_answered d v u ≡ false) × (runs (c.stage u) ≡ true → c.resumed u v ≡ false) × (suc (length (d.world.history v)) < m)) ⊎ (m ≤ c.world.saved v) ⊎ (is_restored (c.world.phase u) v ≡ false)
        logged u v i m o a = choose p (λ v _. v ≤ c.world.count → NumberAs c b u v i m → (b'.numbers u v i ≡ Some m) ⊎ ((is_answered d v u ≡ false) × (runs (c.stage u) ≡ true → c.resumed u v ≡ false) × (suc (length (d.world.history v)) < m)) ⊎ (m ≤ c.world.saved v) ⊎ (is_restored (c.world.phase u) v ≡ false))
            (λ _. logged-here u i m o a) (λ v n z e. elim e [ inl f ↦ inl (number-is u v i m o f (λ s. absurd (n s))) | inr (inl f) ↦ absurd (true-not-false (back-answered c v u (qback v z n)) f.0) | inr (inr f) ↦ inr (inr f) ]) v
