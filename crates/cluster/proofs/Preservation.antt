-- A checkpoint becomes durable
use Rattle.std.proofs.Common.{◌≡◌, ◌≢◌, ◌⊎◌, inl, inr, ℕ, zero, suc, ◌+◌, ◌<◌, ◌≤◌, length, take, Bool, true, false, refl, sym, ap, ◌∙◌, subst, arith}
use Rattle.std.specs.Prelude.{Option, Some, None, not, ◌&&◌, ◌==◌, nat_lt, nat_le, if◌then◌else◌}
use Rattle.std.proofs.lemmas.Bool.Decides.{nat_tests}
use Rattle.world.specs.declared.message.Message.{Message}
use Rattle.world.specs.declared.packet.Packet.{Packet}
use Rattle.world.specs.declared.packet.Packet.TheVariants.{Number as NumberPacket, Acknowledgement as AcknowledgementPacket}
use Rattle.world.specs.declared.call.Call.TheVariants.{Checkpoint, Lose}
use Rattle.world.specs.declared.answer.Answer.TheVariants.{Saved as SavedAnswer, Lost}
use Rattle.world.specs.History.{nth, count_of}
use Rattle.world.specs.Phases.{Up, is_busy}
use Rattle.world.specs.World.{World, put, is_inside}
use Rattle.world.specs.Logs.{sent, sent_in_all, length_in, payloads, covered}
use Rattle.world.specs.Bounds.{WIRE, count_below, is_none, open_jobs}
use Rattle.world.specs.Calls.{checkpoint}
use Rattle.world.specs.Refusals.{one_if}
use Rattle.theorems.specs.Growth.{Begins}
use Rattle.theorems.proofs.Changes.{choose, elsewhere, at-itself}
use Rattle.theorems.proofs.HistoryLemmas.{count-mono}
use Rattle.theorems.proofs.ListLemmas.{begins-self, nth-within, take-all}
use Rattle.theorems.proofs.Tests.{is_at_most}
use Rattle.cluster.specs.Parcels.{reaches}
use Rattle.cluster.specs.Cluster.{Cluster, Frozen, Collecting, Collected, waiting, WINDOW}
use Rattle.cluster.specs.Rules.{Keeps, May, does, IsNode}
use Rattle.cluster.specs.Inside.Journals.{entry, Leads}
use Rattle.cluster.specs.Inside.Agrees.{Beside, world, CollectedAs, IsTold, OnWire, owner, packets_of, Agrees}
use Rattle.cluster.specs.Inside.Simulation.{IsJournalOf}
use Rattle.cluster.proofs.Worlds.{Lawful, leads-by, leads-self, leads-trans}
use Rattle.cluster.proofs.CountLemmas.{count-less, count-none, same-function}
use Rattle.cluster.proofs.Facts.{true-not-false}
use Rattle.cluster.proofs.Parcels.{parcels-goes}
use Rattle.cluster.proofs.Wires.{step-of, leads-one, below-self}

-- the wire without packets of p below this key
abbrev pub cleaned : (ℕ → Option Packet) → ℕ → ℕ → ℕ → Option Packet
cleaned wire p n key = if nat_lt key n && (owner (wire key) == p) then None else wire key

-- the world with this wire
abbrev pub cleared : World → ℕ → ℕ → World
cleared w p n = record w { wire = cleaned w.wire p n }

-- all packets of p are lost
pub lose-all : (w : World) (p : ℕ) → 0 < p → (n : ℕ) → Leads w (record w { wire = cleaned w.wire p n })
lose-all w p a zero = let P : World → Type 0 = λ v. Leads w v in subst P (ap (λ (f : ℕ → Option Packet). record w { wire = f }) (same-function w.wire (cleaned w.wire p zero) (λ key. let e : nat_lt key 0 ≡ false = grind (arith, nat_tests) in rw e refl))) (leads-self w)
lose-all w p a (suc n) = split (owner (w.wire n) == p) refl (lose-all w p a n)
  where
    there : cleaned w.wire p n n ≡ w.wire n
    there = let e : nat_lt n n ≡ false = grind (arith, nat_tests) in rw e refl

    is-some : (o : Option Packet) → (owner o == p) ≡ true → is_none o ≡ false
    is-some None e = absurd (let f : (0 == p) ≡ false = grind (arith, nat_tests) in true-not-false e f)
    is-some (Some x) e = refl

    split : (t : Bool) → (owner (w.wire n) == p) ≡ t → Leads w (cleared w p n) → Leads w (record w { wire = cleaned w.wire p (suc n) })
    split false e l =
        let P : World → Type 0 = λ v. Leads w v in
        subst P (ap (λ (f : ℕ → Option Packet). record w { wire = f }) (same-function (cleaned w.wire p n) (cleaned w.wire p (suc n)) (λ key. same key (key == n) refl))) l
      where
        same : (key : ℕ) → (s : Bool) → (key == n) ≡ s → cleaned w.wire p n key ≡ cleaned w.wire p (suc n) key
        same key true f =
            let at : key ≡ n = grind (arith, nat_tests) in
            let g : (owner (w.wire key) == p) ≡ false = ap (λ z. owner (w.wire z) == p) at ∙ e in
            let x : (nat_lt key n && (owner (w.wire key) == p)) ≡ false = rw g (last (nat_lt key n)) in
            let y : (nat_lt key (suc n) && (owner (w.wire key) == p)) ≡ false = rw g (last (nat_lt key (suc n))) in
            rw (x, y) refl
          where
            last : (u : Bool) → (u && false) ≡ false
            last true = refl
            last false = refl
        same key false f = let x : nat_lt key n ≡ nat_lt key (suc n) = grind (arith, nat_tests) in rw x refl
    split true e l =
        leads-trans l (leads-one (cleared w p n) (record w { wire = cleaned w.wire p (suc n) }) (Lose n) Lost
        (step-of (cleared w p n) (Lose n) Lost (open_jobs w + 1) (rw there (is-some (w.wire n) e), (below-self (open_jobs w + 1), tt)) refl refl)
        (ap (λ (f : ℕ → Option Packet). record w { wire = f }) (same-function (put (cleaned w.wire p n) n None) (cleaned w.wire p (suc n)) (λ key. same key (key == n) refl))))
      where
        same : (key : ℕ) → (s : Bool) → (key == n) ≡ s → (if s then None else cleaned w.wire p n key) ≡ cleaned w.wire p (suc n) key
        same key true f =
            let at : key ≡ n = grind (arith, nat_tests) in
            let g : (owner (w.wire key) == p) ≡ true = ap (λ z. owner (w.wire z) == p) at ∙ e in
            let x : nat_lt key (suc n) ≡ true = grind (arith, nat_tests) in
            rw (g, x) refl
        same key false f = let x : nat_lt key n ≡ nat_lt key (suc n) = grind (arith, nat_tests) in rw x refl

module _ (c : Cluster) (p : ℕ) (a : 0 < p) (wire : ℕ → Option Packet) where
  -- what others have on the wire is still there
  pub still-cleaned : (x : Packet) → (owner (Some x) ≡ p → ⊥) → OnWire wire x → OnWire (cleaned wire p WIRE) x
  still-cleaned x n o =
      let e : (owner (wire o.key) == p) ≡ false = rw o.is (let m : owner (Some x) ≢ p = n in grind (arith, nat_tests)) in
      let f : (nat_lt o.key WIRE && (owner (wire o.key) == p)) ≡ false = rw e (last (nat_lt o.key WIRE)) in
      record { key = o.key; below = o.below; is = rw f o.is }
    where
      last : (u : Bool) → (u && false) ≡ false
      last true = refl
      last false = refl

  -- what is left on the wire is still some node's
  pub owned-cleaned : ((key : ℕ) → (wire key ≡ None) ⊎ IsNode c (owner (wire key))) → (key : ℕ) → (cleaned wire p WIRE key ≡ None) ⊎ IsNode c (owner (cleaned wire p WIRE key))
  owned-cleaned owned key = split (nat_lt key WIRE && (owner (wire key) == p)) (owned key)
    where
      split : (t : Bool) → (wire key ≡ None) ⊎ IsNode c (owner (wire key)) → ((if t then None else wire key) ≡ None) ⊎ IsNode c (owner (if t then None else wire key))
      split true o = inl refl
      split false o = o

  -- nothing of p is left
  pub none-cleaned : packets_of (cleaned wire p WIRE) p ≡ 0
  none-cleaned = count-none (λ key. owner (cleaned wire p WIRE key) == p) WIRE (λ key l. let e : nat_lt key WIRE ≡ true = grind (arith, nat_tests) in rw e (each key (owner (wire key) == p) refl))
    where
      each : (key : ℕ) → (t : Bool) → (owner (wire key) == p) ≡ t → (owner (if t then None else wire key) == p) ≡ false
      each key true e = grind (arith, nat_tests)
      each key false e = e

  -- and no other node has more than before
  pub others-cleaned : (q : ℕ) → 0 < q → packets_of (cleaned wire p WIRE) q ≤ packets_of wire q
  others-cleaned q z = count-less (λ key. owner (cleaned wire p WIRE key) == q) (λ key. owner (wire key) == q) WIRE (λ key _. each key (nat_lt key WIRE && (owner (wire key) == p)))
    where
      each : (key : ℕ) → (t : Bool) → (owner (if t then None else wire key) == q) ≡ true → (owner (wire key) == q) ≡ true
      each key true e = absurd (let f : (0 == q) ≡ false = grind (arith, nat_tests) in true-not-false e f)
      each key false e = e

-- nothing waits where all is acknowledged
pub none-waits : (n : ℕ) → count_below (λ k. not (nat_le (suc k) n)) n ≡ 0
none-waits n = count-none (λ k. not (nat_le (suc k) n)) n (λ k l. let e : nat_le (suc k) n ≡ true = grind (arith, nat_tests) in rw e refl)

module _ (c : Cluster) (b : Beside) (p : ℕ) (h : Agrees c b) (l : Lawful (world c b)) (may : May c (Keeps p)) where
  abbrev w : World
  w = world c b

  abbrev c' : Cluster
  c' = does c (Keeps p)

  abbrev b' : Beside
  b' = record b { saved_trims = put b.saved_trims p (b.trims p); wire = cleaned b.wire p WIRE }

  up : c.world.phase p ≡ Up
  up = h.stages.frozen p may.1

  not-p : (r : ℕ) → c.stage r ≡ Collecting → r ≢ p
  not-p r e f = let P : ℕ → Type 0 = λ x. c.stage x ≡ Collecting in let g : Frozen ≡ Collecting = sym may.1 ∙ subst P f e in cc

  covers : (s q : ℕ) → covered c.world s q ≤ covered c'.world s q
  covers s q = choose 0 (λ j t. count_of s (if t then c.world.shown else take (c.world.saved j) (c.world.history j)) ≤ count_of s (if t then c.world.shown else take (c'.world.saved j) (c.world.history j))) (omega arith)
      (λ j _. choose p (λ i t. count_of s (take (c.world.saved i) (c.world.history i)) ≤ count_of s (take (if t then length (c.world.history p) else c.world.saved i) (c.world.history i))) (count-mono s (c.world.history p) _ _ (l.sound.saved p)) (λ i _. omega arith) j) q

  told-on : (q r : ℕ) (reach : ℕ → Bool) (f : ℕ → Option Message) → c.stage r ≡ Collecting → IsTold c b q r reach f → IsTold c' b' q r reach f
  told-on q r reach f s y = elsewhere p (λ j t. IsTold c b q j reach f → record {
    only : (k : ℕ) (x : Message) → reach k ≡ true → (if t then length (c.world.history p) else c.world.saved j) < k → k ≤ suc (length (c.world.history j)) → f k ≡ Some x → (nth (c.world.history j) k ≡ Some x) × (x.sender ≡ q) × (b.numbers q j x.ssn ≡ Some k);
    all : (k : ℕ) (x : Message) → reach k ≡ true → (if t then length (c.world.history p) else c.world.saved j) < k → nth (c.world.history j) k ≡ Some x → x.sender ≡ q → b.numbers q j x.ssn ≡ Some k → f k ≡ Some x;
  }) (λ j y. y) r (not-p r s) y

  kept : (r q : ℕ) → c.stage r ≡ Collecting → (o : Option Collected) → CollectedAs c b r q o → CollectedAs c' b' r q o
  kept r q s None t = tt
  kept r q s (Some f) t = record { heard = t.heard; gave = t.gave; is = told-on q r (reaches f.upto) f.entries s t.is }

  more : (q k : ℕ) → c.world.acknowledged q k ≡ true → c'.world.acknowledged q k ≡ true
  more q k = choose p (λ j t. c.world.acknowledged j k ≡ true → (if t then (λ (k : ℕ). nat_le k (length (c.world.history p))) else c.world.acknowledged j) k ≡ true) (λ e. is_at_most k _ (l.sound.acknowledged p k e)) (λ j _ e. e) q

  all : (k : ℕ) → k ≤ length (c.world.history p) → c'.world.acknowledged p k ≡ true
  all k e = at-itself p (λ t. (if t then (λ (k : ℕ). nat_le k (length (c.world.history p))) else c.world.acknowledged p) k ≡ true) (is_at_most k _ e)

  acks : (s q k : ℕ) → OnWire b.wire (AcknowledgementPacket s q k (b.incarnation q)) → (c'.world.acknowledged q k ≡ true) ⊎ OnWire b'.wire (AcknowledgementPacket s q k (b.incarnation q))
  acks s q k = choose p (λ j _. OnWire b.wire (AcknowledgementPacket s j k (b.incarnation j)) → (c'.world.acknowledged j k ≡ true) ⊎ OnWire b'.wire (AcknowledgementPacket s j k (b.incarnation j)))
      (λ o. let t = rw o.is at (l.exact.packets o.key) refl in inl (all k (nth-within (c.world.history p) k t.message t.at).1)) (λ j n o. inr (still-cleaned c p may.0.0 b.wire (AcknowledgementPacket s j k (b.incarnation j)) n o)) q

  agrees-keeps : Agrees c' b'
  agrees-keeps =
      record {
        phases = h.phases;
        stages = h.stages;
        trimmed = record {
          trimmed = λ s d. let x : c.world.trims s d ≤ covered c.world s d = h.trimmed.trimmed s d in let y : covered c.world s d ≤ covered c'.world s d = covers s d in omega arith;
          saved_trimmed = λ s d. let y : covered c.world s d ≤ covered c'.world s d = covers s d in
              choose p (λ j t. covered c.world j d ≤ covered c'.world j d → (if t then c.world.trims p else c.world.saved_trims j) d ≤ covered c'.world j d)
              (λ z. let x : c.world.trims p d ≤ covered c.world p d = h.trimmed.trimmed p d in omega arith)
              (λ j _ z. let x : c.world.saved_trims j d ≤ covered c.world j d = h.trimmed.saved_trimmed j d in omega arith) s y;
        };
        untrimmed = record { trims = h.untrimmed.trims; saved_trims = λ s d. choose p (λ j t. (if t then b.trims p else b.saved_trims j) d ≡ 0) (h.untrimmed.trims p d) (λ j _. h.untrimmed.saved_trims j d) s; feed = h.untrimmed.feed; free = h.untrimmed.free };
        numbered = record {
          numbers = h.numbered.numbers;
          logged = λ q r s m x y n e. elim (h.numbered.logged q r s m x y n e) [
            | inl z ↦ inl z
            | inr (inl z) ↦ inr (inl z)
            | inr (inr (inr z)) ↦ inr (inr (inr z))
            | inr (inr (inl z)) ↦ inr (inr (inl (choose p (λ j t. m ≤ c.world.saved j → m ≤ (if t then length (c.world.history p) else c.world.saved j)) (λ u. let v : c.world.saved p ≤ length (c.world.history p) = l.sound.saved p in omega arith) (λ j _ u. u) r z)))
          ];
          fresh = h.numbered.fresh;
          partly = h.numbered.partly;
          begins = h.numbered.begins;
          idle = h.numbered.idle;
        };
        hearing = record { heard = h.hearing.heard; coming = h.hearing.coming; collected = λ r q x y n e. kept r q e (c.told r q) (h.hearing.collected r q x y n e); own = h.hearing.own; gaves = h.hearing.gaves; given = h.hearing.given };
        wired = record {
          wire = λ q k x a e f. choose p (λ j t. j ≡ q → OnWire b'.wire (NumberPacket q x.sender x.ssn k (b.incarnation q)) ⊎ OnWire b'.wire (AcknowledgementPacket x.sender q k (b.incarnation q)))
              (λ g. absurd (let P : ℕ → Type 0 = λ z. k ≤ length (c.world.history z) in let Q : ℕ → Type 0 = λ z. c'.world.acknowledged z k ≡ true in true-not-false (subst Q g (all k (subst P (sym g) (nth-within (c.world.history q) k x e).1))) f))
              (λ j n g. let m : q ≢ p = λ z. n (g ∙ z) in elim (h.wired.wire q k x a e (was q k f)) [
                | inl o ↦ inl (still-cleaned c p may.0.0 b.wire (NumberPacket q x.sender x.ssn k (b.incarnation q)) m o)
                | inr o ↦ inr (still-cleaned c p may.0.0 b.wire (AcknowledgementPacket x.sender q k (b.incarnation q)) m o)
              ]) q refl;
          owned = owned-cleaned c p may.0.0 b.wire h.wired.owned;
          room = λ q a. choose p (λ j t. j ≡ q → packets_of b'.wire q ≤ waiting c' q)
              (λ g. let P : ℕ → Type 0 = λ z. packets_of b'.wire z ≤ waiting c' z in subst P g (let e : packets_of b'.wire p ≡ 0 = none-cleaned c p may.0.0 b.wire in omega arith))
              (λ j n g. let m : q ≢ p = λ z. n (g ∙ z) in let x : packets_of b'.wire q ≤ packets_of b.wire q = others-cleaned c p may.0.0 b.wire q a.0 in let y : packets_of b.wire q ≤ waiting c q = h.wired.room q a in let z : waiting c q ≡ waiting c' q = others q m in omega arith) q refl;
          window = λ q a. let x : waiting c' q ≤ waiting c q = waits-less q in let y : waiting c q + one_if (is_busy (c.world.phase q)) ≤ WINDOW = h.wired.window q a in omega arith;
        };
        parcels = parcels-goes {c = c} {b = b} {d = c'} {e = b'} (record {
          count = refl;
          lives = λ q. omega arith;
          stored = λ q. omega arith;
          covers = covers;
          history = λ q _. begins-self _;
          up = λ q _ e. e;
          back = λ q _ _. refl;
          released = λ q r _. gate (q == 0) (length (c.world.inputs r)) (c.world.released q r) (c'.world.released q r) (rises q r);
          sends = λ q r _. choose p (λ j t. Begins (sent c.world j r) (payloads c.world j (take (length_in (c.world.history j) (if t then length (c.world.history p) else c.world.saved j) (c.world.phase j)) (c.world.history j)) r)) (rw up (begins-self _)) (λ j _. begins-self _) q;
          acknowledged = λ q k _ e. more q k e;
          wire = λ s q k _ y. acks s q k y;
          told = λ q r reach f x y s z n. (x, λ v. (refl, v, λ g. told-on q r reach f x g));
          restored = λ q r _ e x z n. (refl, λ y. y, λ j _. refl, λ y. y, λ y s m f. elim (y s m f) [ inl v ↦ inl v | inr v ↦ inr (saved-more r m v) ]);
        }) refl h.parcels;
      }
    where
      saved-more : (r m : ℕ) → m ≤ c.world.saved r → m ≤ c'.world.saved r
      saved-more r m = choose p (λ j t. m ≤ c.world.saved j → m ≤ (if t then length (c.world.history p) else c.world.saved j)) (λ u. let v : c.world.saved p ≤ length (c.world.history p) = l.sound.saved p in omega arith) (λ j _ u. u) r

      was : (q k : ℕ) → c'.world.acknowledged q k ≡ false → c.world.acknowledged q k ≡ false
      was q k e = split (c.world.acknowledged q k) refl
        where
          split : (t : Bool) → c.world.acknowledged q k ≡ t → t ≡ false
          split true f = absurd (true-not-false (more q k f) e)
          split false f = refl

      others : (q : ℕ) → q ≢ p → waiting c q ≡ waiting c' q
      others q n = elsewhere p (λ j t. waiting c j ≡ count_below (λ m. not ((if t then (λ (k : ℕ). nat_le k (length (c.world.history p))) else c.world.acknowledged j) (suc m))) (length (c.world.history j))) (λ j. refl) q n

      waits-less : (q : ℕ) → waiting c' q ≤ waiting c q
      waits-less q = count-less (λ j. not (c'.world.acknowledged q (suc j))) (λ j. not (c.world.acknowledged q (suc j))) (length (c.world.history q)) (λ j _ e. each j e (c.world.acknowledged q (suc j)) refl)
        where
          each : (j : ℕ) → not (c'.world.acknowledged q (suc j)) ≡ true → (t : Bool) → c.world.acknowledged q (suc j) ≡ t → not t ≡ true
          each j e true f = absurd (let g : c'.world.acknowledged q (suc j) ≡ true = more q (suc j) f in let u : not (c'.world.acknowledged q (suc j)) ≡ false = rw g refl in true-not-false e u)
          each j e false f = refl

      gate : (t : Bool) (x m n : ℕ) → m ≤ n → (if t then x else m) ≤ (if t then x else n)
      gate true x m n e = omega arith
      gate false x m n e = e

      rises : (q r : ℕ) → c.world.released q r ≤ c'.world.released q r
      rises q r = choose p (λ j t. c.world.released j r ≤ (if t then sent_in_all c.world p else c.world.released j) r)
          (let x : c.world.released p r ≤ length (sent w p r) = (l.tidy p).gated r in let e : sent_in_all c.world p r ≡ length (sent w p r) = whole r in omega arith) (λ j _. omega arith) q
        where
          whole : (r : ℕ) → sent_in_all c.world p r ≡ length (sent w p r)
          whole r = rw (up, take-all (c.world.history p)) refl

  pub step-keeps : IsJournalOf (world c b) (does c (Keeps p))
  step-keeps =
      record {
        beside = b';
        leads = leads-by w (world c' b') (entry (Checkpoint p) (SavedAnswer (length (c.world.history p))))
            (step-of w (Checkpoint p) (SavedAnswer (length (c.world.history p))) (open_jobs w + 1) (inside may.0.0 may.0.1, (rw up refl, (rw up refl, (below-self (open_jobs w + 1), tt)))) refl refl)
            (lose-all (checkpoint w p) p may.0.0 WIRE);
        agrees = agrees-keeps;
      }
    where
      inside : 0 < p → p ≤ c.world.count → not (is_inside w p) ≡ false
      inside x y = grind (arith, nat_tests)
