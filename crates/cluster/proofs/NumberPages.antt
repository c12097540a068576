-- A node enters a page of numbers that a peer restores to it
use Rattle.std.proofs.Common.{◌≡◌, ◌≢◌, inr, ℕ, zero, suc, ◌<◌, ◌≤◌, List, max, Bool, true, false, refl, sym, ap, ◌∙◌, subst, arith, ◌⊎◌}
use Rattle.std.specs.Prelude.{Option, Some, None, ◌&&◌, nat_lt, nat_le, if◌then◌else◌}
use Rattle.std.proofs.lemmas.Bool.Decides.{nat_tests}
use Rattle.world.specs.declared.message.Message.{Message}
use Rattle.world.specs.History.{rsn_of}
use Rattle.world.specs.Phases.{Up, Busy, Resync, is_up, is_replaying, todo_of, has, without}
use Rattle.world.specs.World.{World}
use Rattle.world.specs.Logs.{covered}
use Rattle.theorems.specs.Invariants.Exact.{is_restored}
use Rattle.theorems.proofs.PhaseLemmas.{resync-phase}
use Rattle.cluster.specs.Parcels.{Restored, parcel, In, reaches}
use Rattle.cluster.specs.Cluster.{Cluster, Collecting, Collected, runs}
use Rattle.cluster.specs.Rules.{Arrives, Awaits, May, does, entered, put2, IsNode}
use Rattle.cluster.specs.Inside.Agrees.{Beside, world, NumberAs, HeardAs, CollectedAs, AllKept, IsIdle, is_back, restored_so_far, Agrees}
use Rattle.cluster.proofs.Worlds.{Lawful}
use Rattle.cluster.proofs.Facts.{choose2, runs-live, true-not-false, others-back}
use Rattle.cluster.proofs.Parcels.{parcels-quiet}

-- what may be done with a page of any kind
abbrev pub MayEnter : Cluster → ℕ → ℕ → ℕ → ℕ → ℕ → ℕ → Option ℕ → (ℕ → Option ℕ) → Type 0
MayEnter c q p i j n s u f = In (parcel q p (Restored i j n s u f)) c.parcels × Awaits c p q i j s

module _ (c : Cluster) (b : Beside) (q p i j n s : ℕ) (u : Option ℕ) (f : ℕ → Option ℕ) (h : Agrees c b) (l : Lawful (world c b)) (may : MayEnter c q p i j n s u f) where
  abbrev pub todo : List ℕ
  todo = (resync-phase (c.world.phase p) q may.1.3).0

  pub at : c.world.phase p ≡ Resync todo
  at = (resync-phase (c.world.phase p) q may.1.3).1

  abbrev pub rest : List ℕ
  rest = without (todo_of (c.world.phase p)) q

  pub rest-is : rest ≡ without todo q
  rest-is = ap (λ x. without (todo_of x) q) at

  abbrev w : World
  w = world c b

  qa : q ≤ c.world.count
  qa = (h.parcels q p (Restored i j n s u f) may.0).0

  pub pa : p ≤ c.world.count
  pa = (h.parcels q p (Restored i j n s u f) may.0).1

  pub ne : q ≢ p
  ne = (h.parcels q p (Restored i j n s u f) may.0).2

  ran : runs (c.stage p) ≡ true
  ran = runs-live _ may.1.1

  pub was : is_up (c.world.phase p) ≡ false
  was = rw at refl

  unback : is_back c p ≡ false
  unback = rw was refl

  pub node : IsNode c p
  node = (first p refl, pa)
    where
      first : (k : ℕ) → k ≡ p → 0 < p
      first zero e = absurd (let z : c.world.phase 0 ≡ Up = l.sound.outside 0 (λ a. absurd (omega arith)) in let y : is_up (c.world.phase 0) ≡ true = ap is_up z in let P : ℕ → Type 0 = λ x. is_up (c.world.phase x) ≡ true in true-not-false (subst P e y) was)
      first (suc k) e = omega arith

  pub now : (j ≡ c.world.incarnation q) × (((m : Message) → c.world.phase q ≡ Busy m → m.sender ≢ p)) × ((ssn : ℕ) → s < ssn → reaches u ssn ≡ true → f ssn ≡ rsn_of (c.world.history q) p ssn) × (runs (c.stage q) ≡ true → c.heard q p ≡ c.world.incarnation p → c.resumed q p ≡ true) × AllKept c b q p
  now = (h.parcels q p (Restored i j n s u f) may.0).3.now may.1.2 unback

  pub qback : is_back c q ≡ true
  qback = others-back c b h p q pa qa ne unback

  pub there_ : is_restored (c.world.phase p) q ≡ false
  there_ = let e : has (todo_of (c.world.phase p)) q ≡ true = may.1.3 in let g : has todo q ≡ true = rw at at e in rw (at, g) refl

  -- what q was told and what it received of p agree
  pub same-heard : (x y : ℕ) → put2 c.heard p q j x y ≡ c.heard x y
  same-heard = choose2 p q (λ x y t. (if t then j else c.heard x y) ≡ c.heard x y) (now.0 ∙ sym (h.hearing.coming p q pa qa (λ e. ne (sym e)) ran unback)) (λ x y _. refl)

  -- p has answered nobody that collects
  pub not-given : (r : ℕ) → r ≤ c.world.count → p ≢ r → c.stage r ≡ Collecting → b.gave p r ≡ c.stored r → ⊥
  not-given r a m e g = true-not-false (h.hearing.given p r pa a m e g).0 unback

  pub covers : max (c.world.trims p q) n ≤ covered c.world p q
  covers = let x : n ≤ covered c.world p q = (h.parcels q p (Restored i j n s u f) may.0).3.covers in let y : c.world.trims p q ≤ covered c.world p q = h.trimmed.trimmed p q in omega arith

  -- the world has no numbers yet
  pub no-number : (ssn m : ℕ) → b.numbers p q ssn ≡ Some m → ⊥
  no-number ssn m e = let g : None ≡ Some m = sym (h.numbered.fresh p q ssn there_) ∙ e in cc

-- a page
pub agrees-enters : (c : Cluster) (b : Beside) (q p i j n s u : ℕ) (f : ℕ → Option ℕ) → Agrees c b → Lawful (world c b) → May c (Arrives q p (Restored i j n s (Some u) f)) → Agrees (does c (Arrives q p (Restored i j n s (Some u) f))) b
agrees-enters c b q p i j n s u f h l may =
    let d : Cluster = does c (Arrives q p (Restored i j n s (Some u) f)) in
    let same : (x y : ℕ) → d.heard x y ≡ c.heard x y = same-heard c b q p i j n s (Some u) f h l may in
    let unrestored : is_restored (c.world.phase p) q ≡ false = there_ c b q p i j n s (Some u) f h l may in
    let told_ = now c b q p i j n s (Some u) f h l may in
    record {
      phases = h.phases;
      stages = h.stages;
      trimmed = record {
        trimmed = choose2 p q (λ x y t. (if t then max (c.world.trims p q) n else c.world.trims x y) ≤ covered c.world x y) (covers c b q p i j n s (Some u) f h l may) (λ x y _. h.trimmed.trimmed x y);
        saved_trimmed = h.trimmed.saved_trimmed;
      };
      untrimmed = h.untrimmed;
      numbered = record {
        numbers = choose2 p q (λ x y t. (ssn m : ℕ) → b.numbers x y ssn ≡ Some m → (if t then entered c p q s (Some u) f else c.world.numbers x y) ssn ≡ Some m)
            (λ ssn m e. absurd (no-number c b q p i j n s (Some u) f h l may ssn m e)) (λ x y _. h.numbered.numbers x y);
        logged = choose2 p q (λ x y t. (ssn m : ℕ) → x ≤ c.world.count → y ≤ c.world.count → x ≢ y → (if t then entered c p q s (Some u) f else c.world.numbers x y) ssn ≡ Some m → NumberAs c b x y ssn m)
            (λ ssn m _ _ _ _. inr (inr (inr unrestored))) (λ x y _. h.numbered.logged x y);
        fresh = h.numbered.fresh;
        partly = choose2 p q (λ x y t. (ssn : ℕ) → is_restored (c.world.phase x) y ≡ false → (if t then entered c p q s (Some u) f else c.world.numbers x y) ssn ≡ (if nat_lt 0 ssn && nat_le ssn (if t then u else c.restoring x y) then rsn_of (c.world.history y) x ssn else None))
            (λ ssn e. page ssn) (λ x y _. h.numbered.partly x y);
        begins = choose2 p q (λ x y t. is_replaying (c.world.phase x) ≡ true → (if t then u else c.restoring x y) ≡ 0) (λ e. absurd (true-not-false e (rw (at c b q p i j n s (Some u) f h l may) refl))) (λ x y _. h.numbered.begins x y);
        idle = choose2 p q (λ x y t. is_restored (c.world.phase x) y ≡ false → 0 < (if t then u else c.restoring x y) → IsIdle (c.world.phase y) x) (λ _ _. told_.1) (λ x y _. h.numbered.idle x y);
      };
      hearing = record {
        heard = λ x y a z m e. let old : HeardAs c x y = h.hearing.heard x y a z m e in
            record { low = rw (same x y) old.low; high = rw (same x y) old.high; later = λ g. old.later (rw (same x y) at g); obeyed = λ g. old.obeyed (rw (same x y) at g) };
        coming = λ x y a z m e g. rw (same x y) (h.hearing.coming x y a z m e g);
        collected = λ x y a z m e. kept x y (c.told x y) (h.hearing.collected x y a z m e);
        gaves = h.hearing.gaves;
        given = λ x y a z m e g. let k = h.hearing.given x y a z m e g in (k.0, λ r. rw (same x y) (k.1 r), k.2);
        own = h.hearing.own;
      };
      wired = h.wired;
      parcels = parcels-quiet c b c.stage c.stored d.world.trims d.world.numbers d.heard c.resumed c.told (λ r. omega arith) (λ x y _ z _ e _. e) (λ x y _ _ _ _ g r e. g r (sym (same x y) ∙ e))
          (λ x y a z m e g. choose2 p q (λ x y t. is_back c y ≡ false → AllKept c b x y → (ssn k : ℕ) → (if t then entered c p q s (Some u) f else c.world.numbers x y) ssn ≡ Some k → (b.numbers x y ssn ≡ Some k) ⊎ (k ≤ c.world.saved y))
          (λ e. absurd (true-not-false (qback c b q p i j n s (Some u) f h l may) e)) (λ x y _ _ g. g) x y e g) h.parcels;
    }
  where
    kept : (x y : ℕ) (o : Option Collected) → CollectedAs c b x y o → CollectedAs (does c (Arrives q p (Restored i j n s (Some u) f))) b x y o
    kept x y None t = tt
    kept x y (Some g) t = record { heard = rw (same-heard c b q p i j n s (Some u) f h l may x y) t.heard; gave = t.gave; is = t.is }

    page : (ssn : ℕ) → entered c p q s (Some u) f ssn ≡ (if nat_lt 0 ssn && nat_le ssn u then rsn_of (c.world.history q) p ssn else None)
    page ssn = split (nat_lt s ssn && nat_le ssn u) refl
      where
        ahead : s < u
        ahead = (h.parcels q p (Restored i j n s (Some u) f) may.0).3.ahead u refl

        old : c.world.numbers p q ssn ≡ restored_so_far c p q ssn
        old = h.numbered.partly p q ssn (there_ c b q p i j n s (Some u) f h l may)

        split : (t : Bool) → (nat_lt s ssn && nat_le ssn u) ≡ t → (if t then f ssn else c.world.numbers p q ssn) ≡ (if nat_lt 0 ssn && nat_le ssn u then rsn_of (c.world.history q) p ssn else None)
        split true e =
            let x : s < ssn = grind (arith, nat_tests) in
            let y : nat_le ssn u ≡ true = grind (arith, nat_tests) in
            let z : (nat_lt 0 ssn && nat_le ssn u) ≡ true = grind (arith, nat_tests) in
            rw z ((now c b q p i j n s (Some u) f h l may).2 ssn x y)
        split false e =
            let z : nat_le ssn u ≡ nat_le ssn (c.restoring p q) = last (nat_lt s ssn) refl e in
            rw z old
          where
            last : (t : Bool) → nat_lt s ssn ≡ t → (t && nat_le ssn u) ≡ false → nat_le ssn u ≡ nat_le ssn (c.restoring p q)
            last true g y = let x : s ≡ c.restoring p q = may.1.4 in let w : nat_le ssn (c.restoring p q) ≡ false = grind (arith, nat_tests) in y ∙ sym w
            last false g y = let x : s ≡ c.restoring p q = may.1.4 in let k : s < u = ahead in let v : nat_le ssn u ≡ true = grind (arith, nat_tests) in let w : nat_le ssn (c.restoring p q) ≡ true = grind (arith, nat_tests) in v ∙ sym w
