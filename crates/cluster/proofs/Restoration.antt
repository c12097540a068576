-- A node has the last of its numbers for a peer
use Rattle.std.proofs.Common.{◌≡◌, ◌≢◌, inl, inr, ℕ, suc, ◌+◌, ◌<◌, ◌≤◌, List, [], ◌∷◌, length, take, max, Bool, true, false, refl, sym, ◌∙◌, subst, arith, ◌⊎◌}
use Rattle.std.specs.Prelude.{Option, Some, None, not, ◌&&◌, ◌==◌, nat_lt, nat_le, if◌then◌else◌}
use Rattle.std.proofs.lemmas.Bool.Decides.{nat_tests}
use Rattle.world.specs.declared.message.Message.{Message}
use Rattle.world.specs.declared.call.Call.TheVariants.{Resync as ResyncWith}
use Rattle.world.specs.declared.answer.Answer.TheVariants.{Restored as RestoredAnswer}
use Rattle.world.specs.History.{rsn_of}
use Rattle.world.specs.Phases.{Resync, is_up, is_replaying, has, without}
use Rattle.world.specs.World.{World, put, is_inside}
use Rattle.world.specs.Logs.{sent, payloads, covered, is_entry, length_in}
use Rattle.world.specs.Bounds.{open_jobs}
use Rattle.world.specs.Calls.{phase_with, released_with, told, restored as restored_count}
use Rattle.theorems.specs.Invariants.Secured.{Safe}
use Rattle.theorems.specs.Invariants.Exact.{Names, is_restored}
use Rattle.theorems.proofs.HistoryLemmas.{names-found}
use Rattle.theorems.proofs.LogLemmas.{entry-test}
use Rattle.theorems.proofs.Changes.{choose, at-itself}
use Rattle.theorems.proofs.Tests.{neither, not-false}
use Rattle.theorems.proofs.PhaseLemmas.{with-down, with-length, with-restored}
use Rattle.theorems.proofs.ListLemmas.{begins-self, take-all, at-number, nth-within}
use Rattle.theorems.proofs.Resyncs.{without-has}
use Rattle.theorems.proofs.TidyLemmas.{sent-more}
use Rattle.cluster.specs.Parcels.{reaches}
use Rattle.cluster.specs.Cluster.{Cluster, Collecting, Collected, runs}
use Rattle.cluster.specs.Rules.{goes_on, takes_in, entered, put2}
use Rattle.cluster.specs.Inside.Agrees.{Beside, world, NumberAs, HeardAs, CollectedAs, IsTold, AllKept, IsIdle, is_back, is_answered, restored_so_far, Agrees}
use Rattle.cluster.specs.Inside.Simulation.{IsJournalOf}
use Rattle.cluster.proofs.Worlds.{Lawful}
use Rattle.cluster.proofs.Facts.{choose2, true-not-false, back-is}
use Rattle.cluster.proofs.Parcels.{parcels-goes, parcels-quiet}
use Rattle.cluster.proofs.Turns.{Turn, agrees-turn}
use Rattle.cluster.proofs.Replays.{with-busy, with-working, released-more}
use Rattle.cluster.proofs.Wires.{step-of, leads-one, below-self}
use Rattle.cluster.proofs.NumberPages.{MayEnter, todo, at, rest, rest-is, pa, ne, was, node, now, qback, there_, same-heard, not-given, covers, no-number}

-- the list without one doesn't have it
without-self : (ps : List ℕ) (r : ℕ) → has (without ps r) r ≡ false
without-self [] r = refl
without-self (x ∷ ps) r = split (x == r) refl (without-self ps r)
  where
    split : (t : Bool) → (x == r) ≡ t → has (without ps r) r ≡ false → has (if t then without ps r else x ∷ without ps r) r ≡ false
    split true e l = l
    split false e l = let f : (r == x) ≡ false = grind (arith, nat_tests) in rw f l

-- and none that wasn't there
without-less : (ps : List ℕ) (r q : ℕ) → has ps q ≡ false → has (without ps r) q ≡ false
without-less [] r q e = refl
without-less (x ∷ ps) r q e = let t = neither (q == x) (has ps q) e in split (x == r) t.0 (without-less ps r q t.1)
  where
    split : (s : Bool) → (q == x) ≡ false → has (without ps r) q ≡ false → has (if s then without ps r else x ∷ without ps r) q ≡ false
    split true f m = m
    split false f m = rw f m

-- whose numbers aren't restored is still to answer
unrestored-has : (rs : List ℕ) (q : ℕ) → is_restored (phase_with rs) q ≡ false → has rs q ≡ true
unrestored-has [] q e = absurd (cc)
unrestored-has (r ∷ rs) q e = not-false (has (r ∷ rs) q) e

-- and who isn't to answer any more has restored them
has-restored : (rs : List ℕ) (q : ℕ) → has rs q ≡ false → is_restored (phase_with rs) q ≡ true
has-restored [] q e = refl
has-restored (r ∷ rs) q e = rw e refl

with-replaying : (rs : List ℕ) → is_replaying (phase_with rs) ≡ false
with-replaying [] = refl
with-replaying (r ∷ rs) = refl

-- a test that can't fail
contrary : (b : Bool) → (b ≡ false → ⊥) → b ≡ true
contrary true n = refl
contrary false n = absurd (n refl)

-- the last page
module _ (c : Cluster) (b : Beside) (q p i j n s : ℕ) (f : ℕ → Option ℕ) (h : Agrees c b) (l : Lawful (world c b)) (may : MayEnter c q p i j n s None f) where
  abbrev v : World
  v = world c b

  abbrev rest_ : List ℕ
  rest_ = rest c b q p i j n s None f h l may

  at_ : c.world.phase p ≡ Resync (todo c b q p i j n s None f h l may)
  at_ = at c b q p i j n s None f h l may

  -- first p forgets what it has entered so far
  abbrev blanked : Cluster
  blanked = record c { restoring = put2 c.restoring p q 0; world = record c.world { numbers = put2 c.world.numbers p q (λ _. None) } }

  agrees-blanked : Agrees blanked b
  agrees-blanked =
      record {
        phases = h.phases;
        stages = h.stages;
        trimmed = h.trimmed;
        untrimmed = h.untrimmed;
        numbered = record {
          numbers = choose2 p q (λ x y t. (ssn m : ℕ) → b.numbers x y ssn ≡ Some m → (if t then (λ (k : ℕ). None) else c.world.numbers x y) ssn ≡ Some m)
              (λ ssn m e. absurd (no-number c b q p i j n s None f h l may ssn m e)) (λ x y _. h.numbered.numbers x y);
          logged = choose2 p q (λ x y t. (ssn m : ℕ) → x ≤ c.world.count → y ≤ c.world.count → x ≢ y → (if t then (λ (k : ℕ). None) else c.world.numbers x y) ssn ≡ Some m → NumberAs c b x y ssn m)
              (λ ssn m _ _ _ e. absurd (cc)) (λ x y _. h.numbered.logged x y);
          fresh = h.numbered.fresh;
          partly = choose2 p q (λ x y t. (ssn : ℕ) → is_restored (c.world.phase x) y ≡ false → (if t then (λ (k : ℕ). None) else c.world.numbers x y) ssn ≡ (if nat_lt 0 ssn && nat_le ssn (if t then 0 else c.restoring x y) then rsn_of (c.world.history y) x ssn else None))
              (λ ssn _. let z : (nat_lt 0 ssn && nat_le ssn 0) ≡ false = grind (arith, nat_tests) in rw z refl) (λ x y _. h.numbered.partly x y);
          begins = choose2 p q (λ x y t. is_replaying (c.world.phase x) ≡ true → (if t then 0 else c.restoring x y) ≡ 0) (λ _. refl) (λ x y _. h.numbered.begins x y);
          idle = choose2 p q (λ x y t. is_restored (c.world.phase x) y ≡ false → 0 < (if t then 0 else c.restoring x y) → IsIdle (c.world.phase y) x) (λ _ e. absurd (omega arith)) (λ x y _. h.numbered.idle x y);
        };
        hearing = h.hearing;
        wired = h.wired;
        parcels = parcels-quiet c b c.stage c.stored c.world.trims blanked.world.numbers c.heard c.resumed c.told (λ r. omega arith) (λ x y _ z _ e _. e) (λ x y _ _ _ _ g. g)
            (λ x y a z m e g. choose2 p q (λ x y t. AllKept c b x y → (ssn k : ℕ) → (if t then (λ (k : ℕ). None) else c.world.numbers x y) ssn ≡ Some k → (b.numbers x y ssn ≡ Some k) ⊎ (k ≤ c.world.saved y)) (λ _ ssn k e. absurd (cc)) (λ x y _ g. g) x y g) h.parcels;
      }

  -- then its phase changes
  abbrev turned : Cluster
  turned = goes_on blanked p rest_

  pa_ : p ≤ c.world.count
  pa_ = pa c b q p i j n s None f h l may

  abbrev todo_ : List ℕ
  todo_ = todo c b q p i j n s None f h l may

  turn : Turn blanked b p (phase_with rest_)
  turn =
      record {
        node = node c b q p i j n s None f h l may;
        stage = may.1.1;
        was = was c b q p i j n s None f h l may;
        live = with-down rest_;
        busy = with-busy rest_;
        working = with-working rest_;
        obeys = λ r a m o y e. obeys r a m o y (r == 0) refl e;
        clears = λ r a m e g. clears r a m e (r == 0) refl g;
        less = λ r e. unrestored r e;
        again = λ e. absurd (true-not-false e (with-replaying rest_));
        blank = λ r ssn e g. blank r ssn e g (r == q) refl;
        forth = rw (with-length rest_ (c.world.history p) (c.world.saved p), at_) (omega arith);
      }
    where
      unrestored : (r : ℕ) → is_restored (phase_with rest_) r ≡ false → is_restored (c.world.phase p) r ≡ false
      unrestored r e =
          let a : has rest_ r ≡ true = unrestored-has rest_ r e in
          let y : has todo_ r ≡ true = contrary (has todo_ r) (λ z. true-not-false (rw (rest-is c b q p i j n s None f h l may) at a) (without-less todo_ q r z)) in
          rw (at_, y) refl

      blank : (r ssn : ℕ) → is_restored (c.world.phase p) r ≡ false → is_restored (phase_with rest_) r ≡ true → (t : Bool) → (r == q) ≡ t → blanked.world.numbers p r ssn ≡ None
      blank r ssn e g true y = let same : q ≡ r = grind (arith, nat_tests) in let P : ℕ → Type 0 = λ x. blanked.world.numbers p x ssn ≡ None in
          subst P same (choose2 p q (λ x y t. x ≡ p → y ≡ q → (if t then (λ (k : ℕ). None) else c.world.numbers x y) ssn ≡ None) (λ _ _. refl) (λ x y o a z. absurd (o a z)) p q refl refl)
      blank r ssn e g false y =
          let a1 : has rest_ r ≡ false = with-restored rest_ r g in
          let a2 : has todo_ r ≡ false = without-has todo_ q r (grind (arith, nat_tests)) (rw (rest-is c b q p i j n s None f h l may) at a1) in
          let z : is_restored (c.world.phase p) r ≡ true = rw (at_, a2) refl in
          absurd (true-not-false z e)

      by_old : (r : ℕ) → r ≤ c.world.count → r ≢ p → runs (c.stage r) ≡ true → c.heard r p ≡ c.world.incarnation p → is_answered c p r ≡ true → c.resumed r p ≡ true
      by_old r a m o y e = (h.hearing.heard r p a pa_ m o).obeyed y e

      -- who has answered before, or now
      answered : (r : ℕ) → (r == 0) ≡ false → is_restored (phase_with rest_) r ≡ true → (q ≡ r) ⊎ (is_answered c p r ≡ true)
      answered r z e = last (r == q) refl
        where
          last : (s : Bool) → (r == q) ≡ s → (q ≡ r) ⊎ (is_answered c p r ≡ true)
          last true g = inl (grind (arith, nat_tests))
          last false g =
              let a1 : has rest_ r ≡ false = with-restored rest_ r e in
              let a2 : has todo_ r ≡ false = without-has todo_ q r (grind (arith, nat_tests)) (rw (rest-is c b q p i j n s None f h l may) at a1) in
              inr (rw (z, at_, a2) refl)

      obeys : (r : ℕ) → r ≤ c.world.count → r ≢ p → runs (c.stage r) ≡ true → c.heard r p ≡ c.world.incarnation p → (t : Bool) → (r == 0) ≡ t → (if t then c.greeted p else is_restored (phase_with rest_) r) ≡ true → c.resumed r p ≡ true
      obeys r a m o y true z e = by_old r a m o y (rw z e)
      obeys r a m o y false z e = elim (answered r z e) [
        | inl same ↦ (let P : ℕ → Type 0 = λ x. runs (c.stage x) ≡ true → c.heard x p ≡ c.world.incarnation p → c.resumed x p ≡ true in subst P same (now c b q p i j n s None f h l may).3 o y)
        | inr g ↦ by_old r a m o y g
      ]

      clears : (r : ℕ) → r ≤ c.world.count → r ≢ p → is_answered c p r ≡ false → (t : Bool) → (r == 0) ≡ t → (if t then c.greeted p else is_restored (phase_with rest_) r) ≡ true → AllKept blanked b r p
      clears r a m e true z g = absurd (true-not-false (let y : is_answered c p r ≡ true = rw z g in y) e)
      clears r a m e false z g = elim (answered r z g) [
        | inl same ↦ (let P : ℕ → Type 0 = λ x. AllKept c b x p in λ ssn k y. subst P same (now c b q p i j n s None f h l may).4 ssn k (off r m ssn ∙ y))
        | inr y ↦ absurd (true-not-false y e)
      ]
        where
          off : (r : ℕ) → r ≢ p → (ssn : ℕ) → c.world.numbers r p ssn ≡ blanked.world.numbers r p ssn
          off r m ssn = choose2 p q (λ a z t. a ≢ p → c.world.numbers a z ssn ≡ (if t then (λ (k : ℕ). None) else c.world.numbers a z) ssn) (λ o. absurd (o refl)) (λ a z _ _. refl) r p m

  agrees-turned : Agrees turned b
  agrees-turned = agrees-turn blanked b p (phase_with rest_) (put c.world.released p (released_with c.world p rest_)) l.sound.grows
      (released-more c.world p rest_ (λ d. let x : c.world.released p d ≤ _ = (l.tidy p).gated d in let y = sent-more c.world l.sound.grows p (c.world.history p) d (length_in (c.world.history p) (c.world.saved p) (c.world.phase p)) (length (c.world.history p)) (rw at_ (omega arith)) in rw (take-all (c.world.history p)) at (most x y)))
      turn agrees-blanked
    where
      most : {x y z : ℕ} → x ≤ y → y ≤ z → x ≤ z
      most a b = omega arith

  abbrev b' : Beside
  b' = record b { numbers = put b.numbers p (put (b.numbers p) q (told v p q)) }

  -- q has received no more than p sent
  received : (ssn m : ℕ) → rsn_of (c.world.history q) p ssn ≡ Some m → (0 < ssn) × (ssn ≤ length (sent c.world p q))
  received ssn m e = go (names-found (c.world.history q) p ssn m e)
    where
      go : Names (c.world.history q) m p ssn → (0 < ssn) × (ssn ≤ length (sent c.world p q))
      go t =
          let a = at-number (c.world.history q) m t.message t.at in
          let is : Safe v q t.message = l.exact.received q a.0 t.message a.2 in
          let r = nth-within (payloads v t.message.sender (take is.upto (c.world.history t.message.sender)) q) t.message.ssn t.message.payload is.sends in
          let P : ℕ → Type 0 = λ x. t.message.ssn ≤ length (payloads v x (take is.upto (c.world.history x)) q) in
          let Q : ℕ → Type 0 = λ x. is.upto ≤ length (c.world.history x) in
          let most : t.message.ssn ≤ length (payloads v p (take is.upto (c.world.history p)) q) = subst P t.sender r.1 in
          let u : is.upto ≤ length (c.world.history p) = subst Q t.sender is.secured.within in
          let k : length (payloads v p (take is.upto (c.world.history p)) q) ≤ length (sent v p q) = sent-more v l.sound.grows p (c.world.history p) q is.upto (length_in (c.world.history p) (c.world.saved p) (c.world.phase p)) (rw at_ u) in
          let first : 0 < t.message.ssn = r.0 in
          let same : t.message.ssn ≡ ssn = t.ssn in
          (omega arith, omega arith)

  -- what the world is told, and what p enters, is what q has
  told-is : (ssn : ℕ) → told v p q ssn ≡ rsn_of (c.world.history q) p ssn
  told-is ssn = split (is_entry v p q ssn) refl
    where
      split : (t : Bool) → is_entry v p q ssn ≡ t → (if t then rsn_of (c.world.history q) p ssn else b.numbers p q ssn) ≡ rsn_of (c.world.history q) p ssn
      split true e = refl
      split false e = h.numbered.fresh p q ssn (there_ c b q p i j n s None f h l may) ∙ sym (none (rsn_of (c.world.history q) p ssn) refl)
        where
          none : (o : Option ℕ) → rsn_of (c.world.history q) p ssn ≡ o → o ≡ None
          none None g = refl
          none (Some m) g = absurd (let r = received ssn m g in
              true-not-false (entry-test v p q ssn (record { live = h.phases.live p; above = rw (h.untrimmed.trims p q) r.0; within = r.1 })) e)

  entered-is : (ssn : ℕ) → entered c p q s None f ssn ≡ rsn_of (c.world.history q) p ssn
  entered-is ssn = split (nat_lt s ssn) refl
    where
      split : (t : Bool) → nat_lt s ssn ≡ t → (if t && true then f ssn else c.world.numbers p q ssn) ≡ rsn_of (c.world.history q) p ssn
      split true e = (now c b q p i j n s None f h l may).2 ssn (grind (arith, nat_tests)) refl
      split false e = h.numbered.partly p q ssn (there_ c b q p i j n s None f h l may) ∙ here (rsn_of (c.world.history q) p ssn) refl
        where
          other : (t : Bool) (o : Option ℕ) → o ≡ None → (if t then o else None) ≡ o
          other true o e = refl
          other false o e = sym e

          here : (o : Option ℕ) → rsn_of (c.world.history q) p ssn ≡ o → (if nat_lt 0 ssn && nat_le ssn (c.restoring p q) then o else None) ≡ o
          here None g = other (nat_lt 0 ssn && nat_le ssn (c.restoring p q)) None refl
          here (Some m) g = let r : 0 < ssn = (received ssn m g).0 in let a : s ≡ c.restoring p q = may.1.4 in let z : (nat_lt 0 ssn && nat_le ssn (c.restoring p q)) ≡ true = grind (arith, nat_tests) in rw z refl

  not-given-by-p : (r : ℕ) → r ≤ c.world.count → p ≢ r → c.stage r ≡ Collecting → b.gave p r ≡ c.stored r → ⊥
  not-given-by-p = not-given c b q p i j n s None f h l may

  abbrev after_ : Cluster
  after_ = goes_on (takes_in c p q j n s None f) p rest_

  -- numbers of the others stay
  stay : (x y ssn : ℕ) → (x ≡ p → y ≢ q) → b'.numbers x y ssn ≡ b.numbers x y ssn
  stay x y ssn = choose p (λ a t. (a ≡ p → y ≢ q) → (if t then put (b.numbers p) q (told v p q) else b.numbers a) y ssn ≡ b.numbers a y ssn)
      (choose q (λ z t. (p ≡ p → z ≢ q) → (if t then told v p q else b.numbers p z) ssn ≡ b.numbers p z ssn) (λ o. absurd (o refl refl)) (λ z _ _. refl) y) (λ a _ _. refl) x

  its : (ssn : ℕ) → b'.numbers p q ssn ≡ told v p q ssn
  its ssn = at-itself p (λ t. (if t then put (b.numbers p) q (told v p q) else b.numbers p) q ssn ≡ told v p q ssn) (at-itself q (λ t. (if t then told v p q else b.numbers p q) ssn ≡ told v p q ssn) refl)

  unblanked : (x y ssn : ℕ) → (x ≡ p → y ≢ q) → blanked.world.numbers x y ssn ≡ c.world.numbers x y ssn
  unblanked x y ssn = choose2 p q (λ a z t. (a ≡ p → z ≢ q) → (if t then (λ (k : ℕ). None) else c.world.numbers a z) ssn ≡ c.world.numbers a z ssn) (λ o. absurd (o refl refl)) (λ a z _ _. refl) x y

  unblanked-so-far : (x y ssn : ℕ) → (x ≡ p → y ≢ q) → restored_so_far blanked x y ssn ≡ restored_so_far c x y ssn
  unblanked-so-far x y ssn = choose2 p q (λ a z t. (a ≡ p → z ≢ q) → (if nat_lt 0 ssn && nat_le ssn (if t then 0 else c.restoring a z) then rsn_of (c.world.history z) a ssn else None) ≡ restored_so_far c a z ssn) (λ o. absurd (o refl refl)) (λ a z _ _. refl) x y

  done : is_restored (turned.world.phase p) q ≡ true
  done = at-itself p (λ t. is_restored (if t then phase_with rest_ else c.world.phase p) q ≡ true) (has-restored rest_ q (rw (rest-is c b q p i j n s None f h l may) (without-self (todo c b q p i j n s None f h l may) q)))

  agrees-restores : Agrees after_ b'
  agrees-restores =
      let a : Agrees turned b = agrees-turned in
      let same : (x y : ℕ) → after_.heard x y ≡ c.heard x y = same-heard c b q p i j n s None f h l may in
      record {
        phases = a.phases;
        stages = a.stages;
        trimmed = record {
          trimmed = choose2 p q (λ x y t. (if t then max (c.world.trims p q) n else c.world.trims x y) ≤ covered c.world x y) (covers c b q p i j n s None f h l may) (λ x y _. h.trimmed.trimmed x y);
          saved_trimmed = h.trimmed.saved_trimmed;
        };
        untrimmed = record { trims = h.untrimmed.trims; saved_trims = h.untrimmed.saved_trims; feed = h.untrimmed.feed; free = h.untrimmed.free };
        numbered = record {
          numbers = choose2 p q (λ x y t. (ssn m : ℕ) → b'.numbers x y ssn ≡ Some m → (if t then entered c p q s None f else c.world.numbers x y) ssn ≡ Some m)
              (λ ssn m e. entered-is ssn ∙ (sym (told-is ssn) ∙ (sym (its ssn) ∙ e)))
              (λ x y o ssn m e. h.numbered.numbers x y ssn m (sym (stay x y ssn o) ∙ e));
          logged = choose2 p q (λ x y t. (ssn m : ℕ) → x ≤ c.world.count → y ≤ c.world.count → x ≢ y → (if t then entered c p q s None f else c.world.numbers x y) ssn ≡ Some m → NumberAs after_ b' x y ssn m)
              (λ ssn m _ _ _ e. inl (its ssn ∙ (told-is ssn ∙ (sym (entered-is ssn) ∙ e))))
              (λ x y o ssn m k t z e. elim (a.numbered.logged x y ssn m k t z (unblanked x y ssn o ∙ e)) [ inl g ↦ inl (stay x y ssn o ∙ g) | inr g ↦ inr g ]);
          fresh = choose2 p q (λ x y t. (ssn : ℕ) → is_restored (turned.world.phase x) y ≡ false → b'.numbers x y ssn ≡ None)
              (λ ssn e. absurd (true-not-false done e)) (λ x y o ssn e. stay x y ssn o ∙ a.numbered.fresh x y ssn e);
          partly = choose2 p q (λ x y t. (ssn : ℕ) → is_restored (turned.world.phase x) y ≡ false → (if t then entered c p q s None f else c.world.numbers x y) ssn ≡ restored_so_far c x y ssn)
              (λ ssn e. absurd (true-not-false done e)) (λ x y o ssn e. sym (unblanked x y ssn o) ∙ (a.numbered.partly x y ssn e ∙ unblanked-so-far x y ssn o));
          begins = λ x y e. again x y (a.numbered.begins x y e) e;
          idle = choose2 p q (λ x y t. is_restored (turned.world.phase x) y ≡ false → 0 < c.restoring x y → IsIdle (turned.world.phase y) x)
              (λ e. absurd (true-not-false done e)) (λ x y o e g. a.numbered.idle x y e (still-so x y o g));
        };
        hearing = record {
          heard = λ x y k t z e. let old : HeardAs turned x y = a.hearing.heard x y k t z e in
              record { low = rw (same x y) old.low; high = rw (same x y) old.high; later = λ g. old.later (rw (same x y) at g); obeyed = λ g. old.obeyed (rw (same x y) at g) };
          coming = λ x y k t z e g. rw (same x y) (a.hearing.coming x y k t z e g);
          collected = λ x y k t z e. kept x y k t z e (c.told x y) (h.hearing.collected x y k t z e);
          gaves = h.hearing.gaves;
          given = λ x y k t z e g. let m = a.hearing.given x y k t z e g in (m.0, λ r. rw (same x y) (m.1 r), m.2);
          own = h.hearing.own;
        };
        wired = a.wired;
        parcels = parcels-goes {c = turned} {b = b} {d = after_} {e = b'} (record {
          count = refl;
          lives = λ r. omega arith;
          stored = λ r. omega arith;
          covers = λ k r. omega arith;
          history = λ r _. begins-self _;
          up = λ r _ e. e;
          back = λ r _ _. refl;
          released = λ r k _. omega arith;
          sends = λ r k _. begins-self _;
          acknowledged = λ r k _ e. e;
          wire = λ k r m _ y. inr y;
          told = λ x r reach g k t y z e. (k, λ o. (refl, o, told-on x r reach g y z e k o));
          restored = λ x r _ e y z k. (refl, λ m. m, λ g _. refl, λ m o g. m o (sym (same x r) ∙ g), all-kept x r e);
        }) refl a.parcels;
      }
    where
      -- what is told to one that collects is not by p
      told-on : (x r : ℕ) (reach : ℕ → Bool) (g : ℕ → Option Message) → x ≤ c.world.count → r ≤ c.world.count → x ≢ r → c.stage r ≡ Collecting → b.gave x r ≡ c.stored r → IsTold c b x r reach g → IsTold c b' x r reach g
      told-on x r reach g y z e k o t =
          record {
            only = λ m z_ a b_ d w. let v_ = t.only m z_ a b_ d w in (v_.0, v_.1, stay x r z_.ssn off ∙ v_.2);
            all = λ m z_ a b_ d w number. t.all m z_ a b_ d w (sym (stay x r z_.ssn off) ∙ number);
          }
        where
          off : x ≡ p → r ≢ q
          off f _ = let P : ℕ → Type 0 = λ y_. b.gave y_ r ≡ c.stored r in let Q : ℕ → Type 0 = λ y_. y_ ≢ r in not-given-by-p r z (subst Q f e) k (subst P f o)

      kept : (y x : ℕ) → y ≤ c.world.count → x ≤ c.world.count → x ≢ y → c.stage y ≡ Collecting → (o : Option Collected) → CollectedAs c b y x o → CollectedAs after_ b' y x o
      kept y x a z e k None t = tt
      kept y x a z e k (Some g) t = record { heard = rw (same-heard c b q p i j n s None f h l may y x) t.heard; gave = t.gave; is = told-on x y (reaches g.upto) g.entries z a e k t.gave t.is }

      all-kept : (x r : ℕ) → is_back turned r ≡ false → AllKept turned b x r → AllKept after_ b' x r
      all-kept = choose2 p q (λ x r t. is_back turned r ≡ false → AllKept turned b x r → (ssn m : ℕ) → (if t then entered c p q s None f else c.world.numbers x r) ssn ≡ Some m → (b'.numbers x r ssn ≡ Some m) ⊎ (m ≤ c.world.saved r))
          (λ _ _ ssn m e. inl (its ssn ∙ (told-is ssn ∙ (sym (entered-is ssn) ∙ e))))
          (λ x r o _ g ssn m e. elim (g ssn m (unblanked x r ssn o ∙ e)) [ inl y ↦ inl (stay x r ssn o ∙ y) | inr y ↦ inr y ])

      still-so : (x y : ℕ) → (x ≡ p → y ≢ q) → 0 < c.restoring x y → 0 < blanked.restoring x y
      still-so = choose2 p q (λ x y t. (x ≡ p → y ≢ q) → 0 < c.restoring x y → 0 < (if t then 0 else c.restoring x y)) (λ o. absurd (o refl refl)) (λ x y _ _ e. e)

      again : (x y : ℕ) → blanked.restoring x y ≡ 0 → is_replaying (turned.world.phase x) ≡ true → c.restoring x y ≡ 0
      again = choose2 p q (λ x y t. (if t then 0 else c.restoring x y) ≡ 0 → is_replaying (turned.world.phase x) ≡ true → c.restoring x y ≡ 0)
          (λ _ e. absurd (true-not-false e (at-itself p (λ t. is_replaying (if t then phase_with rest_ else c.world.phase p) ≡ false) (with-replaying rest_)))) (λ x y _ e _. e)

  pub step-restores : IsJournalOf (world c b) after_
  step-restores =
      let node_ = node c b q p i j n s None f h l may in
      record {
        beside = b';
        leads = leads-one v (world after_ b') (ResyncWith p q) (RestoredAnswer (restored_count v p q (suc (length (sent v p q)))))
            (step-of v (ResyncWith p q) (RestoredAnswer (restored_count v p q (suc (length (sent v p q))))) (open_jobs v + 1) (inside node_.0 node_.1 may.1.0.0 may.1.0.1, (apart, (upped, (rw may.1.3 refl, (below-self (open_jobs v + 1), tt))))) refl refl) refl;
        agrees = agrees-restores;
      }
    where
      inside : 0 < p → p ≤ c.world.count → 0 < q → q ≤ c.world.count → not (is_inside v p && is_inside v q) ≡ false
      inside x y z k = grind (arith, nat_tests)

      apart : (p == q) ≡ false
      apart = let x : p ≢ q = λ e. ne c b q p i j n s None f h l may (sym e) in grind (arith, nat_tests)

      upped : not (is_up (c.world.phase q)) ≡ false
      upped = rw (back-is c q (qback c b q p i j n s None f h l may)).0 refl
