-- What a node was ever told to be covered for good is in no log of it, where it is up
use Rattle.std.proofs.Common.{zero, ◌≡◌, ◌≢◌, ◌⊎◌, inl, inr, ℕ, suc, ◌+◌, ◌<◌, ◌≤◌, max, min, List, [], ◌∷◌, ◌++◌, length, take, Bool, true, false, refl, sym, ap, ◌∙◌, subst, arith}
use Rattle.std.specs.Prelude.{Some, Option, None, ◌&&◌, ◌==◌, nat_lt, if◌then◌else◌}
use Rattle.std.proofs.lemmas.Bool.Decides.{nat_tests}
use Rattle.world.specs.declared.message.Message.{Message}
use Rattle.world.specs.History.{count_of}
use Rattle.world.specs.Phases.{Phase, Up, Replaying, todo_of, has, without}
use Rattle.world.specs.World.{put}
use Rattle.world.specs.Logs.{sent, sent_in_all, covered}
use Rattle.world.specs.Calls.{phase_with, peers}
use Rattle.theorems.specs.Growth.{Begins}
use Rattle.theorems.specs.Invariants.Exact.{is_restored}
use Rattle.theorems.proofs.Changes.{choose}
use Rattle.theorems.proofs.PhaseLemmas.{with-restored, resync-phase}
use Rattle.theorems.proofs.Resyncs.{without-has}
use Rattle.theorems.proofs.Tests.{different}
use Rattle.cluster.specs.Parcels.{Body, Delivery, Number, Acknowledgement, Restored, Saved, Parcel, parcel, In}
use Rattle.cluster.specs.Cluster.{Stage, Live, Frozen, Dead, Collecting, Cluster, opening, runs, is_well}
use Rattle.cluster.specs.Rules.{Act, Puts, Arrives, Works, Replays, Recovers, Freezes, Keeps, Thaws, Dies, Opens, MayPut, Awaits, May, does, goes_on, takes_in, taken_back, put2, Run, after_run}
use Rattle.cluster.specs.Memory.{unsaved, ToldIsDropped}
use Rattle.cluster.specs.Inside.Agrees.{Beside, world, is_answered, Agrees}
use Rattle.cluster.proofs.Worlds.{Lawful}
use Rattle.cluster.proofs.Facts.{choose2, takes-is, takes-well, takes-runs, well-is, well-back, back-answered, true-not-false}
use Rattle.cluster.proofs.Replays.{is-peer}
use Rattle.cluster.proofs.Growth.{Continues, either-way, takes-back, does-continue}
use Rattle.cluster.proofs.MemoryLemmas.{taken-parts, taken-sent, well-sent}
use Rattle.cluster.proofs.Runs.{Holds, run-holds, step-holds, run-append, run-count}

-- more messages have no fewer of a sender
count-begins : (s : ℕ) (xs ys : List Message) → Begins xs ys → count_of s xs ≤ count_of s ys
count-begins s xs ys b = let P : List Message → Type 0 = λ zs. count_of s xs ≤ count_of s zs in subst P b.1 (more xs b.0)
  where
    more : (xs rest : List Message) → count_of s xs ≤ count_of s (xs ++ rest)
    more [] rest = omega arith
    more (x ∷ xs) rest = let r : count_of s xs ≤ count_of s (xs ++ rest) = more xs rest in omega arith

-- what is covered stays covered
covered-grows : (c v : Cluster) → Continues c v → (p d : ℕ) → covered c.world p d ≤ covered v.world p d
covered-grows c v k p d = split (d == 0)
  where
    split : (t : Bool) → count_of p (if t then c.world.shown else take (c.world.saved d) (c.world.history d)) ≤ count_of p (if t then v.world.shown else take (v.world.saved d) (v.world.history d))
    split true = count-begins p _ _ k.shown
    split false = count-begins p _ _ (k.messages d)

-- whether it is an answer to Resume
abbrev is_restoring : Body → Bool
is_restoring (Restored i j n s u f) = true
is_restoring x = false

-- d told p once to have the first k of its messages for good
module _ (p d k : ℕ) (other : d ≢ p) where
  -- where p runs and d has answered its Resume, they are dropped; and where it hasn't, its answer will say so
  abbrev pub Dropped : Cluster → Type 0
  Dropped c =
      record {
        inside : d ≤ c.world.count;
        covers : k ≤ covered c.world p d;
        gone : runs (c.stage p) ≡ true → is_answered c p d ≡ true → k ≤ c.world.trims p d;
        told : (i j n s : ℕ) (u : Option ℕ) (f : ℕ → Option ℕ) → In (parcel d p (Restored i j n s u f)) c.parcels → c.stage p ≢ Dead → i ≡ c.stored p → ((runs (c.stage p) ≡ true) × (k ≤ c.world.trims p d)) ⊎ (k ≤ n);
      }

  module _ (c : Cluster) (b : Beside) (agrees : Agrees c b) (lawful : Lawful (world c b)) (h : Dropped c) where
    covers-more : (a : Act) → k ≤ covered (does c a).world p d
    covers-more a = let x : covered c.world p d ≤ covered (does c a).world p d = covered-grows c (does c a) (does-continue c a lawful.sound.saved) p d in let y : k ≤ covered c.world p d = h.covers in omega arith

    -- the phase of q changes; and if it is p, nobody is new among those that p restored its numbers from
    turns : (q : ℕ) (x : Phase) → (p ≡ q → (d == 0) ≡ false → is_restored x d ≡ true → is_restored (c.world.phase q) d ≡ true) → is_answered (record c { world = record c.world { phase = put c.world.phase q x } }) p d ≡ true → is_answered c p d ≡ true
    turns q x f = split (p == q) refl (d == 0) refl
      where
        split : (t : Bool) → (p == q) ≡ t → (w : Bool) → (d == 0) ≡ w → (if w then c.greeted p else is_restored (if t then x else c.world.phase p) d) ≡ true → (if w then c.greeted p else is_restored (c.world.phase p) d) ≡ true
        split t e true g y = y
        split false e false g y = y
        split true e false g y = let same : p ≡ q = grind (arith, nat_tests) in let P : ℕ → Type 0 = λ z. is_restored (c.world.phase z) d ≡ true in subst P (sym same) (f same g y)

    turned : (q : ℕ) (x : Phase) → (p ≡ q → (d == 0) ≡ false → is_restored x d ≡ true → is_restored (c.world.phase q) d ≡ true) → Dropped (record c { world = record c.world { phase = put c.world.phase q x } })
    turned q x f = record { inside = h.inside; covers = h.covers; gone = λ r e. h.gone r (turns q x f e); told = h.told }

    -- more is dropped from some log
    dropped-more : (q r : ℕ) (n : ℕ) → c.world.trims q r ≤ n → c.world.trims p d ≤ put2 c.world.trims q r n p d
    dropped-more q r n l = choose2 q r (λ x y t. c.world.trims x y ≤ (if t then n else c.world.trims x y)) l (λ x y _. omega arith) p d

    trims-more : (q r n : ℕ) → c.world.trims q r ≤ n → Dropped (record c { world = record c.world { trims = put2 c.world.trims q r n } })
    trims-more q r n l =
        let m : c.world.trims p d ≤ put2 c.world.trims q r n p d = dropped-more q r n l in
        record {
          inside = h.inside;
          covers = h.covers;
          gone = λ x y. let g : k ≤ c.world.trims p d = h.gone x y in omega arith;
          told = λ i j n s u f x y z. elim (h.told i j n s u f x y z) [ inl e ↦ inl (e.0, let g : k ≤ c.world.trims p d = e.1 in omega arith) | inr e ↦ inr e ];
        }

    -- one parcel more
    put-more : (q r : ℕ) (x : Body) → ((i j n s : ℕ) (u : Option ℕ) (f : ℕ → Option ℕ) → parcel d p (Restored i j n s u f) ≡ parcel q r x → k ≤ n) → Dropped (record c { parcels = parcel q r x ∷ c.parcels })
    put-more q r x says =
        record { inside = h.inside; covers = h.covers; gone = h.gone; told = λ i j n s u f a y z. elim a [ inl e ↦ inr (says i j n s u f e) | inr e ↦ h.told i j n s u f e y z ] }

    puts : (q r : ℕ) (x : Body) → MayPut c q r x → (i j n s : ℕ) (u : Option ℕ) (f : ℕ → Option ℕ) → parcel d p (Restored i j n s u f) ≡ parcel q r x → k ≤ n
    puts q r x may i j n s u f e =
        let P : Parcel → Type 0 = λ z. MayPut c z.from z.to z.body in
        let m : MayPut c d p (Restored i j n s u f) = subst P (sym e) may in
        let z : n ≡ covered c.world p d = m.5 in
        let y : k ≤ covered c.world p d = h.covers in
        omega arith

    records : (s r i m : ℕ) → (i' j n t : ℕ) (u : Option ℕ) (f : ℕ → Option ℕ) → parcel d p (Restored i' j n t u f) ≡ parcel s r (Acknowledgement i m) → k ≤ n
    records s r i m i' j n t u f e = absurd (let x : true ≡ false = ap (λ (z : Parcel). is_restoring z.body) e in cc)

    -- as many run, and no other is dead
    restages : (q : ℕ) (x : Stage) → runs x ≡ runs (c.stage q) → c.stage q ≢ Dead → Dropped (record c { stage = put c.stage q x })
    restages q x same alive =
        let back : runs (put c.stage q x p) ≡ runs (c.stage p) = choose q (λ j t. runs (if t then x else c.stage j) ≡ runs (c.stage j)) same (λ j _. refl) p in
        let lives : put c.stage q x p ≢ Dead → c.stage p ≢ Dead = choose q (λ j t. (if t then x else c.stage j) ≢ Dead → c.stage j ≢ Dead) (λ _. alive) (λ j _ e. e) p in
        record { inside = h.inside; covers = h.covers; gone = λ r e. h.gone (sym back ∙ r) e; told = λ i j n s u f a y z. elim (h.told i j n s u f a (lives y) z) [ inl e ↦ inl (back ∙ e.0, e.1) | inr e ↦ inr e ] }

    dies : (q : ℕ) → Dropped (does c (Dies q))
    dies q =
        record {
          inside = h.inside;
          covers = h.covers;
          gone = λ r e. h.gone (choose q (λ j t. runs (if t then Dead else c.stage j) ≡ true → runs (c.stage j) ≡ true) (λ y. absurd (cc)) (λ j _ y. y) p r) e;
          told = λ i j n s u f a y z. choose q (λ x t. (c.stage x ≢ Dead → ((runs (c.stage x) ≡ true) × (k ≤ c.world.trims p d)) ⊎ (k ≤ n)) → (if t then Dead else c.stage x) ≢ Dead → ((runs (if t then Dead else c.stage x) ≡ true) × (k ≤ c.world.trims p d)) ⊎ (k ≤ n))
              (λ _ y. absurd (y refl)) (λ x _ old. old) p (λ o. h.told i j n s u f a o z) y;
        }

    -- what was put out for an earlier incarnation isn't for a new one
    opens : (q m : ℕ) → Dropped (does c (Opens q m))
    opens q m =
        record {
          inside = h.inside;
          covers = h.covers;
          gone = λ r e. h.gone (choose q (λ j t. runs (if t then Collecting else c.stage j) ≡ true → runs (c.stage j) ≡ true) (λ y. absurd (cc)) (λ j _ y. y) p r) e;
          told = λ i j n s u f a y z. choose q (λ x t. i ≤ c.stored x → (c.stage x ≢ Dead → i ≡ c.stored x → ((runs (c.stage x) ≡ true) × (k ≤ c.world.trims p d)) ⊎ (k ≤ n)) → (if t then Collecting else c.stage x) ≢ Dead → i ≡ (if t then suc (m + c.stored q) else c.stored x)
              → ((runs (if t then Collecting else c.stage x) ≡ true) × (k ≤ c.world.trims p d)) ⊎ (k ≤ n)) (λ l _ _ g. absurd (omega arith)) (λ x _ _ old. old) p
              (let g : i ≤ c.world.incarnation p = (agrees.parcels d p (Restored i j n s u f) a).3.past in let o : c.world.incarnation p ≤ c.stored p = agrees.stages.lives p in omega arith) (λ o w. h.told i j n s u f a o w) y z;
        }

    -- who recovers has no answer yet
    recovers : (q m : ℕ) → May c (Recovers q m) → (x : Phase) → ((r : ℕ) → 0 < r → r ≤ c.world.count → r ≢ q → is_restored x r ≡ true → ⊥) → Dropped (record (taken_back c q m) { world = record (taken_back c q m).world { phase = put c.world.phase q x } })
    recovers q m may x unrestored =
        record {
          inside = h.inside;
          covers = (let y : covered c.world p d ≤ covered (taken_back c q m).world p d = covered-grows c (taken_back c q m) (takes-back c q m (lawful.sound.saved q)) p d in let z : k ≤ covered c.world p d = h.covers in omega arith);
          gone = back (p == q) refl;
          told = λ i j n s u f a y z. choose q (λ x t. (c.stage x ≢ Dead → ((runs (c.stage x) ≡ true) × (k ≤ c.world.trims x d)) ⊎ (k ≤ n)) → (if t then Live else c.stage x) ≢ Dead → ((runs (if t then Live else c.stage x) ≡ true) × (k ≤ (if t then c.world.saved_trims q else c.world.trims x) d)) ⊎ (k ≤ n))
              (λ old _. elim (old (λ o. let t : Collecting ≡ Dead = sym may.1 ∙ o in cc)) [ inl g ↦ absurd (true-not-false g.0 (ap runs may.1)) | inr g ↦ inr g ]) (λ x _ old. old) p (λ o. h.told i j n s u f a o z) y;
        }
      where
        back : (t : Bool) → (p == q) ≡ t → runs (if t then Live else c.stage p) ≡ true → (if d == 0 then (if t then false else c.greeted p) else is_restored (if t then x else c.world.phase p) d) ≡ true → k ≤ (if t then c.world.saved_trims q else c.world.trims p) d
        back false e r y = h.gone r y
        back true e r y = absurd (none (d == 0) refl y)
          where
            same : p ≡ q
            same = grind (arith, nat_tests)

            none : (t : Bool) → (d == 0) ≡ t → (if t then false else is_restored x d) ≡ true → ⊥
            none true g w = cc
            none false g w = unrestored d (grind (arith, nat_tests)) h.inside (λ o. other (o ∙ sym same)) w

    -- the answer that p waited for tells it
    answered : (q r i j n s : ℕ) (u : Option ℕ) (f : ℕ → Option ℕ) → In (parcel r q (Restored i j n s u f)) c.parcels → c.stage q ≡ Live → i ≡ c.world.incarnation q → p ≡ q → d ≡ r → k ≤ max (c.world.trims q r) n
    answered q r i j n s u f a live e same here =
        let P : ℕ → Type 0 = λ x. In (parcel d x (Restored i j n s u f)) c.parcels in
        let Q : ℕ → Type 0 = λ x. In (parcel x q (Restored i j n s u f)) c.parcels in
        let R : ℕ → Type 0 = λ x. c.stage x ≡ Live in
        let S : ℕ → Type 0 = λ x. i ≡ c.world.incarnation x in
        let at : c.stage p ≡ Live = subst R (sym same) live in
        let now : i ≡ c.world.incarnation p = subst S (sym same) e in
        let stored : c.world.incarnation p ≡ c.stored p = agrees.stages.settled p (ap runs at) in
        let t : k ≤ max (c.world.trims p d) n = elim (h.told i j n s u f (subst P (sym same) (subst Q (sym here) a)) (λ o. cc) (now ∙ stored)) [ inl g ↦ (let l : k ≤ c.world.trims p d = g.1 in omega arith) | inr g ↦ omega arith ] in
        let T : ℕ → Type 0 = λ x. k ≤ max (c.world.trims x d) n in
        let U : ℕ → Type 0 = λ x. k ≤ max (c.world.trims q x) n in
        subst U here (subst T same t)

    restores : (q r i j n s : ℕ) (f : ℕ → Option ℕ) → In (parcel r q (Restored i j n s None f)) c.parcels × Awaits c q r i j s → Dropped (goes_on (takes_in c q r j n s None f) q (without (todo_of (c.world.phase q)) r))
    restores q r i j n s f may =
        let more : Dropped (record c { world = record c.world { trims = put2 c.world.trims q r (max (c.world.trims q r) n) } }) = trims-more q r (max (c.world.trims q r) n) (omega arith) in
        record { inside = h.inside; covers = h.covers; gone = back (p == q) refl (d == r) refl; told = more.told }
      where
        rest : List ℕ
        rest = without (todo_of (c.world.phase q)) r

        before : d ≢ r → is_restored (phase_with rest) d ≡ true → is_restored (c.world.phase q) d ≡ true
        before o e =
            let t = resync-phase (c.world.phase q) r may.1.3 in
            let g : has (without (todo_of (c.world.phase q)) r) d ≡ false = with-restored rest d e in
            let l : has (todo_of (c.world.phase q)) d ≡ false = without-has (todo_of (c.world.phase q)) r d o g in
            let P : Phase → Type 0 = λ x. has (todo_of x) d ≡ false in
            let m : has t.0 d ≡ false = subst P t.1 l in
            rw t.1 (rw m refl)

        back : (t : Bool) → (p == q) ≡ t → (w : Bool) → (d == r) ≡ w → runs (c.stage p) ≡ true → (if d == 0 then c.greeted p else is_restored (if t then phase_with rest else c.world.phase p) d) ≡ true → k ≤ (if t && w then max (c.world.trims q r) n else c.world.trims p d)
        back false e w g run y = h.gone run y
        back true e true g run y = answered q r i j n s None f may.0 may.1.1 may.1.2 (grind (arith, nat_tests)) (grind (arith, nat_tests))
        back true e false g run y = h.gone run (split (d == 0) y)
          where
            split : (v : Bool) → (if v then c.greeted p else is_restored (phase_with rest) d) ≡ true → (if v then c.greeted p else is_restored (c.world.phase p) d) ≡ true
            split true z = z
            split false z = let same : p ≡ q = grind (arith, nat_tests) in let P : ℕ → Type 0 = λ x. is_restored (c.world.phase x) d ≡ true in subst P (sym same) (before (different d r g) z)

    greets : (q i j n s : ℕ) (f : ℕ → Option ℕ) → May c (Arrives zero q (Restored i j n s None f)) → Dropped (does c (Arrives zero q (Restored i j n s None f)))
    greets q i j n s f may =
        let more : Dropped (record c { world = record c.world { trims = put2 c.world.trims q 0 (max (c.world.trims q 0) n) } }) = trims-more q 0 (max (c.world.trims q 0) n) (omega arith) in
        record { inside = h.inside; covers = h.covers; gone = λ run. back (p == q) refl (d == 0) refl (h.gone run); told = more.told }
      where
        back : (t : Bool) → (p == q) ≡ t → (w : Bool) → (d == 0) ≡ w → ((if w then c.greeted p else is_restored (c.world.phase p) d) ≡ true → k ≤ c.world.trims p d) → (if w then (if t then true else c.greeted p) else is_restored (c.world.phase p) d) ≡ true
            → k ≤ (if t && w then max (c.world.trims q 0) n else c.world.trims p d)
        back false e w g old y = old y
        back true e true g old y = answered q 0 i j n s None f may.0 may.1.0 may.1.1 (grind (arith, nat_tests)) (grind (arith, nat_tests))
        back true e false g old y = old y

    -- each step leaves it so
    dropped-step : (a : Act) → May c a → Dropped (does c a)
    dropped-step (Arrives r q (Restored i j n s (Some u) f)) may = trims-more q r (max (c.world.trims q r) n) (omega arith)
    dropped-step (Puts q r x) may = put-more q r x (puts q r x may.3)
    dropped-step (Arrives q (suc r) (Delivery i ssn x)) may = turned (suc r) _ (λ _ _ _. rw may.1.2 refl)
    dropped-step (Arrives q zero (Delivery i ssn x)) may = record { inside = h.inside; covers = covers-more (Arrives q zero (Delivery i ssn x)); gone = h.gone; told = h.told }
    dropped-step (Works q m) may = record { inside = h.inside; covers = covers-more (Works q m); gone = λ r e. h.gone r (turns q Up (λ _ _ _. rw may.2 refl) e); told = h.told }
    dropped-step (Replays q j) may =
        either-way (nat_lt (c.world.saved q + suc j) (length (c.world.history q))) _ _ (λ v. Dropped v) (turned q (Replaying (suc j) false false) (λ _ _ e. absurd (cc)))
        (turned q (phase_with (peers c.world q false)) (λ same g e. absurd (true-not-false (is-peer c.world q d (grind (arith, nat_tests)) h.inside (λ o. other (o ∙ sym same))) (with-restored (peers c.world q false) d e))))
    dropped-step (Arrives r s (Number i ssn m)) may = put-more s r (Acknowledgement i m) (records s r i m)
    dropped-step (Arrives q r (Saved n)) may = trims-more r q _ (omega arith)
    dropped-step (Recovers q m) may =
        either-way (nat_lt (c.world.saved q) m) _ _ (λ v. Dropped v) (recovers q m may (Replaying 0 false false) (λ r _ _ _ e. cc))
        (recovers q m may (phase_with (peers c.world q false)) (λ r a l o e. true-not-false (is-peer c.world q r a l o) (with-restored (peers c.world q false) r e)))
    dropped-step (Arrives (suc r) q (Restored i j n s None f)) may = restores q (suc r) i j n s f may
    dropped-step (Arrives zero q (Restored i j n s None f)) may = greets q i j n s f may
    dropped-step (Freezes q) may = let live : c.stage q ≡ Live = (takes-is c q may.1).0 in restages q Frozen (sym (ap runs live)) (λ o. cc)
    dropped-step (Keeps q) may = record { inside = h.inside; covers = covers-more (Keeps q); gone = h.gone; told = h.told }
    dropped-step (Thaws q) may = let frozen : c.stage q ≡ Frozen = may.1 in restages q Live (sym (ap runs frozen)) (λ o. cc)
    dropped-step (Dies q) may = dies q
    dropped-step (Opens q m) may = opens q m
    dropped-step act may = h

  dropped-run : (c : Cluster) (acts : List Act) → c.world.count ≤ 15 → Holds c → Run c acts → Dropped c → Dropped (after_run c acts)
  dropped-run c [] n h r t = t
  dropped-run c (a ∷ acts) n h r t = let s = step-holds c a n h r.0 in dropped-run (does c a) acts s.1 s.0 r.1 (dropped-step c h.beside h.agrees h.lawful t a r.0)

-- it is so when p is told
starts-dropped : (c : Cluster) (b : Beside) (p d k : ℕ) → Agrees c b → Lawful (world c b) → (other : d ≢ p) → May c (Arrives d p (Saved k)) → Dropped p d k other (does c (Arrives d p (Saved k)))
starts-dropped c b p d k agrees lawful other may =
    let x = agrees.parcels d p (Saved k) may.0 in
    let fine : k ≤ covered c.world p d = x.3 in
    let parts : count_of p (if d == 0 then c.world.shown else c.world.history d) ≡ covered c.world p d + unsaved c p d = taken-parts c b agrees lawful p d in
    let most : count_of p (if d == 0 then c.world.shown else c.world.history d) ≤ sent_in_all c.world p d = taken-sent c b agrees lawful p d in
    let all : length (sent c.world p d) ≡ sent_in_all c.world p d = well-sent c b agrees lawful p d (takes-well c p may.1) in
    let new : ℕ = max (c.world.trims p d) (min k (length (sent c.world p d))) in
    let now : k ≤ put2 c.world.trims p d new p d = choose2 p d (λ a e t. a ≡ p → e ≡ d → k ≤ (if t then new else c.world.trims a e)) (λ _ _. omega arith) (λ a e o i j. absurd (o i j)) p d refl refl in
    record { inside = x.0; covers = fine; gone = λ _ _. now; told = λ i j n s u f _ _ _. inl (takes-runs c p may.1, now) }

pub told-is-dropped : ToldIsDropped
told-is-dropped n f acts more p d k from well =
    let l : n ≤ 15 = from.few in
    let t = run-append (opening n f) acts (Arrives d p (Saved k) ∷ more) from.run in
    let c : Cluster = after_run (opening n f) acts in
    let h : Holds c = run-holds n f acts l from.grows t.0 in
    let e : c.world.count ≡ n = run-count (opening n f) acts in
    let other : d ≢ p = (h.agrees.parcels d p (Saved k) t.1.0.0).2 in
    let s = step-holds c (Arrives d p (Saved k)) (omega arith) h t.1.0 in
    let v : Cluster = after_run (does c (Arrives d p (Saved k))) more in
    let o : Dropped p d k other v = dropped-run p d k other (does c (Arrives d p (Saved k))) more s.1 s.0 t.1.1 (starts-dropped c h.beside p d k h.agrees h.lawful other t.1.0) in
    let P : Cluster → Type 0 = λ w. is_well w p ≡ true → k ≤ w.world.trims p d in
    subst P (sym t.2) (λ w. o.gone (well-is v p w).0 (back-answered v p d (well-back v p w))) well
