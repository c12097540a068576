-- Each event but that a node is opened goes on so
use Rattle.std.proofs.Common.{zero, ◌≡◌, ◌≢◌, inl, inr, ℕ, suc, ◌+◌, ◌<◌, ◌≤◌, List, [], ◌∷◌, ◌++◌, length, Bool, true, false, refl, sym, ap, ◌∙◌, subst, arith, length-append}
use Rattle.std.specs.Prelude.{◌⊎◌, Option, Some, None, ◌==◌, ◌&&◌, ◌||◌, nat_lt, nat_le, if◌then◌else◌}
use Rattle.std.proofs.lemmas.Bool.Decides.{nat_tests}
use Rattle.world.specs.declared.message.Message.{Message}
use Rattle.world.specs.Phases.{Phase, Up, Busy, Down, Replaying, Resync, is_up, todo_of, has, without, those}
use Rattle.world.specs.World.{put}
use Rattle.world.specs.Calls.{phase_with, peers}
use Rattle.theorems.proofs.Changes.{choose, elsewhere}
use Rattle.theorems.proofs.Replays.{has-those}
use Rattle.cluster.specs.Parcels.{Body, Delivery, Ask, Told, Restored, parcel, In}
use Rattle.cluster.specs.Cluster.{Stage, Live, Frozen, Dead, Collecting, Collected, Cluster, runs, is_well}
use Rattle.cluster.specs.Rules.{Act, Arrives, Works, Replays, Recovers, Freezes, Keeps, Thaws, Dies, Opens, IsNode, MayTake, May, arrived, does, message, with_page, kept_by, put2}
use Rattle.cluster.proofs.Facts.{choose2, well-is, takes-is, true-not-false}
use Rattle.cluster.specs.Return.{is_death}
use Rattle.cluster.proofs.Settings.{does-count}
use Rattle.cluster.proofs.Growth.{either-way}
use Rattle.cluster.specs.Overlap.{Event, Acts, Meets, Leaves, Might, restores_anew, goes}
use Rattle.cluster.proofs.Sane.{Low, those-has, todo-turn, todo-with, peers-nodes, without-less}
use Rattle.cluster.proofs.Ages.{IsSound, Ends, IsEnding, Plain, un-gate, On, Fine}

pub put-other : {X : Type 0} (f : ℕ → X) (p : ℕ) (x : X) (q : ℕ) → q ≢ p → put f p x q ≡ f q
put-other f p x q ne = elsewhere p (λ j b. (if b then x else f j) ≡ f j) (λ j. refl) q ne

pub put2-same : {X : Type 0} (f : ℕ → ℕ → X) (a b : ℕ) (x : X) → put2 f a b x a b ≡ x
put2-same f a b x = let m : (a == a) ≡ true = grind (arith, nat_tests) in let n : (b == b) ≡ true = grind (arith, nat_tests) in rw (m, n) refl

sound-with : (ps : List ℕ) → IsSound (phase_with ps)
sound-with [] = tt
sound-with (p ∷ ps) = tt

-- more was heard, and so it is plain
plain-heard : (c : Cluster) (heard : ℕ → ℕ → ℕ) → Low (record c { heard = heard }) → Plain c → Plain (record c { heard = heard })
plain-heard c heard low h = record { low = low; begun = h.begun; settled = h.settled; gateway = h.gateway; sound = h.sound; todo = h.todo; within = h.within; ends = h.ends; own = h.own }

-- so where other pages are told
plain-told : (c : Cluster) (told : ℕ → ℕ → Option Collected) → ((p q : ℕ) → IsEnding (told p q)) → ((p : ℕ) → told p p ≡ None) → Plain c → Plain (record c { told = told })
plain-told c told ends own h = record { low = h.low; begun = h.begun; settled = h.settled; gateway = h.gateway; sound = h.sound; todo = h.todo; within = h.within; ends = ends; own = own }

-- and where a history or what a checkpoint covers is another
plain-within : (c : Cluster) (history : ℕ → List Message) (saved : ℕ → ℕ) → ((p : ℕ) → saved p ≤ length (history p)) → Plain c → Plain (record c { world = record c.world { history = history; saved = saved } })
plain-within c history saved within h = record { low = h.low; begun = h.begun; settled = h.settled; gateway = h.gateway; sound = h.sound; todo = h.todo; within = within; ends = h.ends; own = h.own }

module _ (c : Cluster) where
  sound-turn : (p : ℕ) (x : Phase) → IsSound x → ((j : ℕ) → IsSound (c.world.phase j)) → (j : ℕ) → IsSound (put c.world.phase p x j)
  sound-turn p x s h = choose p (λ j b. IsSound (if b then x else c.world.phase j)) s (λ j _. h j)

  -- who is up stays so
  abbrev StayUp : Cluster → Type 0
  StayUp d = (q : ℕ) → is_well c q ≡ true → is_well d q ≡ true

  -- p turns to another phase; it wasn't up before, or is so after it
  well-turn : (p : ℕ) (x : Phase) → (is_up (c.world.phase p) ≡ true → is_up x ≡ true) → StayUp (record c { world = record c.world { phase = put c.world.phase p x } })
  well-turn p x up = choose p (λ j b. is_well c j ≡ true → (runs (c.stage j) && (c.greeted j && is_up (if b then x else c.world.phase j))) ≡ true) (λ w. let t = well-is c p w in let u : is_up x ≡ true = up t.2 in rw (t.0, t.1, u) refl) (λ j _ w. w)

  -- or to another stage
  well-stage : (p : ℕ) (x : Stage) → (is_well c p ≡ true → runs x ≡ true) → StayUp (record c { stage = put c.stage p x })
  well-stage p x r = choose p (λ j b. is_well c j ≡ true → (runs (if b then x else c.stage j) && (c.greeted j && is_up (c.world.phase j))) ≡ true) (λ w. let t = well-is c p w in let u : runs x ≡ true = r w in rw (u, t.1, t.2) refl) (λ j _ w. w)

  well-recovers : (p : ℕ) (x : Phase) → c.stage p ≡ Collecting → StayUp (record c { stage = put c.stage p Live; greeted = put c.greeted p false; world = record c.world { phase = put c.world.phase p x } })
  well-recovers p x e = choose p (λ j b. is_well c j ≡ true → (runs (if b then Live else c.stage j) && ((if b then false else c.greeted j) && is_up (if b then x else c.world.phase j))) ≡ true) (λ w. absurd (true-not-false (well-is c p w).0 (ap runs e))) (λ j _ w. w)

  -- who is dead stays so
  dead-stage : (p : ℕ) (x : Stage) → c.stage p ≢ Dead → (q : ℕ) → c.stage q ≡ Dead → put c.stage p x q ≡ Dead
  dead-stage p x n = choose p (λ j b. c.stage j ≡ Dead → (if b then x else c.stage j) ≡ Dead) (λ e. absurd (n e)) (λ j _ e. e)

  plain-turn : (p : ℕ) (x : Phase) → 0 ≢ p → IsSound x → ((q : ℕ) → has (todo_of x) q ≡ true → IsNode c q × (q ≢ p)) → Plain c → Plain (record c { world = record c.world { phase = put c.world.phase p x } })
  plain-turn p x n s t h =
      record { low = h.low; begun = h.begun; settled = h.settled; gateway = (h.gateway.0, h.gateway.1, put-other c.world.phase p x 0 n ∙ h.gateway.2); sound = sound-turn p x s h.sound; todo = todo-turn c p x t h.todo; within = h.within; ends = h.ends; own = h.own }

  pub low-hears : (a b i : ℕ) → Low c → i ≤ c.stored b → Low (record c { heard = put2 c.heard a b i })
  low-hears a b i l n = choose2 a b (λ x y t. (if t then i else c.heard x y) ≤ c.stored y) n (λ x y _. l x y)

  -- incarnations stay, and no less was heard
  abbrev Hears : Cluster → Type 0
  Hears d = ((p : ℕ) → d.stored p ≡ c.stored p) × ((p q : ℕ) → c.heard p q ≤ d.heard p q) × Low d

  hears : (a b i : ℕ) → Low c → c.heard a b ≤ i → i ≤ c.stored b → Hears (record c { heard = put2 c.heard a b i })
  hears a b i l m n = (λ p. refl, choose2 a b (λ x y t. c.heard x y ≤ (if t then i else c.heard x y)) m (λ x y _. omega arith), low-hears a b i l n)

  not-gate : (p : ℕ) → IsNode c p → 0 ≢ p
  not-gate p n e = let l : 0 < p = n.0 in omega arith

  not-up : (p q : ℕ) → has (todo_of (c.world.phase p)) q ≡ true → is_up (c.world.phase p) ≡ false
  not-up p q e = split (c.world.phase p) e
    where
      split : (x : Phase) → has (todo_of x) q ≡ true → is_up x ≡ false
      split Up e = absurd (cc)
      split (Busy m) e = absurd (cc)
      split Down e = refl
      split (Replaying j w a) e = refl
      split (Resync qs) e = refl

  -- who restores numbers isn't the gateway
  restores-gate : (p q : ℕ) → Plain c → has (todo_of (c.world.phase p)) q ≡ true → 0 ≢ p
  restores-gate p q h e z =
      let u : is_up (c.world.phase p) ≡ false = not-up p q e in
      let P : ℕ → Type 0 = λ i. is_up (c.world.phase i) ≡ true in
      true-not-false (subst P z (ap is_up h.gateway.2)) u

  stage-gate : (p : ℕ) (x : Stage) → 0 ≢ p → Plain c → put c.stage p x 0 ≡ Live
  stage-gate p x n h = put-other c.stage p x 0 n ∙ h.gateway.0

  settled-stage : (p : ℕ) (x : Stage) → (runs x ≡ true → c.world.incarnation p ≡ c.stored p) → Plain c → (q : ℕ) → runs (put c.stage p x q) ≡ true → c.world.incarnation q ≡ c.stored q
  settled-stage p x s h = choose p (λ j b. runs (if b then x else c.stage j) ≡ true → c.world.incarnation j ≡ c.stored j) s (λ j _. h.settled j)

  plain-stage : (p : ℕ) (x : Stage) → 0 ≢ p → (runs x ≡ true → c.world.incarnation p ≡ c.stored p) → Plain c → Plain (record c { stage = put c.stage p x })
  plain-stage p x n s h =
      record { low = h.low; begun = h.begun; settled = settled-stage p x s h; gateway = (stage-gate p x n h, h.gateway.1, h.gateway.2); sound = h.sound; todo = h.todo; within = h.within; ends = h.ends; own = h.own }

  un-own : (a b : ℕ) (o : Option Collected) → a ≢ b → ((p : ℕ) → c.told p p ≡ None) → (x : ℕ) → put2 c.told a b o x x ≡ None
  un-own a b o n h x = choose2 a b (λ x y t. x ≡ y → (if t then o else c.told x y) ≡ None) (λ e. absurd (n e)) (λ x y _ e. let P : ℕ → Type 0 = λ z. c.told x z ≡ None in subst P e (h x)) x x refl

  told-ends : (a b : ℕ) (o : Option Collected) → IsEnding o → ((p q : ℕ) → IsEnding (c.told p q)) → (x y : ℕ) → IsEnding (put2 c.told a b o x y)
  told-ends a b o e h = choose2 a b (λ x y t. IsEnding (if t then o else c.told x y)) e (λ x y _. h x y)

  page-ends : (o : Option Collected) (k : ℕ) (u : Option ℕ) (f : ℕ → Option Message) → Ends k u f → IsEnding (Some (with_page o k u f))
  page-ends o k u f e = (e.0 + k, λ m l r. let t : nat_le m k ≡ false = grind (arith, nat_tests) in let v : f m ≡ None = e.1 m (omega arith) (omega arith) r in rw t v)

-- whether a node is opened
abbrev pub is_opening : Act → Bool
is_opening (Opens p n) = true
is_opening a = false

abbrev pub opens : Event → Bool
opens (Acts exact a) = is_opening a
opens e = false

-- who is up stays so where a packet is taken
well-takes : (c : Cluster) (q p : ℕ) (x : Body) → MayTake c q p x → StayUp c (arrived c q p x)
well-takes c q p (Restored i j m s (Some u) f) may = λ r w. w
well-takes c p (suc d) (Delivery i ssn x) may = well-turn c (suc d) (Busy (message p ssn x)) (λ _. refl)
well-takes c (suc q) p (Restored i j m s None f) may = well-turn c p (phase_with (without (todo_of (c.world.phase p)) (suc q))) (λ u. absurd (true-not-false u (not-up c p (suc q) may.3)))
well-takes c zero p (Restored i j m s None f) may =
    choose p (λ j b. is_well c j ≡ true → (runs (c.stage j) && ((if b then true else c.greeted j) && is_up (c.world.phase j))) ≡ true) (λ w. let t = well-is c p w in rw (t.0, t.2) refl) (λ j _ w. w)
well-takes c q p x may = λ r w. w

-- and by each act, unless it dies
pub well-act : (c : Cluster) (a : Act) → is_death a ≡ false → May c a → StayUp c (does c a)
well-act c (Arrives q p x) n may = well-takes c q p x may.1
well-act c (Works p m) n may = well-turn c p Up (λ _. refl)
well-act c (Replays p j) n may = either-way (nat_lt (c.world.saved p + suc j) (length (c.world.history p))) _ _ (StayUp c)
    (well-turn c p (Replaying (suc j) false false) (λ u. absurd (true-not-false u (ap is_up may.2)))) (well-turn c p (phase_with (peers c.world p false)) (λ u. absurd (true-not-false u (ap is_up may.2))))
well-act c (Recovers p k) n may = either-way (nat_lt (c.world.saved p) k) _ _ (StayUp c) (well-recovers c p (Replaying 0 false false) may.1) (well-recovers c p (phase_with (peers c.world p false)) may.1)
well-act c (Freezes p) n may = well-stage c p Frozen (λ _. refl)
well-act c (Thaws p) n may = well-stage c p Live (λ _. refl)
well-act c (Dies p) n may = absurd (cc)
well-act c (Opens p m) n may = well-stage c p Collecting (λ w. absurd (true-not-false (well-is c p w).0 (ap runs may.1)))
well-act c act n may = λ r w. w

module _ (born : ℕ → ℕ) (c : Cluster) (h : Plain c) (fine : (p d : ℕ) (x : Body) → In (parcel p d x) c.parcels → (p ≢ d) × Fine born c p d x) where
  heard-takes : (q p : ℕ) (x : Body) → Fine born c q p x → MayTake c q p x → Hears c (arrived c q p x)
  heard-takes q p (Restored i j m s (Some u) f) g may = hears c p q j h.low may.5 g
  heard-takes p zero (Delivery i ssn x) g may = (λ p. refl, λ p q. omega arith, h.low)
  heard-takes p q (Ask i k) g may = let l : c.heard q p < i = may.0 in hears c q p i h.low (omega arith) g.1
  heard-takes q p (Told i j k u f) g may = hears c p q j h.low may.2 g.1
  heard-takes (suc q) p (Restored i j m s None f) g may = hears c p (suc q) j h.low may.5 g
  heard-takes zero p (Restored i j m s None f) g may = (λ p. refl, λ p q. omega arith, h.low)
  heard-takes q p x g may = (λ p. refl, λ p q. omega arith, h.low)

  heard-act : (a : Act) → is_opening a ≡ false → May c a → Hears c (does c a)
  heard-act (Arrives q p x) n may = heard-takes q p x (fine q p x may.0).1 may.1
  heard-act (Replays p j) n may = let o : Hears c c = (λ p. refl, λ p q. omega arith, h.low) in either-way (nat_lt (c.world.saved p + suc j) (length (c.world.history p))) _ _ (Hears c) o o
  heard-act (Recovers p k) n may = let o : Hears c c = (λ p. refl, λ p q. omega arith, h.low) in either-way (nat_lt (c.world.saved p) k) _ _ (Hears c) o o
  heard-act (Opens p m) n may = absurd (cc)
  heard-act act n may = (λ p. refl, λ p q. omega arith, h.low)

  dead-takes : (q p : ℕ) (x : Body) (r : ℕ) → c.stage r ≡ Dead → (arrived c q p x).stage r ≡ Dead
  dead-takes q p (Restored i j m s (Some u) f) r e = e
  dead-takes p zero (Delivery i ssn x) r e = e
  dead-takes zero p (Restored i j m s None f) r e = e
  dead-takes q p x r e = e

  dead-act : (a : Act) → is_opening a ≡ false → May c a → (q : ℕ) → c.stage q ≡ Dead → (does c a).stage q ≡ Dead
  dead-act (Arrives q p x) n may = dead-takes q p x
  dead-act (Replays p j) n may = either-way (nat_lt (c.world.saved p + suc j) (length (c.world.history p))) _ _ (λ d. (q : ℕ) → c.stage q ≡ Dead → d.stage q ≡ Dead) (λ r e. e) (λ r e. e)
  dead-act (Recovers p k) n may =
      let o = dead-stage c p Live (λ f. let t : Collecting ≡ Dead = sym may.1 ∙ f in cc) in
      either-way (nat_lt (c.world.saved p) k) _ _ (λ d. (q : ℕ) → c.stage q ≡ Dead → d.stage q ≡ Dead) o o
  dead-act (Freezes p) n may = dead-stage c p Frozen (λ e. absurd (true-not-false (ap runs (takes-is c p may.1).0) (ap runs e)))
  dead-act (Thaws p) n may = dead-stage c p Live (λ e. absurd (true-not-false (ap runs may.1) (ap runs e)))
  dead-act (Dies p) n may = choose p (λ j b. c.stage j ≡ Dead → (if b then Dead else c.stage j) ≡ Dead) (λ _. refl) (λ j _ e. e)
  dead-act (Opens p m) n may = absurd (cc)
  dead-act act n may = λ r e. e

  up-act : (a : Act) → May c a → (q : ℕ) → is_well c q ≡ true → (is_well (does c a) q ≡ true) ⊎ ((does c a).stage q ≡ Dead)
  up-act (Dies p) may = choose p (λ j b. is_well c j ≡ true → ((runs (if b then Dead else c.stage j) && (c.greeted j && is_up (c.world.phase j))) ≡ true) ⊎ ((if b then Dead else c.stage j) ≡ Dead)) (λ w. inr refl) (λ j _ w. inl w)
  up-act a may = λ q w. inl (well-act c a refl may q w)

  pub on-takes : (q p : ℕ) (x : Body) → Fine born c q p x → MayTake c q p x → On c (arrived c q p x)
  on-takes q p x g may = let t = heard-takes q p x g may in record { count = does-count c (Arrives q p x); stored = t.0; heard = t.1; low = t.2; well = λ r w. inl (well-takes c q p x may r w); dead = dead-takes q p x }

  pub on-act : (a : Act) → is_opening a ≡ false → May c a → On c (does c a)
  on-act a n may = let t = heard-act a n may in record { count = does-count c a; stored = t.0; heard = t.1; low = t.2; well = up-act a may; dead = dead-act a n may }

  plain-recovers : (p k : ℕ) (x : Phase) → May c (Recovers p k) → IsSound x → ((q : ℕ) → has (todo_of x) q ≡ true → IsNode c q × (q ≢ p))
      → Plain (record c { stage = put c.stage p Live; greeted = put c.greeted p false; told = put c.told p (λ _. None); world = record c.world { incarnation = put c.world.incarnation p (c.stored p); history = put c.world.history p (kept_by c p k); phase = put c.world.phase p x } })
  plain-recovers p k x may s t =
      let n : 0 ≢ p = not-gate c p may.0 in
      let long : length (kept_by c p k) ≡ k = may.4 in
      let within : c.world.saved p ≤ k = may.3 in
      let none : ℕ → Option Collected = λ _. None in
      record {
        low = h.low;
        begun = h.begun;
        settled = choose p (λ j b. runs (if b then Live else c.stage j) ≡ true → (if b then c.stored p else c.world.incarnation j) ≡ c.stored j) (λ _. refl) (λ j _. h.settled j);
        gateway = (stage-gate c p Live n h, put-other c.greeted p false 0 n ∙ h.gateway.1, put-other c.world.phase p x 0 n ∙ h.gateway.2);
        sound = sound-turn c p x s h.sound;
        todo = todo-turn c p x t h.todo;
        within = choose p (λ j b. c.world.saved j ≤ length (if b then kept_by c p k else c.world.history j)) (omega arith) (λ j _. h.within j);
        ends = λ j q. choose p (λ j b. IsEnding ((if b then none else c.told j) q)) tt (λ j _. h.ends j q) j;
        own = choose p (λ j b. (if b then none else c.told j) j ≡ None) refl (λ j _. h.own j);
      }

  peers-todo : (p q : ℕ) → has (todo_of (phase_with (peers c.world p false))) q ≡ true → IsNode c q × (q ≢ p)
  peers-todo p = todo-with c p (peers c.world p false) (peers-nodes c p)

  rest-todo : (p r q : ℕ) → has (todo_of (phase_with (without (todo_of (c.world.phase p)) r))) q ≡ true → IsNode c q × (q ≢ p)
  rest-todo p r = todo-with c p (without (todo_of (c.world.phase p)) r) (λ q e. h.todo p q (without-less (todo_of (c.world.phase p)) r q e))

  none-todo : (p : ℕ) (x : Phase) → todo_of x ≡ [] → (q : ℕ) → has (todo_of x) q ≡ true → IsNode c q × (q ≢ p)
  none-todo p x e q t = absurd (let z : false ≡ true = sym (ap (λ xs. has xs q) e) ∙ t in cc)

  pub plain-takes : (q p : ℕ) (x : Body) → q ≢ p → Fine born c q p x → MayTake c q p x → Plain (arrived c q p x)
  plain-takes q p (Restored i j m s (Some u) f) ne g may = plain-heard c (put2 c.heard p q j) (low-hears c p q j h.low g) h
  plain-takes p zero (Delivery i ssn x) ne g may = h
  plain-takes p (suc d) (Delivery i ssn x) ne g may = plain-turn c (suc d) (Busy (message p ssn x)) (not-gate c (suc d) may.0) tt (none-todo (suc d) (Busy (message p ssn x)) refl) h
  plain-takes p q (Ask i k) ne g may = plain-told (record c { heard = put2 c.heard q p i }) (put2 c.told q p None) (told-ends c q p None tt h.ends) (un-own c q p None (λ e. ne (sym e)) h.own) (plain-heard c (put2 c.heard q p i) (low-hears c q p i h.low g.1) h)
  plain-takes q p (Told i j k u f) ne g may =
      let page : Option Collected = Some (with_page (c.told p q) k u f) in
      plain-told (record c { heard = put2 c.heard p q j }) (put2 c.told p q page) (told-ends c p q page (page-ends c (c.told p q) k u f g.2) h.ends) (un-own c p q page (λ e. ne (sym e)) h.own)
      (plain-heard c (put2 c.heard p q j) (low-hears c p q j h.low g.1) h)
  plain-takes (suc q) p (Restored i j m s None f) ne g may =
      let t = plain-turn c p (phase_with (without (todo_of (c.world.phase p)) (suc q))) (restores-gate c p (suc q) h may.3) (sound-with _) (rest-todo p (suc q)) h in
      plain-heard (record c { world = record c.world { phase = put c.world.phase p (phase_with (without (todo_of (c.world.phase p)) (suc q))) } }) (put2 c.heard p (suc q) j) (low-hears c p (suc q) j h.low g) t
  plain-takes zero p (Restored i j m s None f) ne g may =
      record {
        low = h.low;
        begun = h.begun;
        settled = h.settled;
        gateway = (h.gateway.0, choose p (λ j b. j ≡ 0 → (if b then true else c.greeted j) ≡ true) (λ _. refl) (λ j _ e. let P : ℕ → Type 0 = λ i. c.greeted i ≡ true in subst P (sym e) h.gateway.1) 0 refl, h.gateway.2);
        sound = h.sound;
        todo = h.todo;
        within = h.within;
        ends = h.ends;
        own = h.own;
      }
  plain-takes q p x ne g may = h

  pub plain-act : (a : Act) → is_opening a ≡ false → May c a → Plain (does c a)
  plain-act (Arrives q p x) n may = let f = fine q p x may.0 in plain-takes q p x f.0 f.1 may.1
  plain-act (Works p m) n may =
      let g = plain-turn c p Up (not-gate c p may.0) tt (none-todo p Up refl) h in
      let longer : length (c.world.history p ++ m ∷ []) ≡ length (c.world.history p) + 1 = length-append _ _ in
      let l : c.world.saved p ≤ length (c.world.history p) = h.within p in
      plain-within (record c { world = record c.world { phase = put c.world.phase p Up } }) (put c.world.history p (c.world.history p ++ m ∷ [])) c.world.saved (choose p (λ j b. c.world.saved j ≤ length (if b then c.world.history p ++ m ∷ [] else c.world.history j)) (omega arith) (λ j _. h.within j)) g
  plain-act (Replays p j) n may = either-way (nat_lt (c.world.saved p + suc j) (length (c.world.history p))) _ _ Plain
      (plain-turn c p (Replaying (suc j) false false) (not-gate c p may.0) (refl, refl) (none-todo p (Replaying (suc j) false false) refl) h)
      (plain-turn c p (phase_with (peers c.world p false)) (not-gate c p may.0) (sound-with _) (peers-todo p) h)
  plain-act (Recovers p k) n may = either-way (nat_lt (c.world.saved p) k) _ _ Plain
      (plain-recovers p k (Replaying 0 false false) may (refl, refl) (none-todo p (Replaying 0 false false) refl)) (plain-recovers p k (phase_with (peers c.world p false)) may (sound-with _) (peers-todo p))
  plain-act (Freezes p) n may = plain-stage c p Frozen (not-gate c p may.0) (λ _. h.settled p (ap runs (takes-is c p may.1).0)) h
  plain-act (Keeps p) n may = plain-within c c.world.history (put c.world.saved p (length (c.world.history p))) (choose p (λ j b. (if b then length (c.world.history p) else c.world.saved j) ≤ length (c.world.history j)) (omega arith) (λ j _. h.within j)) h
  plain-act (Thaws p) n may = plain-stage c p Live (not-gate c p may.0) (λ _. h.settled p (ap runs may.1)) h
  plain-act (Dies p) n may = plain-stage c p Dead (not-gate c p may.0) (λ e. absurd (let z : false ≡ true = e in cc)) h
  plain-act (Opens p m) n may = absurd (cc)
  plain-act act n may = h

  -- and so do nodes that meet
  anew : (count : ℕ) (x : Phase) (p q : ℕ) → has (todo_of (restores_anew count x p)) q ≡ true → (q ≡ p) ⊎ (has (todo_of x) q ≡ true)
  anew count (Replaying j w a) p q e = inr e
  anew count x p q e = split (q == p) refl (those-has (λ r. (r == p) || has (todo_of x) r) count q e).0
    where
      split : (b : Bool) → (q == p) ≡ b → (b || has (todo_of x) q) ≡ true → (q ≡ p) ⊎ (has (todo_of x) q ≡ true)
      split true f e = inl (grind (arith, nat_tests))
      split false f e = inr e

  anew-sound : (x : Phase) (p : ℕ) → IsNode c p → IsSound x → IsSound (restores_anew c.world.count x p)
  anew-sound (Replaying j w a) p n s = s
  anew-sound x p n s = some (those (λ r. (r == p) || has (todo_of x) r) c.world.count) (has-those (λ r. (r == p) || has (todo_of x) r) c.world.count p n.0 n.1 (let m : (p == p) ≡ true = grind (arith, nat_tests) in rw m refl))
    where
      some : (rs : List ℕ) → has rs p ≡ true → IsSound (Resync rs)
      some [] e = absurd (cc)
      some (r ∷ rs) e = tt

  meets-well : (q : ℕ) (x : Phase) → is_well c q ≡ false → StayUp c (record c { world = record c.world { phase = put c.world.phase q x } })
  meets-well q x un = choose q (λ j b. is_well c j ≡ true → (runs (c.stage j) && (c.greeted j && is_up (if b then x else c.world.phase j))) ≡ true) (λ w. absurd (true-not-false w un)) (λ j _ w. w)

  pub on-meets : (q p i k : ℕ) → Might c (Meets q p i k) → On c (goes c (Meets q p i k))
  on-meets q p i k may =
      let l : c.heard q p < i = may.2 in
      let t = hears c q p i h.low (omega arith) (fine p q (Ask i k) may.0).1.1 in
      record { count = refl; stored = t.0; heard = t.1; low = t.2; well = λ r w. inl (meets-well q (restores_anew c.world.count (c.world.phase q) p) may.1.1 r w); dead = λ p e. e }

  pub on-leaves : (p q : ℕ) → Might c (Leaves p q) → On c (goes c (Leaves p q))
  on-leaves p q may =
      let x : Phase = phase_with (without (todo_of (c.world.phase p)) q) in
      record { count = refl; stored = λ p. refl; heard = λ p q. omega arith; low = h.low; well = λ r w. inl (well-turn c p x (λ u. absurd (true-not-false u (not-up c p q may.1))) r w); dead = λ p e. e }

  pub plain-meets : (q p i k : ℕ) → Might c (Meets q p i k) → Plain (goes c (Meets q p i k))
  plain-meets q p i k may =
      let f = fine p q (Ask i k) may.0 in
      let x : Phase = restores_anew c.world.count (c.world.phase q) p in
      let g = plain-turn c q x (un-gate c h q may.1.1) (anew-sound (c.world.phase q) p f.1.0 (h.sound q)) (λ r e. elim (anew c.world.count (c.world.phase q) p r e) [ inl z ↦ (let P : ℕ → Type 0 = λ i. IsNode c i × (i ≢ q) in subst P (sym z) (f.1.0, f.0)) | inr t ↦ h.todo q r t ]) h in
      plain-heard (record c { world = record c.world { phase = put c.world.phase q x } }) (put2 c.heard q p i) (low-hears c q p i h.low f.1.1) g

  pub plain-leaves : (p q : ℕ) → Might c (Leaves p q) → Plain (goes c (Leaves p q))
  plain-leaves p q may = plain-turn c p (phase_with (without (todo_of (c.world.phase p)) q)) (restores-gate c p q h may.1) (sound-with _) (rest-todo p q) h
