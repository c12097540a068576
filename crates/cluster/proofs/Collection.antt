-- Nodes that collect are told by all, also by those that come back themselves, and recover
use Rattle.std.proofs.Common.{◌≡◌, ◌≢◌, inl, inr, ℕ, ◌≤◌, [], Bool, true, false, refl, sym, ap, ◌∙◌, subst, arith}
use Rattle.std.specs.Prelude.{◌⊎◌, Option, Some, None, ◌&&◌, ◌==◌, nat_lt, if◌then◌else◌}
use Rattle.std.proofs.lemmas.Bool.Decides.{nat_tests}
use Rattle.world.specs.declared.message.Message.{Message}
use Rattle.world.specs.Phases.{Phase, Up, is_up}
use Rattle.theorems.proofs.Changes.{choose}
use Rattle.theorems.proofs.Tests.{not-below}
use Rattle.cluster.specs.Parcels.{Body, Ask, Told, parcel, In, flagged, Said}
use Rattle.cluster.specs.Cluster.{Live, Collecting, Collected, runs, is_well, takes, Cluster}
use Rattle.cluster.specs.Rules.{Puts, Arrives, IsNode, Asks, IsAll, entry_of, with_page, put2}
use Rattle.cluster.proofs.Facts.{true-not-false, unphased}
use Rattle.cluster.specs.Overlap.{Event, Acts, Meets, Loses, Lacks, restores_anew, goes}
use Rattle.cluster.specs.Exact.{MayStep}
use Rattle.cluster.proofs.DurableTurns.{put2-same}
use Rattle.cluster.proofs.Births.{Orderly, orderly-step}
use Rattle.cluster.proofs.WakeUps.{AllBut, Goes, two-down, go-first, go-last, go-on, AllReady}

put2-row : {X : Type 0} (f : ℕ → ℕ → X) (a b : ℕ) (x : X) (r c : ℕ) → r ≢ a → put2 f a b x r c ≡ f r c
put2-row f a b x r c n = let m : (r == a) ≡ false = grind (arith, nat_tests) in rw m refl

put2-column : {X : Type 0} (f : ℕ → ℕ → X) (a b : ℕ) (x : X) (r c : ℕ) → c ≢ b → put2 f a b x r c ≡ f r c
put2-column {X} f a b x r c n = let m : (c == b) ≡ false = grind (arith, nat_tests) in let o : ((r == a) && (c == b)) ≡ false = rw m (off (r == a)) in rw o refl
  where
    off : (t : Bool) → (t && false) ≡ false
    off true = refl
    off false = refl

anew-up : (count : ℕ) (x : Phase) (p : ℕ) → is_up (restores_anew count x p) ≡ false
anew-up count Up p = refl
anew-up count other p = refl

-- as many run as before, and all are ready
abbrev pub Still : Cluster → Cluster → Type 0
Still s u =
    record { orderly : Orderly u; count : u.world.count ≡ s.world.count; stage : (r : ℕ) → u.stage r ≡ s.stage r; ready : AllReady u }

pub still-still : (s t u : Cluster) → Still s t → Still t u → Still s u
still-still s t u a b = record { orderly = b.orderly; count = b.count ∙ a.count; stage = λ r. b.stage r ∙ a.stage r; ready = b.ready }

-- of two nodes that differ: q has heard of the life in which p asks
abbrev Heard : ℕ → ℕ → ℕ → Cluster → Cluster → Type 0
Heard p q k s u = Still s u × (u.heard q p ≡ u.stored p) × ((r : ℕ) → u.told p r ≡ s.told p r) × In (parcel p q (Ask (u.stored p) k)) u.parcels × Asks (u.world.saved p) (u.told p q) k

-- q has told p all
abbrev pub Answered : ℕ → ℕ → Cluster → Cluster → Type 0
Answered p q s u = Still s u × IsAll (u.told p q) × ((r : ℕ) → r ≢ q → u.told p r ≡ s.told p r)

module _ (p q : ℕ) (ne : q ≢ p) where
  module _ (s : Cluster) (h : Orderly s) (node : IsNode s p) (a : q ≤ s.world.count) (ready : AllReady s) (coll : s.stage p ≡ Collecting) where
    abbrev ask : ℕ → Event
    ask k = Acts true (Puts p q (Ask (s.stored p) k))

    abbrev asked : ℕ → Cluster
    asked k = goes s (Acts true (Puts p q (Ask (s.stored p) k)))

    hear : (k : ℕ) → Asks (s.world.saved p) (s.told p q) k → Goes s (Heard p q k s)
    hear k asks = go-first s (Heard p q k s) (ask k) may (refl, λ _ _. refl) (split (nat_lt (s.heard q p) (s.stored p)) refl)
      where
        may : MayStep s (Acts true (Puts p q (Ask (s.stored p) k)))
        may = (((node.1, a, (λ e. ne (sym e)), (coll, refl, asks)), tt), tt)

        g : Orderly (goes s (Acts true (Puts p q (Ask (s.stored p) k))))
        g = orderly-step s (Acts true (Puts p q (Ask (s.stored p) k))) h may

        -- it hears that
        hears : nat_lt (s.heard q p) (s.stored p) ≡ true → (takes s q ≡ true) ⊎ (s.stage q ≡ Collecting) → Goes (asked k) (Heard p q k s)
        hears e t =
            let m : MayStep (asked k) (Acts true (Arrives p q (Ask (s.stored p) k))) = (((inl refl, (grind (arith, nat_tests), t)), tt), tt) in
            let P : Option Collected → Type 0 = λ x. Asks (s.world.saved p) x k in
            let row : (r : ℕ) → put2 s.told q p None p r ≡ s.told p r = λ r. put2-row s.told q p None p r (λ z. ne (sym z)) in
            go-last (asked k) (Heard p q k s) (Acts true (Arrives p q (Ask (s.stored p) k))) m (refl, λ _ _. refl)
            (record { orderly = orderly-step (asked k) (Acts true (Arrives p q (Ask (s.stored p) k))) g m; count = refl; stage = λ r. refl; ready = ready }, put2-same s.heard q p (s.stored p), row, inl refl, subst P (sym (row q)) asks)

        -- or, as it comes back itself, meets p
        meets : nat_lt (s.heard q p) (s.stored p) ≡ true → s.stage q ≡ Live → is_well s q ≡ false → Goes (asked k) (Heard p q k s)
        meets e live un =
            let m : MayStep (asked k) (Meets q p (s.stored p) k) = ((inl refl, (live, un), grind (arith, nat_tests)), tt) in
            let x : Phase = restores_anew s.world.count (s.world.phase q) p in
            let down : (runs (s.stage q) && (s.greeted q && is_up x)) ≡ false = unphased (runs (s.stage q)) (s.greeted q) (is_up x) (anew-up s.world.count (s.world.phase q) p) in
            let all : AllReady (goes s (Meets q p (s.stored p) k)) = choose q (λ j b. j ≤ s.world.count → (s.stage j ≡ Collecting) ⊎ ((s.stage j ≡ Live)
            × ((runs (s.stage j) && (s.greeted j && is_up (if b then x else s.world.phase j))) ≡ true → (if b then x else s.world.phase j) ≡ Up))) (λ _. inr (live, λ w. absurd (true-not-false w down))) (λ j _. ready j) in
            go-last (asked k) (Heard p q k s) (Meets q p (s.stored p) k) m (refl, λ r o. absurd (two-down s p q r ne node.1 a (rw coll refl) un o))
            (record { orderly = orderly-step (asked k) (Meets q p (s.stored p) k) g m; count = refl; stage = λ r. refl; ready = all }, put2-same s.heard q p (s.stored p), λ r. refl, inl refl, asks)

        split : (b : Bool) → nat_lt (s.heard q p) (s.stored p) ≡ b → Goes (asked k) (Heard p q k s)
        split false e =
            let low : s.heard q p ≤ s.stored p = h.2.plain.low q p in
            let l : s.stored p ≤ s.heard q p = not-below (s.heard q p) (s.stored p) e in
            ([], tt, tt, (record { orderly = g; count = refl; stage = λ r. refl; ready = ready }, (omega arith), λ r. refl, inl refl, asks))
        split true e = elim (ready q a) [ inl c ↦ hears e (inr c) | inr w ↦ awake w.0 (takes s q) refl ]
          where
            awake : s.stage q ≡ Live → (b : Bool) → takes s q ≡ b → Goes (asked k) (Heard p q k s)
            awake live true t = hears e (inl t)
            awake live false t =
                let same : is_well s q ≡ takes s q = rw live refl in
                meets e live (same ∙ t)

    -- a page is collected
    collect : (i j k : ℕ) (f : ℕ → Option Message) (exact : Bool) → In (parcel q p (Told i j k None f)) s.parcels → Said (flagged (parcel q p (Told i j k None f)) exact false) s.said
        → i ≡ s.stored p → s.heard p q ≤ j → Asks (s.world.saved p) (s.told p q) k → Goes s (Answered p q s)
    collect i j k f exact there said e low asks =
        let m : MayStep s (Acts exact (Arrives q p (Told i j k None f))) = (((there, (coll, e, low, asks)), tt), said) in
        let page : Option Collected = Some (with_page (s.told p q) k None f) in
        let P : Option Collected → Type 0 = λ t. IsAll t in
        go-last s (Answered p q s) (Acts exact (Arrives q p (Told i j k None f))) m (refl, λ _ _. refl)
        (record { orderly = orderly-step s (Acts exact (Arrives q p (Told i j k None f))) h m; count = refl; stage = λ r. refl; ready = ready }, subst P (sym (put2-same s.told p q page)) refl, λ r n. put2-column s.told p q page p r n)

  module _ (s : Cluster) (h : Orderly s) (node : IsNode s p) (a : q ≤ s.world.count) (ready : AllReady s) (coll : s.stage p ≡ Collecting) where
    -- q tells what its log holds where it is up, and else that it lost that
    tells : (k : ℕ) → s.heard q p ≡ s.stored p → In (parcel p q (Ask (s.stored p) k)) s.parcels → Asks (s.world.saved p) (s.told p q) k → Goes s (Answered p q s)
    tells k e there asks = elim (ready q a) [ inl c ↦ loses (s.stored q) (inr (c, refl)) (h.2.plain.low p q) | inr w ↦ split w.0 (is_well s q) refl ]
      where
        loses : (j : ℕ) → (((s.stage q ≡ Live) × (is_well s q ≡ false)) × (j ≡ s.world.incarnation q)) ⊎ ((s.stage q ≡ Collecting) × (j ≡ s.stored q)) → s.heard p q ≤ j → Goes s (Answered p q s)
        loses j back low =
            let un : is_well s q ≡ false = elim back [ inl v ↦ v.0.1 | inr v ↦ (rw v.0 refl) ] in
            let is : j ≡ s.stored q = elim back [ inl v ↦ v.1 ∙ h.2.plain.settled q (ap runs v.0.0) | inr v ↦ v.1 ] in
            let none : (r : ℕ) → AllBut r s → ⊥ = λ r o. two-down s p q r ne node.1 a (rw coll refl) un o in
            let m : MayStep s (Loses q p (s.stored p) j k) = ((there, sym e, back), tt) in
            let t : MayStep (goes s (Loses q p (s.stored p) j k)) (Lacks q p (s.stored p) j k) = ((ne, (coll, refl, low, asks)), inl refl) in
            let page : Option Collected = Some (with_page (s.told p q) k None (λ _. None)) in
            let P : Option Collected → Type 0 = λ t. IsAll t in
            go-first s (Answered p q s) (Loses q p (s.stored p) j k) m (refl, λ r o. absurd (none r o))
            (go-last (goes s (Loses q p (s.stored p) j k)) (Answered p q s) (Lacks q p (s.stored p) j k) t (refl, λ r o. absurd (none r o)) (
              record { orderly = orderly-step (goes s (Loses q p (s.stored p) j k)) (Lacks q p (s.stored p) j k) (orderly-step s (Loses q p (s.stored p) j k) h m) t; count = refl; stage = λ r. refl; ready = ready },
              subst P (sym (put2-same s.told p q page)) refl,
              λ r n. put2-column s.told p q page p r n,
            ))

        split : s.stage q ≡ Live → (b : Bool) → is_well s q ≡ b → Goes s (Answered p q s)
        split live b f =
            let l : s.heard p q ≤ s.stored q = h.2.plain.low p q in
            let o : s.world.incarnation q ≡ s.stored q = h.2.plain.settled q (ap runs live) in
            one b f (omega arith)
          where
            one : (b : Bool) → is_well s q ≡ b → s.heard p q ≤ s.world.incarnation q → Goes s (Answered p q s)
            one false f low = loses (s.world.incarnation q) (inl ((live, f), refl)) low
            one true f low =
                let x : Body = Told (s.stored p) (s.world.incarnation q) k None (entry_of s q p) in
                let m : MayStep s (Acts true (Puts q p (Told (s.stored p) (s.world.incarnation q) k None (entry_of s q p)))) =
                (((a, node.1, ne, (f, sym e, refl, (λ v z. absurd (let y : None ≡ Some v = z in cc)), (λ m _ _. refl))), tt), tt) in
                go-first s (Answered p q s) (Acts true (Puts q p (Told (s.stored p) (s.world.incarnation q) k None (entry_of s q p)))) m (refl, λ _ _. refl)
                (collect (goes s (Acts true (Puts q p (Told (s.stored p) (s.world.incarnation q) k None (entry_of s q p)))))
                (orderly-step s (Acts true (Puts q p (Told (s.stored p) (s.world.incarnation q) k None (entry_of s q p)))) h m) node a ready coll
                (s.stored p) (s.world.incarnation q) k (entry_of s q p) (s.exact q) (inl refl) (inl refl) refl low asks)

  -- so p asks it
  module _ (s : Cluster) (h : Orderly s) (node : IsNode s p) (a : q ≤ s.world.count) (ready : AllReady s) (coll : s.stage p ≡ Collecting) where
    asks-for : (k : ℕ) → Asks (s.world.saved p) (s.told p q) k → Goes s (Answered p q s)
    asks-for k asks =
        go-on s (Heard p q k s) (Answered p q s) (hear s h node a ready coll k asks) (λ u r.
        let same : u.world.count ≡ s.world.count = r.0.count in
        let there : IsNode u p = (node.0, (let l : p ≤ s.world.count = node.1 in omega arith)) in
        go-on u (Answered p q u) (Answered p q s) (tells u r.0.orderly there (omega arith) r.0.ready (r.0.stage p ∙ coll) k r.1 r.3 r.4) (λ t v. ([], tt, tt, (still-still s u t r.0 v.0, v.1, λ x n. v.2 x n ∙ r.2 x))))

    -- whatever it has told so far
    pub asks-one : Goes s (Answered p q s)
    asks-one = split (s.told p q) refl
      where
        page : (x : Collected) → s.told p q ≡ Some x → (u : Option ℕ) → x.upto ≡ u → Goes s (Answered p q s)
        page x e None f = let P : Option Collected → Type 0 = λ y. IsAll y in ([], tt, tt, (record { orderly = h; count = refl; stage = λ r. refl; ready = ready }, subst P (sym e) f, λ r n. refl))
        page x e (Some v) f = asks-for v (let P : Option Collected → Type 0 = λ y. Asks (s.world.saved p) y v in subst P (sym e) f)

        split : (x : Option Collected) → s.told p q ≡ x → Goes s (Answered p q s)
        split None e = asks-for (s.world.saved p) (let P : Option Collected → Type 0 = λ y. Asks (s.world.saved p) y (s.world.saved p) in subst P (sym e) refl)
        split (Some x) e = page x e x.upto refl
