-- A run of the basic rules is one of the whole rules in which all packets say that nothing is lost. So a lone node comes back as all do
use Rattle.std.proofs.Common.{◌≡◌, inl, inr, ℕ, zero, suc, ◌+◌, ◌≤◌, List, [], ◌∷◌, length, Bool, true, false, refl, sym, ap, ◌∙◌, subst, arith}
use Rattle.std.specs.List.{list_any}
use Rattle.std.specs.Prelude.{Some, None, ◌&&◌, nat_lt, if◌then◌else◌}
use Rattle.world.specs.Handlers.{Handlers}
use Rattle.world.specs.Phases.{is_up}
use Rattle.theorems.proofs.Changes.{choose}
use Rattle.cluster.specs.Parcels.{Body, Delivery, Number, Acknowledgement, Told, Restored, Parcel, parcel, In, flagged, Said}
use Rattle.cluster.specs.Cluster.{Cluster, opening, runs, is_well, durable_opening}
use Rattle.cluster.specs.Rules.{Act, Puts, Arrives, Replays, Recovers, Dies, Opens, MayTake, May, does, Run, after_run}
use Rattle.cluster.specs.Overlap.{Event, Acts, IsKept, goes, after_events, said_after, exact_after}
use Rattle.cluster.specs.Exact.{IsTold, Steps, acts_of, bare}
use Rattle.cluster.specs.Goes.{Each, IsAct}
use Rattle.cluster.specs.Return.{is_death, is_quiet, CanReach, AllUp, LoneComesBack}
use Rattle.cluster.specs.WorkedDurable.{none_durable, taken}
use Rattle.cluster.proofs.Facts.{is-well, true-not-false}
use Rattle.cluster.proofs.Settings.{does-count, does-knowing, does-durable}
use Rattle.cluster.proofs.Goes.{acts-run}
use Rattle.cluster.proofs.Growth.{either-way}
use Rattle.cluster.proofs.DurableTurns.{well-act}
use Rattle.cluster.proofs.Births.{Orderly, always-orderly}
use Rattle.cluster.proofs.WakeUps.{AllBut, Calm, Goes}
use Rattle.cluster.proofs.AllBack.{orderly-back}

-- whether what it says of its teller matters
abbrev is_answer : Body → Bool
is_answer (Told i j k u f) = true
is_answer (Restored i j n s u f) = true
is_answer x = false

-- the packets behind an act
abbrev more : Act → List Parcel → List Parcel
more (Puts p d x) ps = parcel p d x ∷ ps
more (Arrives r s (Number i ssn k)) ps = parcel s r (Acknowledgement i k) ∷ ps
more a ps = ps

parcels-are : (c : Cluster) (a : Act) → (does c a).parcels ≡ more a c.parcels
parcels-are c (Arrives q p (Restored i j n s (Some u) f)) = refl
parcels-are c (Arrives p zero (Delivery i ssn x)) = refl
parcels-are c (Replays p j) = either-way (nat_lt (c.world.saved p + suc j) (length (c.world.history p))) _ _ (λ d. d.parcels ≡ c.parcels) refl refl
parcels-are c (Recovers p k) = either-way (nat_lt (c.world.saved p) k) _ _ (λ d. d.parcels ≡ c.parcels) refl refl
parcels-are c (Arrives zero p (Restored i j n s None f)) = refl
parcels-are c act = refl

-- no node is durable, all are exact, and each answer says so and that nothing is lost
abbrev pub Trusts : Cluster → Type 0
Trusts s =
    record {
      durable : (p : ℕ) → s.durable p ≡ false;
      exact : (p : ℕ) → s.exact p ≡ true;
      said : (x : Parcel) → is_answer x.body ≡ true → In x s.parcels → Said (flagged x true false) s.said;
    }

module _ (s : Cluster) (h : Trusts s) where
  says : (a : Act) → May s a → IsTold s (Acts true a)
  says (Arrives p d (Told i j k u f)) may = h.said (parcel p d (Told i j k u f)) refl may.0
  says (Arrives p d (Restored i j n r u f)) may = h.said (parcel p d (Restored i j n r u f)) refl may.0
  says act may = tt

  is-kept : (a : Act) → IsKept s a
  is-kept (Puts p d (Delivery i ssn x)) = λ e. absurd (true-not-false e (h.durable p))
  is-kept act = tt

  exact-act : (a : Act) (p : ℕ) → exact_after s.exact (Acts true a) p ≡ true
  exact-act (Arrives p d (Told i j k u f)) = choose d (λ j b. (if b then s.exact d && true else s.exact j) ≡ true) (rw (h.exact d) refl) (λ j _. h.exact j)
  exact-act (Arrives p d (Restored i j n r u f)) = choose d (λ j b. (if b then s.exact d && true else s.exact j) ≡ true) (rw (h.exact d) refl) (λ j _. h.exact j)
  exact-act (Opens p n) = choose p (λ j b. (if b then true else s.exact j) ≡ true) refl (λ j _. h.exact j)
  exact-act act = h.exact

  -- one packet more, that is no answer, or says so
  one-more : (x y : Parcel) → is_answer y.body ≡ false → is_answer x.body ≡ true → In x (y ∷ s.parcels) → Said (flagged x true false) s.said
  one-more x y n a i = elim i [ inl e ↦ absurd (true-not-false a (ap (λ (z : Parcel). is_answer z.body) e ∙ n)) | inr t ↦ h.said x a t ]

  one-said : (x y : Parcel) (b : Bool) → b ≡ true → is_answer x.body ≡ true → In x (y ∷ s.parcels) → Said (flagged x true false) (flagged y b false ∷ s.said)
  one-said x y b t a i = elim i [ inl e ↦ inl (ap (λ (z : Parcel). flagged z true false) e ∙ ap (λ (c : Bool). flagged y c false) (sym t)) | inr k ↦ inr (h.said x a k) ]

  said-act : (a : Act) (x : Parcel) → is_answer x.body ≡ true → In x (more a s.parcels) → Said (flagged x true false) (said_after s (Acts true a))
  said-act (Puts p d (Told i j k u f)) x = one-said x (parcel p d (Told i j k u f)) (s.exact p) (h.exact p)
  said-act (Puts p d (Restored i j n r u f)) x = one-said x (parcel p d (Restored i j n r u f)) (s.exact p) (h.exact p)
  said-act (Puts p d y) x = one-more x (parcel p d y) refl
  said-act (Arrives r t (Number i ssn k)) x = one-more x (parcel t r (Acknowledgement i k)) refl
  said-act act x = h.said x

  trusts-act : (a : Act) → Trusts (goes s (Acts true a))
  trusts-act a =
      let P : List Parcel → Type 0 = λ ps. (x : Parcel) → is_answer x.body ≡ true → In x ps → Said (flagged x true false) (said_after s (Acts true a)) in
      record { durable = λ p. ap (λ (f : ℕ → Bool). f p) (does-durable s a) ∙ h.durable p; exact = exact-act a; said = subst P (sym (parcels-are s a)) (said-act a) }

-- an act that may happen may happen whatever nodes know of failures
full-takes : (c : Cluster) (p d : ℕ) (x : Body) → MayTake (bare c) p d x → MayTake c p d x
full-takes c p d (Restored i j n s (Some u) f) may = may
full-takes c zero d (Restored i j n s None f) may = may
full-takes c p zero (Delivery i ssn x) may = may
full-takes c p d x may = may

full-may : (c : Cluster) (a : Act) → May (bare c) a → May c a
full-may c (Arrives p d x) may = (may.0, full-takes c p d x may.1)
full-may c act may = may

does-bare : (c : Cluster) (a : Act) → does (bare c) a ≡ bare (does c a)
does-bare c = does-knowing c (λ _. false) (λ _. true) (λ _ _. false) []

-- so acts are events, and lead where they lead
pub acts-steps : (s : Cluster) → Trusts s → (acts : List Act) → Run (bare s) acts → Steps s (taken acts)
acts-steps s h [] r = tt
acts-steps s h (a ∷ acts) r =
    let may : May s a = full-may s a r.0 in
    let P : Cluster → Type 0 = λ c. Run c acts in
    (((may, is-kept s h a), says s h a may), acts-steps (goes s (Acts true a)) (trusts-act s h a) acts (subst P (does-bare s a) r.1))

acts-end : (s : Cluster) (acts : List Act) → bare (after_events s (taken acts)) ≡ after_run (bare s) acts
acts-end s [] = refl
acts-end s (a ∷ acts) = acts-end (goes s (Acts true a)) acts ∙ ap (λ (c : Cluster). after_run c acts) (sym (does-bare s a))

-- nothing was said at the opening
pub trusts-first : (n : ℕ) (f : Handlers) → Trusts (durable_opening n f none_durable)
trusts-first n f = record { durable = λ p. refl; exact = λ p. refl; said = λ x a i. absurd (i) }

lives : (exact : Bool) (a : Act) → is_quiet (Acts exact a) ≡ true → is_death a ≡ false
lives exact (Dies p) e = absurd (cc)
lives exact a e = refl

-- and who is up stays so
alone-act : (c : Cluster) (p : ℕ) (a : Act) → is_death a ≡ false → May c a → AllBut p c → AllBut p (does c a)
alone-act c p a n may o q l ne = let same : (does c a).world.count ≡ c.world.count = does-count c a in well-act c a n may q (o q (omega arith) ne)

-- and calm events are acts
alone-run : (p : ℕ) (es : List Event) (s : Cluster) → AllBut p s → Steps s es → Calm s es → Each IsAct es × (list_any is_death (acts_of es) ≡ false)
alone-run p [] s o r c = (tt, refl)
alone-run p (Acts exact a ∷ es) s o r c =
    let n = lives exact a c.0.0 in
    let t = alone-run p es (goes s (Acts exact a)) (alone-act s p a n r.0.0.0 o) r.1 c.1 in
    ((tt, t.0), rw (n, t.1) refl)
alone-run p (e ∷ es) s o r c = absurd (let z : false ≡ true = c.0.1 p o in cc)

pub lone-comes-back : LoneComesBack
lone-comes-back n f acts p run node up = subst P same (acts_of g.0, a.0, l.1, subst AllUp (sym a.1) g.3)
  where
    t : Cluster
    t = after_events (durable_opening n f none_durable) (taken acts)

    h : Orderly (after_events (durable_opening n f none_durable) (taken acts))
    h = always-orderly n f none_durable (taken acts) (acts-steps (durable_opening n f none_durable) (trusts-first n f) acts run.run)

    same : bare t ≡ after_run (opening n f) acts
    same = acts-end (durable_opening n f none_durable) acts

    others : AllBut p t
    others zero l ne = let w = h.2.plain.gateway in is-well t 0 (ap runs w.0) w.1 (ap is_up w.2)
    others (suc q) l ne = let P : Cluster → Type 0 = λ c. suc q ≤ c.world.count → is_well c (suc q) ≡ true in subst P (sym same) (λ l. up (suc q) (omega arith, l) ne) l

    g : Goes t AllUp
    g = orderly-back t h

    l : Each IsAct g.0 × (list_any is_death (acts_of g.0) ≡ false)
    l = alone-run p g.0 t others g.1 g.2

    a : Run (bare t) (acts_of g.0) × (after_run (bare t) (acts_of g.0) ≡ bare (after_events t g.0))
    a = acts-run t g.0 l.0 g.1

    P : Cluster → Type 0
    P c = CanReach c AllUp
