-- Each goes leaves it so
use Rattle.std.proofs.Common.{◌≡◌, ◌≢◌, inl, inr, ℕ, zero, suc, ◌+◌, ◌<◌, ◌≤◌, List, ◌∷◌, length, Bool, true, false, refl, sym, ap, ◌∙◌, subst, arith}
use Rattle.std.specs.Prelude.{◌⊎◌, Option, Some, None, ◌==◌, ◌&&◌, nat_lt, if◌then◌else◌}
use Rattle.std.proofs.lemmas.Bool.Decides.{nat_tests}
use Rattle.world.specs.declared.message.Message.{Message}
use Rattle.world.specs.World.{World, put}
use Rattle.world.specs.Logs.{sent, is_entry}
use Rattle.world.specs.History.{nth}
use Rattle.world.specs.Plan.{first_below, logged_as, message_of}
use Rattle.theorems.proofs.Changes.{choose}
use Rattle.cluster.specs.Parcels.{Body, Delivery, Number, Acknowledgement, Ask, Told, Restored, Parcel, parcel, In, Flagged, flagged, Said}
use Rattle.cluster.specs.Cluster.{Stage, Live, Frozen, Dead, Collecting, Collected, Cluster, runs, is_well}
use Rattle.cluster.specs.Rules.{Act, Puts, Arrives, Replays, Recovers, Freezes, Thaws, Dies, Opens, IsAll, MayPut, MayTake, May, arrived, does, with_page}
use Rattle.cluster.proofs.Facts.{choose2, well-is, takes-well, takes-is, true-not-false, cut-taken}
use Rattle.cluster.proofs.Growth.{either-way}
use Rattle.cluster.specs.Overlap.{Acts, Meets, Loses, Lacks, Leaves, Doubts, IsRestored, Might, loss, cut, lost_after, said_after, goes}
use Rattle.cluster.specs.Exact.{MayStep}
use Rattle.cluster.proofs.Ages.{On, is_some, at_stage, has_told, Knows, Later, Fine, Real, Aged, known-on, later-on, on-self, aged-on}
use Rattle.cluster.proofs.DurableTurns.{put2-same, is_opening, on-takes, on-act, on-meets, on-leaves, plain-takes, plain-act, plain-meets, plain-leaves}

-- a log has no entry behind some number
pub log-ends : (w : World) (p q n : ℕ) → (b : ℕ) × ((m : ℕ) → b < m → first_below (logged_as w p m q) n ≡ None)
log-ends w p q zero = (0, λ m l. refl)
log-ends w p q (suc n) = more (log-ends w p q n) (w.numbers q p n) refl
  where
    more : (b : ℕ) × ((m : ℕ) → b < m → first_below (logged_as w p m q) n ≡ None) → (o : Option ℕ) → w.numbers q p n ≡ o → (b : ℕ) × ((m : ℕ) → b < m → first_below (logged_as w p m q) (suc n) ≡ None)
    more r None e = (r.0, λ m l. rw (r.1 m l, e) (off (is_entry w q p n) (message_of q n (nth (sent w q p) n))))
      where
        off : (x : Bool) (o : Option Message) → (if x && false then o else None) ≡ None
        off true o = refl
        off false o = refl
    more r (Some k) e = (r.0 + k, λ m l. let f : (k == m) ≡ false = grind (arith, nat_tests) in rw (r.1 m (omega arith), e, f) (off (is_entry w q p n) (message_of q n (nth (sent w q p) n))))
      where
        off : (x : Bool) (o : Option Message) → (if x && false then o else None) ≡ None
        off true o = refl
        off false o = refl

module _ (born : ℕ → ℕ) (now : ℕ) (s : Cluster) (h : Aged born now s) where
  -- what is put out
  fine-put : (p d : ℕ) (x : Body) → p ≤ s.world.count → MayPut s p d x → Fine born s p d x
  fine-put p d (Ask i k) l may = ((some p may.0, l), let e : i ≡ s.stored p = may.1 in omega arith)
    where
      some : (p : ℕ) → s.stage p ≡ Collecting → 0 < p
      some zero e = absurd (true-not-false (ap runs h.plain.gateway.0) (ap runs e))
      some (suc p) e = omega arith
  fine-put p d (Told i j k u f) l may =
      let a : s.heard p d ≤ s.stored d = h.plain.low p d in
      let b : i ≡ s.heard p d = may.1 in
      let e : j ≡ s.stored p = may.2 ∙ h.plain.settled p (well-is s p may.0).0 in
      let r = log-ends s.world d p (suc (length (sent s.world p d))) in
      ((omega arith), (omega arith), (r.0, λ m l a g. may.4 m a g ∙ r.1 m l), λ g. inl (sym b ∙ g, e))
  fine-put p d (Restored i j n r u f) l may = let e : j ≡ s.stored p = may.4 ∙ h.plain.settled p (well-is s p may.0).0 in omega arith
  fine-put p d other l may = tt

  fine : (p d : ℕ) (x : Body) → In (parcel p d x) s.parcels → (p ≢ d) × Fine born s p d x
  fine = h.parcels

  -- so what is under way after an act was so before, or is fine
  one-more : (d : Cluster) (p q : ℕ) (x : Body) → p ≢ q → Fine born d p q x → (a b : ℕ) (y : Body) → In (parcel a b y) (parcel p q x ∷ s.parcels) → In (parcel a b y) s.parcels ⊎ ((a ≢ b) × Fine born d a b y)
  one-more d p q x n f a b y (inl e) = let P : Parcel → Type 0 = λ z. (z.from ≢ z.to) × Fine born d z.from z.to z.body in inr (subst P (sym e) (n, f))
  one-more d p q x n f a b y (inr i) = inl i

  abbrev Under : Cluster → Type 0
  Under d = (p q : ℕ) (x : Body) → In (parcel p q x) d.parcels → In (parcel p q x) s.parcels ⊎ ((p ≢ q) × Fine born d p q x)

  under-act : (a : Act) → May s a → Under (does s a)
  under-act (Arrives q p (Restored i j m r (Some u) f)) may = λ p q y i. inl i
  under-act (Puts p d x) may = one-more s p d x may.2 (fine-put p d x may.0 may.3)
  under-act (Arrives p zero (Delivery i ssn x)) may = λ p q y i. inl i
  under-act (Replays p j) may = either-way (nat_lt (s.world.saved p + suc j) (length (s.world.history p))) _ _ Under (λ p q y i. inl i) (λ p q y i. inl i)
  under-act (Arrives r t (Number i ssn k)) may = one-more s t r (Acknowledgement i k) (λ e. (fine r t (Number i ssn k) may.0).0 (sym e)) tt
  under-act (Recovers p k) may = either-way (nat_lt (s.world.saved p) k) _ _ Under (λ p q y i. inl i) (λ p q y i. inl i)
  under-act (Arrives zero p (Restored i j m r None f)) may = λ p q y i. inl i
  under-act act may = λ p q y i. inl i

  -- and what is said of it
  abbrev AreSaid : Cluster → List Flagged → Type 0
  AreSaid d said = (y : Flagged) → Said y said → Said y s.said ⊎ Real born d y.lost y.packet.from y.packet.to y.packet.body

  one-said : (d : Cluster) (z : Flagged) → Real born d z.lost z.packet.from z.packet.to z.packet.body → AreSaid d (z ∷ s.said)
  one-said d z r y (inl e) = let P : Flagged → Type 0 = λ w. Real born d w.lost w.packet.from w.packet.to w.packet.body in inr (subst P (sym e) r)
  one-said d z r y (inr i) = inl i

  said-act : (exact : Bool) (a : Act) → May s a → AreSaid (does s a) (said_after s (Acts exact a))
  said-act exact (Puts p d (Told i j k u f)) may =
      let a : s.heard p d ≤ s.stored d = h.plain.low p d in
      let b : i ≡ s.heard p d = may.3.1 in
      one-said s (flagged (parcel p d (Told i j k u f)) (s.exact p) false) ((omega arith), λ _. inl may.3.0)
  said-act exact (Puts p d (Restored i j n r u f)) may = one-said s (flagged (parcel p d (Restored i j n r u f)) (s.exact p) false) tt
  said-act exact act may = λ y i. inl i

  -- a node that has an answer had it before, or takes it
  abbrev IsPage : Act → ℕ → ℕ → Type 0
  IsPage (Arrives q p (Told i j k u f)) a b = (a ≡ p) × (b ≡ q)
  IsPage x a b = ⊥

  abbrev Was : Act → Cluster → Type 0
  Was a d = (p q : ℕ) → q ≤ s.world.count → p ≢ q → has_told d p q ≡ true → (has_told s p q ≡ true) ⊎ IsPage a p q

  was-stage : (a : Act) (p : ℕ) (x : Stage) → ((b : Bool) → at_stage x b ≡ true → at_stage (s.stage p) b ≡ true) → Was a (record s { stage = put s.stage p x })
  was-stage a p x t = λ i j l n e. choose p (λ i b. at_stage (if b then x else s.stage i) (is_some (s.told i j)) ≡ true → (at_stage (s.stage i) (is_some (s.told i j)) ≡ true) ⊎ IsPage a i j) (λ f. inl (t _ f)) (λ i _ f. inl f) i e

  was-recovers : (p k : ℕ) → May s (Recovers p k) → Was (Recovers p k) (record s { stage = put s.stage p Live; told = put s.told p (λ _. None) })
  was-recovers p k may = λ i j l n e.
      let none : ℕ → Option Collected = λ _. None in
      choose p (λ i b. i ≢ j → at_stage (if b then Live else s.stage i) (is_some ((if b then none else s.told i) j)) ≡ true → (at_stage (s.stage i) (is_some (s.told i j)) ≡ true) ⊎ IsPage (Recovers p k) i j)
      (λ m f. inl (let w = whole (s.told p j) (may.2 j l (λ g. m (sym g))) in rw (may.1, w) refl)) (λ i _ m f. inl f) i n e
    where
      whole : (t : Option Collected) → IsAll t → is_some t ≡ true
      whole None a = absurd (a)
      whole (Some t) a = refl

  was-act : (a : Act) → May s a → Was a (does s a)
  was-act (Arrives q p (Restored i j m r (Some u) f)) may = λ i j l n e. inl e
  was-act (Arrives p zero (Delivery i ssn x)) may = λ i j l n e. inl e
  was-act (Replays p j) may = either-way (nat_lt (s.world.saved p + suc j) (length (s.world.history p))) _ _ (Was (Replays p j)) (λ i j l n e. inl e) (λ i j l n e. inl e)
  was-act (Arrives p q (Ask i k)) may = λ x y l n e. choose2 q p (λ a b t. at_stage (s.stage a) (is_some (if t then None else s.told a b)) ≡ true → (at_stage (s.stage a) (is_some (s.told a b)) ≡ true) ⊎ IsPage (Arrives p q (Ask i k)) a b)
      (λ f. inl (less (s.stage q) (is_some (s.told q p)) f)) (λ a b _ f. inl f) x y e
    where
      less : (x : Stage) (b : Bool) → at_stage x false ≡ true → at_stage x b ≡ true
      less Live b e = refl
      less Frozen b e = refl
      less Dead b e = e
      less Collecting b e = absurd (cc)
  was-act (Arrives q p (Told i j k u f)) may = λ x y l n e. choose2 p q (λ a b t. at_stage (s.stage a) (is_some (if t then Some (with_page (s.told p q) k u f) else s.told a b)) ≡ true → (at_stage (s.stage a) (is_some (s.told a b)) ≡ true) ⊎ ((a ≡ p) × (b ≡ q)))
      (λ f. inr (refl, refl)) (λ a b _ f. inl f) x y e
  was-act (Recovers p k) may = either-way (nat_lt (s.world.saved p) k) _ _ (Was (Recovers p k)) (was-recovers p k may) (was-recovers p k may)
  was-act (Arrives zero p (Restored i j m r None f)) may = λ i j l n e. inl e
  was-act (Freezes p) may = was-stage (Freezes p) p Frozen (λ b _. let t = takes-is s p may.1 in rw t.0 refl)
  was-act (Thaws p) may = was-stage (Thaws p) p Live (λ b _. rw may.1 refl)
  was-act (Dies p) may = was-stage (Dies p) p Dead (λ b e. absurd (let z : false ≡ true = e in cc))
  was-act (Opens p n) may = λ i j l n e.
      let none : ℕ → Option Collected = λ _. None in
      choose p (λ i b. at_stage (if b then Collecting else s.stage i) (is_some ((if b then none else s.told i) j)) ≡ true → (at_stage (s.stage i) (is_some (s.told i j)) ≡ true) ⊎ ⊥) (λ f. absurd (let z : false ≡ true = f in cc)) (λ i _ f. inl f) i e
  was-act act may = λ i j l n e. inl e

  -- what it lost it lost before, while it isn't up
  abbrev Lost : Act → Cluster → Type 0
  Lost a d = (p q : ℕ) → has_told d p q ≡ true → is_well d p ≡ false → lost_after s.lost (Acts true a) p q ≡ false → (s.lost p q ≡ false) ⊎ IsPage a p q

  lost-act : (a : Act) → is_opening a ≡ false → May s a → Lost a (does s a)
  lost-act (Arrives q p (Restored i j m r (Some u) g)) n may = λ p q e w f. inl f
  lost-act (Arrives p zero (Delivery i ssn x)) n may = λ p q e w f. inl f
  lost-act (Arrives p q (Ask i k)) n may = λ x y e w f. choose2 q p (λ a b t. at_stage (s.stage a) (is_some (if t then None else s.told a b)) ≡ true → is_well s a ≡ false → (if t then false else s.lost a b) ≡ false → (s.lost a b ≡ false) ⊎ ⊥)
      (λ e w f. absurd (off e w)) (λ a b _ e w f. inl f) x y e w f
    where
      off : at_stage (s.stage q) false ≡ true → is_well s q ≡ false → ⊥
      off e w = elim may.1.1 [ inl t ↦ true-not-false (takes-well s q t) w | inr g ↦ true-not-false e (ap (λ x. at_stage x false) g) ]
  lost-act (Arrives q p (Told i j k u g)) n may = λ x y e w f. choose2 p q (λ a b t. (if t then false else s.lost a b) ≡ false → (s.lost a b ≡ false) ⊎ ((a ≡ p) × (b ≡ q))) (λ f. inr (refl, refl)) (λ a b _ f. inl f) x y f
  lost-act (Arrives zero p (Restored i j m r None g)) n may = λ p q e w f. inl f
  lost-act (Opens p n) m may = absurd (cc)
  lost-act act n may = λ p q e w f. inl f

  -- a page that is taken
  told-knows : (r t i j k : ℕ) (u : Option ℕ) (f : ℕ → Option Message) → Fine born s r t (Told i j k u f) → i ≡ s.stored t → On s (arrived s r t (Told i j k u f)) → Knows born (arrived s r t (Told i j k u f)) t r
  told-knows r t i j k u f g e o = elim (g.3 e) [ inl v ↦ inl (known-on born s (arrived s r t (Told i j k u f)) o t r v.0, put2-same s.heard t r j ∙ v.1) | inr l ↦ inr l ]

  page-knows : (a : Act) → May s a → On s (does s a) → (p q : ℕ) → IsPage a p q → Knows born (does s a) p q
  page-knows (Arrives r t (Told i j k u f)) may o p q g =
      let P : ℕ → Type 0 = λ x. Knows born (does s (Arrives r t (Told i j k u f))) x q in
      let Q : ℕ → Type 0 = λ y. Knows born (does s (Arrives r t (Told i j k u f))) t y in
      subst P (sym g.0) (subst Q (sym g.1) (told-knows r t i j k u f (fine r t (Told i j k u f) may.0).1 may.1.1 o))
  page-knows a may o p q g = absurd (g)

  page-later : (exact : Bool) (a : Act) → MayStep s (Acts exact a) → On s (does s a) → (p q : ℕ) → IsPage a p q → Later born (does s a) p q
  page-later exact (Arrives r t (Told i j k u f)) may o p q g =
      let P : ℕ → Type 0 = λ x. Later born (does s (Arrives r t (Told i j k u f))) x q in
      let Q : ℕ → Type 0 = λ y. Later born (does s (Arrives r t (Told i j k u f))) t y in
      let real : Real born s false r t (Told i j k u f) = h.said (flagged (parcel r t (Told i j k u f)) exact false) may.1 in
      subst P (sym g.0) (subst Q (sym g.1) (later-on born s (does s (Arrives r t (Told i j k u f))) o t r (real.1 may.0.0.1.1)))
  page-later exact a may o p q g = absurd (g)

  pub takes-aged : (exact : Bool) (a : Act) → is_opening a ≡ false → MayStep s (Acts exact a) → Aged born now (goes s (Acts exact a))
  takes-aged exact a n may =
      let o : On s (does s a) = on-act born s h.plain h.parcels a n may.0.0 in
      aged-on born now s (goes s (Acts exact a)) h o (plain-act born s h.plain h.parcels a n may.0.0) (under-act a may.0.0) (said-act exact a may.0.0)
      (λ p q l m e. elim (was-act a may.0.0 p q l m e) [ inl f ↦ inl f | inr g ↦ inr (page-knows a may.0.0 o p q g) ])
      (λ p q l m e w f. elim (lost-act a n may.0.0 p q e w f) [
        | inl v ↦ elim (was-act a may.0.0 p q l m e) [ inl u ↦ inl (u, v) | inr g ↦ inr (page-later exact a may o p q g) ]
        | inr g ↦ inr (page-later exact a may o p q g)
      ])

  pub meets-aged : (q p i k : ℕ) → Might s (Meets q p i k) → Aged born now (goes s (Meets q p i k))
  meets-aged q p i k may =
      aged-on born now s (goes s (Meets q p i k)) h (on-meets born s h.plain h.parcels q p i k may) (plain-meets born s h.plain h.parcels q p i k may)
      (λ a b y i. inl i) (λ y i. inl i) (λ a b l m e. inl e) (λ a b l m e w f. inl (e, f))

  -- an answer that all is lost
  pub loses-aged : (q p i j k : ℕ) → Might s (Loses q p i j k) → Aged born now (goes s (Loses q p i j k))
  loses-aged q p i j k may =
      let n : p ≢ q = (fine p q (Ask i k) may.0).0 in
      let a : s.heard q p ≤ s.stored p = h.plain.low q p in
      let b : i ≡ s.heard q p = may.1 in
      let e : j ≡ s.stored q = elim may.2 [ inl r ↦ r.1 ∙ h.plain.settled q (ap runs r.0.0) | inr r ↦ r.1 ] in
      aged-on born now s (goes s (Loses q p i j k)) h (on-self s h.plain.low) h.plain (λ a b y i. inl i)
      (one-said s (flagged (parcel q p (loss i j k)) false true) ((λ f. n (sym f)), ((omega arith), (omega arith), (0, λ m l g r. refl), λ g. inl (sym b ∙ g, e))))
      (λ a b l m e. inl e) (λ a b l m e w f. inl (e, f))

  -- and who takes it
  pub lacks-aged : (q p i j k : ℕ) → MayStep s (Lacks q p i j k) → Aged born now (goes s (Lacks q p i j k))
  lacks-aged q p i j k may =
      let r : Real born s true q p (loss i j k) = h.said (flagged (parcel q p (loss i j k)) false true) may.1 in
      let page : Option Collected = Some (with_page (s.told p q) k None (λ _. None)) in
      let d : Cluster = arrived s q p (loss i j k) in
      let o : On s (arrived s q p (loss i j k)) = on-takes born s h.plain h.parcels q p (loss i j k) r.1 may.0.1 in
      aged-on born now s (goes s (Lacks q p i j k)) h o (plain-takes born s h.plain h.parcels q p (loss i j k) r.0 r.1 may.0.1) (λ a b y i. inl i) (λ y i. inl i)
      (λ a b l m. choose2 p q (λ a b t. at_stage (s.stage a) (is_some (if t then page else s.told a b)) ≡ true → (has_told s a b ≡ true) ⊎ Knows born d a b)
      (λ _. inr (told-knows q p i j k None (λ _. None) r.1 may.0.1.1 o)) (λ a b _ e. inl e) a b)
      (λ a b l m e w. choose2 p q (λ a b t. at_stage (s.stage a) (is_some (if t then page else s.told a b)) ≡ true → (if t then true else s.lost a b) ≡ false → ((has_told s a b ≡ true) × (s.lost a b ≡ false)) ⊎ Later born d a b)
      (λ _ f. absurd (true-not-false refl f)) (λ a b _ e f. inl (e, f)) a b e)

  pub leaves-aged : (p q : ℕ) → Might s (Leaves p q) → Aged born now (goes s (Leaves p q))
  leaves-aged p q may =
      aged-on born now s (goes s (Leaves p q)) h (on-leaves born s h.plain h.parcels p q may) (plain-leaves born s h.plain h.parcels p q may)
      (λ a b y i. inl i) (λ y i. inl i) (λ a b l m e. inl e)
      (λ a b l m e w f. inl (e, f))

  -- a page that is cut speaks of no more
  cut-fine : (q p : ℕ) (x : Body) → Fine born s q p x → Fine born s q p (cut s p q x)
  cut-fine q p (Restored i j n r u f) g = g
  cut-fine q p x g = g

  -- and no packet and no answer is new by it
  none-new : (q p : ℕ) (x : Body) → IsRestored x → ((arrived s q p (cut s p q x)).parcels ≡ s.parcels) × ((a b : ℕ) → has_told (arrived s q p (cut s p q x)) a b ≡ has_told s a b)
  none-new q p (Restored i j n r (Some u) f) is = (refl, λ a b. refl)
  none-new zero p (Restored i j n r None f) is = (refl, λ a b. refl)
  none-new (suc q) p (Restored i j n r None f) is = (refl, λ a b. refl)
  none-new q p x is = absurd (is)

  pub doubts-aged : (q p : ℕ) (x : Body) → Might s (Doubts q p x) → Aged born now (goes s (Doubts q p x))
  doubts-aged q p x may =
      let f = fine q p x may.1 in
      let g : Fine born s q p (cut s p q x) = cut-fine q p x f.1 in
      let t : MayTake s q p (cut s p q x) = cut-taken s q p x may.2 in
      let same = none-new q p x may.0 in
      aged-on born now s (goes s (Doubts q p x)) h (on-takes born s h.plain h.parcels q p (cut s p q x) g t) (plain-takes born s h.plain h.parcels q p (cut s p q x) f.0 g t)
      (λ a b y i. inl (let P : List Parcel → Type 0 = λ ps. In (parcel a b y) ps in subst P same.0 i)) (λ y i. inl i) (λ a b l m e. inl (sym (same.1 a b) ∙ e))
      (λ a b l m e w f. inl (sym (same.1 a b) ∙ e, f))
