-- What the way back of nodes rests on, along each run of the whole rules: which of two lives began later
use Rattle.std.proofs.Common.{◌≡◌, ◌≢◌, inl, inr, ℕ, ◌<◌, ◌≤◌, length, Bool, true, false, refl, sym, ap, ◌∙◌, subst, arith}
use Rattle.std.specs.Prelude.{◌⊎◌, [], ◌∷◌, Option, Some, None}
use Rattle.world.specs.declared.message.Message.{Message}
use Rattle.world.specs.Phases.{Phase, Up, Down, Replaying, Resync, is_up}
use Rattle.cluster.specs.Parcels.{Body, Ask, Told, Restored, parcel, In, reaches, Flagged, Said}
use Rattle.cluster.specs.Cluster.{Stage, Live, Dead, Collecting, Collected, Cluster, runs, is_well}
use Rattle.cluster.specs.Rules.{IsNode}
use Rattle.cluster.proofs.Facts.{is-well, true-not-false}
use Rattle.cluster.proofs.Sane.{Low, Todo}

-- a phase that a node is in
abbrev pub IsSound : Phase → Type 0
IsSound Down = ⊥
IsSound (Replaying j w a) = (w ≡ false) × (a ≡ false)
IsSound (Resync []) = ⊥
IsSound (Resync (q ∷ qs)) = Unit {0}
IsSound other = Unit {0}

-- behind some number a page of those above k has no entry
abbrev pub Ends : ℕ → Option ℕ → (ℕ → Option Message) → Type 0
Ends k u f = (b : ℕ) × ((m : ℕ) → b < m → k < m → reaches u m ≡ true → f m ≡ None)

abbrev pub IsEnding : Option Collected → Type 0
IsEnding None = Unit {0}
IsEnding (Some t) = (b : ℕ) × ((m : ℕ) → b < m → reaches t.upto m ≡ true → t.entries m ≡ None)

-- what each node has, whatever the others do
abbrev pub Plain : Cluster → Type 0
Plain c =
    record {
      low : Low c;
      begun : 0 < c.stored 0;
      settled : (p : ℕ) → runs (c.stage p) ≡ true → c.world.incarnation p ≡ c.stored p;
      gateway : (c.stage 0 ≡ Live) × (c.greeted 0 ≡ true) × (c.world.phase 0 ≡ Up);
      sound : (p : ℕ) → IsSound (c.world.phase p);
      todo : Todo c;
      within : (p : ℕ) → c.world.saved p ≤ length (c.world.history p);
      ends : (p q : ℕ) → IsEnding (c.told p q);
      own : (p : ℕ) → c.told p p ≡ None;
    }

-- the gateway is up
pub un-gate : (c : Cluster) → Plain c → (p : ℕ) → is_well c p ≡ false → 0 ≢ p
un-gate c h p w e =
    let P : ℕ → Type 0 = λ i. is_well c i ≡ false in
    true-not-false (is-well c 0 (ap runs h.gateway.0) h.gateway.1 (ap is_up h.gateway.2)) (subst P (sym e) w)

-- where none is opened: incarnations stay, more was heard, those that were up are so or dead, and the dead are
abbrev pub On : Cluster → Cluster → Type 0
On c d =
    record {
      count : d.world.count ≡ c.world.count;
      stored : (p : ℕ) → d.stored p ≡ c.stored p;
      heard : (p q : ℕ) → c.heard p q ≤ d.heard p q;
      low : Low d;
      well : (p : ℕ) → is_well c p ≡ true → (is_well d p ≡ true) ⊎ (d.stage p ≡ Dead);
      dead : (p : ℕ) → c.stage p ≡ Dead → d.stage p ≡ Dead;
    }

-- where nothing happens
pub on-self : (c : Cluster) → Low c → On c c
on-self c low = record { count = refl; stored = λ p. refl; heard = λ p q. omega arith; low = low; well = λ p w. inl w; dead = λ p e. e }

abbrev pub is_some : Option Collected → Bool
is_some None = false
is_some (Some t) = true

abbrev pub at_stage : Stage → Bool → Bool
at_stage Dead b = false
at_stage Collecting b = b
at_stage other b = true

-- p has an answer of q in its present life: it collects and has a page of it, or has collected
abbrev pub has_told : Cluster → ℕ → ℕ → Bool
has_told c p q = at_stage (c.stage p) (is_some (c.told p q))

-- by the time at which each node's life began
module _ (born : ℕ → ℕ) where
  -- p has heard of q's life, and q of p's; or q's began after p's
  abbrev pub Knows : Cluster → ℕ → ℕ → Type 0
  Knows c p q = ((c.heard q p ≡ c.stored p) × (c.heard p q ≡ c.stored q)) ⊎ (born p < born q)

  -- q is up, or dead, or its life began after p's
  abbrev pub Later : Cluster → ℕ → ℕ → Type 0
  Later c p q = (is_well c q ≡ true) ⊎ ((c.stage q ≡ Dead) ⊎ (born p < born q))

  -- what packets of p to d speak of
  abbrev pub Fine : Cluster → ℕ → ℕ → Body → Type 0
  Fine c p d (Ask i k) = IsNode c p × (i ≤ c.stored p)
  Fine c p d (Told i j k u f) = (i ≤ c.stored d) × (j ≤ c.stored p) × Ends k u f × (i ≡ c.stored d → ((c.heard p d ≡ c.stored d) × (j ≡ c.stored p)) ⊎ (born d < born p))
  Fine c p d (Restored i j n s u f) = j ≤ c.stored p
  Fine c p d other = Unit {0}

  -- what is said of them: an answer that all is lost is of another, and speaks so too; a Told in which nothing is lost is of one that was
  -- up in its receiver's life
  abbrev pub Real : Cluster → Bool → ℕ → ℕ → Body → Type 0
  Real c true p d x = (p ≢ d) × Fine c p d x
  Real c false p d (Told i j k u f) = (i ≤ c.stored d) × (i ≡ c.stored d → Later c d p)
  Real c false p d other = Unit {0}

  -- as of this time
  pub record Aged (now : ℕ) (s : Cluster) : Type 0 where
    pub past : (p : ℕ) → born p ≤ now
    pub plain : Plain s
    pub parcels : (p d : ℕ) (x : Body) → In (parcel p d x) s.parcels → (p ≢ d) × Fine s p d x
    pub said : (y : Flagged) → Said y s.said → Real s y.lost y.packet.from y.packet.to y.packet.body
    pub knows : (p q : ℕ) → q ≤ s.world.count → p ≢ q → has_told s p q ≡ true → Knows s p q
    -- of those that p asked and has no loss of, while it isn't up
    pub later : (p q : ℕ) → q ≤ s.world.count → p ≢ q → has_told s p q ≡ true → is_well s p ≡ false → s.lost p q ≡ false → Later s p q

  module _ (c d : Cluster) (o : On c d) where
    pub known-on : (p q : ℕ) → c.heard q p ≡ c.stored p → d.heard q p ≡ d.stored p
    known-on p q e = let a : d.stored p ≡ c.stored p = o.stored p in let b : c.heard q p ≤ d.heard q p = o.heard q p in let l : d.heard q p ≤ d.stored p = o.low q p in omega arith

    pub knows-on : (p q : ℕ) → Knows c p q → Knows d p q
    knows-on p q k = elim k [ inl e ↦ inl (known-on p q e.0, known-on q p e.1) | inr l ↦ inr l ]

    pub later-on : (p q : ℕ) → Later c p q → Later d p q
    later-on p q k = elim k [ inl w ↦ elim (o.well q w) [ inl v ↦ inl v | inr e ↦ inr (inl e) ] | inr r ↦ elim r [ inl e ↦ inr (inl (o.dead q e)) | inr l ↦ inr (inr l) ] ]

    pub fine-on : (p q : ℕ) (x : Body) → Fine c p q x → Fine d p q x
    fine-on p q (Ask i k) f =
        let a : d.stored p ≡ c.stored p = o.stored p in
        let n : d.world.count ≡ c.world.count = o.count in
        let b : p ≤ c.world.count = f.0.1 in
        let l : i ≤ c.stored p = f.1 in
        ((f.0.0, omega arith), omega arith)
    fine-on p q (Told i j k u g) f =
        let a : d.stored p ≡ c.stored p = o.stored p in
        let b : d.stored q ≡ c.stored q = o.stored q in
        let l : i ≤ c.stored q = f.0 in
        let m : j ≤ c.stored p = f.1 in
        ((omega arith), (omega arith), f.2, λ e. elim (f.3 (e ∙ b)) [ inl h ↦ inl (known-on q p h.0, h.1 ∙ sym a) | inr h ↦ inr h ])
    fine-on p q (Restored i j n s u g) f = let a : d.stored p ≡ c.stored p = o.stored p in let l : j ≤ c.stored p = f in omega arith
    fine-on p q other f = tt

    pub real-on : (lost : Bool) (p q : ℕ) (x : Body) → Real c lost p q x → Real d lost p q x
    real-on true p q x f = (f.0, fine-on p q x f.1)
    real-on false p q (Told i j k u g) f =
        let b : d.stored q ≡ c.stored q = o.stored q in
        let l : i ≤ c.stored q = f.0 in
        ((omega arith), λ e. later-on q p (f.1 (e ∙ b)))
    real-on false p q other f = tt

  -- so all of it goes on, with what is new
  pub aged-on : (now : ℕ) (s t : Cluster) → Aged now s → On s t → Plain t
      → ((p d : ℕ) (x : Body) → In (parcel p d x) t.parcels → In (parcel p d x) s.parcels ⊎ ((p ≢ d) × Fine t p d x))
      → ((y : Flagged) → Said y t.said → Said y s.said ⊎ Real t y.lost y.packet.from y.packet.to y.packet.body)
      → ((p q : ℕ) → q ≤ s.world.count → p ≢ q → has_told t p q ≡ true → (has_told s p q ≡ true) ⊎ Knows t p q)
      → ((p q : ℕ) → q ≤ s.world.count → p ≢ q → has_told t p q ≡ true → is_well t p ≡ false → t.lost p q ≡ false → ((has_told s p q ≡ true) × (s.lost p q ≡ false)) ⊎ Later t p q)
      → Aged now t
  aged-on now s t h o plain parcels said knows later =
      record {
        past = h.past;
        plain = plain;
        parcels = λ p d x i. elim (parcels p d x i) [ inl e ↦ let f = h.parcels p d x e in (f.0, fine-on s t o p d x f.1) | inr f ↦ f ];
        said = λ y i. elim (said y i) [ inl f ↦ real-on s t o y.lost y.packet.from y.packet.to y.packet.body (h.said y f) | inr f ↦ f ];
        knows = λ p q l n e. let m : q ≤ s.world.count = (let c : t.world.count ≡ s.world.count = o.count in omega arith) in elim (knows p q m n e) [ inl f ↦ knows-on s t o p q (h.knows p q m n f) | inr f ↦ f ];
        later = λ p q l n e w f.
            let m : q ≤ s.world.count = (let c : t.world.count ≡ s.world.count = o.count in omega arith) in
            elim (later p q m n e w f) [ inl g ↦ later-on s t o p q (h.later p q m n g.0 (un p q e w) g.1) | inr g ↦ g ];
      }
    where
      un : (p q : ℕ) → has_told t p q ≡ true → is_well t p ≡ false → is_well s p ≡ false
      un p q e w = split (is_well s p) refl
        where
          split : (b : Bool) → is_well s p ≡ b → is_well s p ≡ false
          split false f = f
          split true f = elim (o.well p f) [ inl v ↦ absurd (cc) | inr d ↦ absurd (let z : false ≡ true = sym (ap (λ x. at_stage x (is_some (t.told p q))) d) ∙ e in cc) ]
