-- And so does a node that is opened, whose life is the latest; and the opening of a cluster
use Rattle.std.proofs.Common.{◌≡◌, ◌≢◌, inl, inr, ℕ, suc, ◌+◌, ◌<◌, ◌≤◌, List, [], ◌∷◌, Bool, true, false, refl, sym, ap, ◌∙◌, subst, arith}
use Rattle.std.specs.Prelude.{◌⊎◌, Option, None, ◌==◌, ◌&&◌, if◌then◌else◌}
use Rattle.std.proofs.lemmas.Bool.Decides.{nat_tests}
use Rattle.world.specs.Handlers.{Handlers}
use Rattle.world.specs.Phases.{is_up}
use Rattle.world.specs.World.{put}
use Rattle.theorems.proofs.Changes.{choose, at-itself}
use Rattle.cluster.specs.Parcels.{Body, Ask, Told, Restored}
use Rattle.cluster.specs.Cluster.{Collecting, Collected, runs, is_well, Cluster, durable_opening}
use Rattle.cluster.specs.Rules.{Opens, May, does}
use Rattle.cluster.proofs.Facts.{true-not-false}
use Rattle.cluster.specs.Overlap.{Event, Acts, Meets, Loses, Lacks, Leaves, Doubts, goes, after_events}
use Rattle.cluster.specs.Exact.{MayStep, Steps}
use Rattle.cluster.proofs.Ages.{IsEnding, Plain, is_some, at_stage, has_told, Knows, Later, Fine, Real, Aged}
use Rattle.cluster.proofs.DurableTurns.{put-other, opens}
use Rattle.cluster.proofs.Age.{takes-aged, meets-aged, loses-aged, lacks-aged, leaves-aged, doubts-aged}

pub put-same : {X : Type 0} (f : ℕ → X) (p : ℕ) (x : X) → put f p x p ≡ x
put-same f p x = at-itself p (λ b. (if b then x else f p) ≡ x) refl

module _ (born : ℕ → ℕ) (now : ℕ) (s : Cluster) (h : Aged born now s) (r n : ℕ) (may : May s (Opens r n)) where
  newest : (p : ℕ) → p ≢ r → put born r (suc now) p < put born r (suc now) r
  newest p m = let a : born p ≤ now = h.past p in let b : put born r (suc now) p ≡ born p = put-other born r (suc now) p m in let e : put born r (suc now) r ≡ suc now = put-same born r (suc now) in omega arith

  stored-r : (does s (Opens r n)).stored r ≡ suc (n + s.stored r)
  stored-r = put-same s.stored r (suc (n + s.stored r))

  more : (p : ℕ) → s.stored p ≤ (does s (Opens r n)).stored p
  more = choose r (λ j b. s.stored j ≤ (if b then suc (n + s.stored r) else s.stored j)) (omega arith) (λ j _. omega arith)

  plain : Plain (does s (Opens r n))
  plain =
      let none : ℕ → Option Collected = λ _. None in
      let gate : 0 ≢ r = (λ e. let l : 0 < r = may.0.0 in omega arith) in
      record {
        low = λ a b. choose r (λ j t. (if t then (λ (q : ℕ). if q == 0 then 1 else 0) else s.heard j) b ≤ (does s (Opens r n)).stored b)
            (let x : (if b == 0 then 1 else 0) ≤ s.stored b = one b (b == 0) refl in let y : s.stored b ≤ (does s (Opens r n)).stored b = more b in omega arith)
            (λ j _. let x : s.heard j b ≤ s.stored b = h.plain.low j b in let y : s.stored b ≤ (does s (Opens r n)).stored b = more b in omega arith) a;
        begun = let x : 0 < s.stored 0 = h.plain.begun in let y : s.stored 0 ≤ (does s (Opens r n)).stored 0 = more 0 in omega arith;
        settled = choose r (λ j b. runs (if b then Collecting else s.stage j) ≡ true → s.world.incarnation j ≡ (if b then suc (n + s.stored r) else s.stored j)) (λ e. absurd (let z : false ≡ true = e in cc)) (λ j _. h.plain.settled j);
        gateway = (put-other s.stage r Collecting 0 gate ∙ h.plain.gateway.0, h.plain.gateway.1, h.plain.gateway.2);
        sound = h.plain.sound;
        todo = h.plain.todo;
        within = h.plain.within;
        ends = λ j q. choose r (λ j b. IsEnding ((if b then none else s.told j) q)) tt (λ j _. h.plain.ends j q) j;
        own = choose r (λ j b. (if b then none else s.told j) j ≡ None) refl (λ j _. h.plain.own j);
      }
    where
      one : (x : ℕ) (t : Bool) → (x == 0) ≡ t → (if t then 1 else 0) ≤ s.stored x
      one x true e = let same : 0 ≡ x = grind (arith, nat_tests) in let P : ℕ → Type 0 = λ i. 1 ≤ s.stored i in let m : 0 < s.stored 0 = h.plain.begun in subst P same (let k : 1 ≤ s.stored 0 = omega arith in k)
      one x false e = omega arith

  -- of two others all is as before
  stored-same : (p : ℕ) → p ≢ r → (does s (Opens r n)).stored p ≡ s.stored p
  stored-same p m = put-other s.stored r (suc (n + s.stored r)) p m

  heard-same : (p q : ℕ) → p ≢ r → (does s (Opens r n)).heard p q ≡ s.heard p q
  heard-same p q m = ap (λ (f : ℕ → ℕ). f q) (put-other s.heard r (λ q. if q == 0 then 1 else 0) p m)

  less-same : (p q : ℕ) → p ≢ r → q ≢ r → born p < born q → put born r (suc now) p < put born r (suc now) q
  less-same p q m o l = let a : put born r (suc now) p ≡ born p = put-other born r (suc now) p m in let b : put born r (suc now) q ≡ born q = put-other born r (suc now) q o in omega arith

  known-same : (p q : ℕ) → p ≢ r → q ≢ r → s.heard q p ≡ s.stored p → (does s (Opens r n)).heard q p ≡ (does s (Opens r n)).stored p
  known-same p q m o e = heard-same q p o ∙ e ∙ sym (stored-same p m)

  -- the life that a packet of before is for isn't r's
  not-now : (i q : ℕ) → i ≤ s.stored q → i ≡ (does s (Opens r n)).stored q → q ≢ r
  not-now i q l e f =
      let P : ℕ → Type 0 = λ x. (i ≤ s.stored x) × (i ≡ (does s (Opens r n)).stored x) in
      let t = subst P f (l, e) in
      let a : i ≤ s.stored r = t.0 in
      let b : i ≡ (does s (Opens r n)).stored r = t.1 in
      let g : (does s (Opens r n)).stored r ≡ suc (n + s.stored r) = stored-r in
      omega arith

  later-same : (p q : ℕ) → p ≢ r → Later born s p q → Later (put born r (suc now)) (does s (Opens r n)) p q
  later-same p q m = choose r (λ q _. Later born s p q → Later (put born r (suc now)) (does s (Opens r n)) p q) (λ _. inr (inr (newest p m))) (λ q o l. elim l [
    | inl w ↦ inl (let e : put s.stage r Collecting q ≡ s.stage q = put-other s.stage r Collecting q o in rw e w)
    | inr k ↦ elim k [ inl e ↦ inr (inl (put-other s.stage r Collecting q o ∙ e)) | inr l ↦ inr (inr (less-same p q m o l)) ]
  ]) q

  fine-same : (p q : ℕ) (x : Body) → Fine born s p q x → Fine (put born r (suc now)) (does s (Opens r n)) p q x
  fine-same p q (Ask i k) f = let a : s.stored p ≤ (does s (Opens r n)).stored p = more p in let l : i ≤ s.stored p = f.1 in (f.0, omega arith)
  fine-same p q (Told i j k u g) f =
      let a : s.stored p ≤ (does s (Opens r n)).stored p = more p in
      let b : s.stored q ≤ (does s (Opens r n)).stored q = more q in
      let l : i ≤ s.stored q = f.0 in
      let m : j ≤ s.stored p = f.1 in (
        (omega arith),
        (omega arith),
        f.2,
        λ e.
            let o : q ≢ r = not-now i q l e in
            choose r (λ p _. ((s.heard p q ≡ s.stored q) × (j ≡ s.stored p)) ⊎ (born q < born p) → (((does s (Opens r n)).heard p q ≡ (does s (Opens r n)).stored q) × (j ≡ (does s (Opens r n)).stored p)) ⊎ (put born r (suc now) q < put born r (suc now) p))
            (λ _. inr (newest q o)) (λ p z k. elim k [ inl v ↦ inl (known-same q p o z v.0, v.1 ∙ sym (stored-same p z)) | inr v ↦ inr (less-same q p o z v) ]) p (f.3 (e ∙ stored-same q o)),
      )
  fine-same p q (Restored i j m t u g) f = let a : s.stored p ≤ (does s (Opens r n)).stored p = more p in let l : j ≤ s.stored p = f in omega arith
  fine-same p q other f = tt

  real-same : (lost : Bool) (p q : ℕ) (x : Body) → Real born s lost p q x → Real (put born r (suc now)) (does s (Opens r n)) lost p q x
  real-same true p q x f = (f.0, fine-same p q x f.1)
  real-same false p q (Told i j k u g) f =
      let b : s.stored q ≤ (does s (Opens r n)).stored q = more q in
      let l : i ≤ s.stored q = f.0 in
      ((omega arith), λ e. let o : q ≢ r = not-now i q l e in later-same q p o (f.1 (e ∙ stored-same q o)))
  real-same false p q other f = tt

  -- whoever has an answer isn't r
  told-before : (p q : ℕ) → has_told (does s (Opens r n)) p q ≡ true → (p ≢ r) × (has_told s p q ≡ true)
  told-before p q = choose r (λ p _. has_told (does s (Opens r n)) p q ≡ true → (p ≢ r) × (has_told s p q ≡ true))
      (λ e.
      let none : ℕ → Option Collected = λ _. None in
      absurd (true-not-false e (at-itself r (λ b. at_stage (if b then Collecting else s.stage r) (is_some ((if b then none else s.told r) q)) ≡ false) refl)))
      (λ p m e.
      let none : ℕ → Option Collected = λ _. None in
      let a : put s.stage r Collecting p ≡ s.stage p = put-other s.stage r Collecting p m in
      let b : put s.told r none p ≡ s.told p = put-other s.told r none p m in
      (m, sym (ap (λ x. at_stage x (is_some (s.told p q))) a) ∙ sym (ap (λ (x : ℕ → Option Collected). at_stage (put s.stage r Collecting p) (is_some (x q))) b) ∙ e)) p

  pub opens-aged : (exact : Bool) → Aged (put born r (suc now)) (suc now) (goes s (Acts exact (Opens r n)))
  opens-aged exact =
      record {
        past = choose r (λ j b. (if b then suc now else born j) ≤ suc now) (omega arith) (λ j _. let a : born j ≤ now = h.past j in omega arith);
        plain = plain;
        parcels = λ p q x i. let f = h.parcels p q x i in (f.0, fine-same p q x f.1);
        said = λ y i. real-same y.lost y.packet.from y.packet.to y.packet.body (h.said y i);
        knows = λ p q l m e. let t = told-before p q e in choose r (λ q _. q ≤ s.world.count → p ≢ q → has_told s p q ≡ true → Knows (put born r (suc now)) (does s (Opens r n)) p q) (λ _ _ _. inr (newest p t.0))
            (λ q z l m u. elim (h.knows p q l m u) [ inl v ↦ inl (known-same p q t.0 z v.0, known-same q p z t.0 v.1) | inr v ↦ inr (less-same p q t.0 z v) ]) q l m t.1;
        later = λ p q l m e w f.
            let t = told-before p q e in
            let g : put s.stage r Collecting p ≡ s.stage p = put-other s.stage r Collecting p t.0 in
            let u : is_well s p ≡ false = sym (ap (λ x. runs x && (s.greeted p && is_up (s.world.phase p))) g) ∙ w in
            let none : ℕ → Bool = λ _. false in
            let v : s.lost p q ≡ false = sym (ap (λ (x : ℕ → Bool). x q) (put-other s.lost r none p t.0)) ∙ f in
            later-same p q t.0 (h.later p q l m t.1 u v);
      }

pub step-aged : (born : ℕ → ℕ) (now : ℕ) (s : Cluster) (x : Event) → opens x ≡ false → Aged born now s → MayStep s x → Aged born now (goes s x)
step-aged born now s (Acts exact a) n h may = takes-aged born now s h exact a n may
step-aged born now s (Meets q p i k) n h may = meets-aged born now s h q p i k may.0
step-aged born now s (Loses q p i j k) n h may = loses-aged born now s h q p i j k may.0
step-aged born now s (Lacks q p i j k) n h may = lacks-aged born now s h q p i j k may
step-aged born now s (Leaves p q) n h may = leaves-aged born now s h p q may.0
step-aged born now s (Doubts q p x) n h may = doubts-aged born now s h q p x may.0

-- at some time, with lives that began at some time
abbrev pub Orderly : Cluster → Type 0
Orderly s = (born : ℕ → ℕ) × (now : ℕ) × Aged born now s

pub orderly-step : (s : Cluster) (x : Event) → Orderly s → MayStep s x → Orderly (goes s x)
orderly-step s (Acts exact (Opens r n)) h may = (put h.0 r (suc h.1), suc h.1, opens-aged h.0 h.1 s h.2 r n may.0.0 exact)
orderly-step s x h may = (h.0, h.1, step-aged h.0 h.1 s x refl h.2 may)

starts-orderly : (n : ℕ) (f : Handlers) (durable : ℕ → Bool) → Orderly (durable_opening n f durable)
starts-orderly n f durable = (
  (λ _. 0),
  0,
  record {
    past = λ p. omega arith;
    plain = record {
      low = λ q p. omega arith;
      begun = omega arith;
      settled = λ p _. refl;
      gateway = (refl, refl, refl);
      sound = λ p. tt;
      todo = λ p q e. absurd (let z : false ≡ true = e in cc);
      within = λ p. omega arith;
      ends = λ p q. tt;
      own = λ p. refl;
    };
    parcels = λ p d x i. absurd (i);
    said = λ y i. absurd (i);
    knows = λ p q l m e. inl (refl, refl);
    later = λ p q l m e w f. absurd (let z : true ≡ false = w in cc);
  },
)

run-orderly : (s : Cluster) (es : List Event) → Orderly s → Steps s es → Orderly (after_events s es)
run-orderly s [] h r = h
run-orderly s (e ∷ es) h r = run-orderly (goes s e) es (orderly-step s e h r.0) r.1

pub always-orderly : (n : ℕ) (f : Handlers) (durable : ℕ → Bool) (es : List Event) → Steps (durable_opening n f durable) es → Orderly (after_events (durable_opening n f durable) es)
always-orderly n f durable es r = run-orderly (durable_opening n f durable) es (starts-orderly n f durable) r
