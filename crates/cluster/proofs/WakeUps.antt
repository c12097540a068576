-- Nodes that are down are opened, those that are frozen thaw, and those that work on a message finish it
use Rattle.std.proofs.Common.{◌≡◌, ◌≢◌, inl, inr, ℕ, zero, suc, ◌<◌, ◌≤◌, List, [], ◌∷◌, Bool, true, false, refl, sym, ap, ◌∙◌, arith}
use Rattle.std.specs.Prelude.{◌⊎◌}
use Rattle.world.specs.Phases.{Phase, Up, Busy, Down, Replaying, Resync, is_up}
use Rattle.theorems.proofs.Changes.{choose}
use Rattle.cluster.specs.Cluster.{Stage, Live, Frozen, Dead, Collecting, Cluster, is_well}
use Rattle.cluster.specs.Rules.{Works, Keeps, Thaws, Opens, IsNode}
use Rattle.cluster.proofs.Facts.{well-is, true-not-false}
use Rattle.cluster.specs.Overlap.{Event, Acts, goes, after_events}
use Rattle.cluster.specs.Exact.{MayStep, Steps}
use Rattle.cluster.specs.Return.{is_quiet}
use Rattle.cluster.proofs.DurableTurns.{put-other}
use Rattle.cluster.proofs.Births.{put-same, Orderly, orderly-step}

-- all but p are up
abbrev pub AllBut : ℕ → Cluster → Type 0
AllBut p c = (q : ℕ) → q ≤ c.world.count → q ≢ p → is_well c q ≡ true

abbrev pub is_act : Event → Bool
is_act (Acts exact a) = true
is_act e = false

-- quiet events, which are acts while all but one are up
abbrev pub Calm : Cluster → List Event → Type 0
Calm s [] = Unit {0}
Calm s (e ∷ es) = ((is_quiet e ≡ true) × ((p : ℕ) → AllBut p s → is_act e ≡ true)) × Calm (goes s e) es

-- by such events the nodes can go on to where this holds
abbrev pub Goes : Cluster → (Cluster → Type 0) → Type 0
Goes s P = (es : List Event) × Steps s es × Calm s es × P (after_events s es)

-- not so with two that aren't up
pub two-down : (c : Cluster) (p q r : ℕ) → q ≢ p → p ≤ c.world.count → q ≤ c.world.count → is_well c p ≡ false → is_well c q ≡ false → AllBut r c → ⊥
two-down c p q r ne a b v w o = choose r (λ j _. q ≢ j → is_well c j ≡ false → j ≤ c.world.count → ⊥) (λ n _ _. true-not-false (o q b n) w) (λ j n _ x l. true-not-false (o j l n) x) p ne v a

-- one event more, and one way behind another
pub go-first : (s : Cluster) (P : Cluster → Type 0) (x : Event) → MayStep s x → (is_quiet x ≡ true) × ((p : ℕ) → AllBut p s → is_act x ≡ true) → Goes (goes s x) P → Goes s P
go-first s P x may calm r = (x ∷ r.0, (may, r.1), (calm, r.2), r.3)

-- and the last one
pub go-last : (s : Cluster) (P : Cluster → Type 0) (x : Event) → MayStep s x → (is_quiet x ≡ true) × ((p : ℕ) → AllBut p s → is_act x ≡ true) → P (goes s x) → Goes s P
go-last s P x may calm h = go-first s P x may calm ([], tt, tt, h)

pub go-on : (s : Cluster) (P Q : Cluster → Type 0) → Goes s P → ((t : Cluster) → P t → Goes t Q) → Goes s Q
go-on s P Q r more = along r.0 s r.1 r.2 r.3
  where
    along : (xs : List Event) (s : Cluster) → Steps s xs → Calm s xs → P (after_events s xs) → Goes s Q
    along [] s a b p = more s p
    along (x ∷ xs) s a b p = let u = along xs (goes s x) a.1 b.1 p in (x ∷ u.0, (a.0, u.1), (b.0, u.2), u.3)

-- it runs, and where it is up it waits for messages
abbrev pub IsAwake : Cluster → ℕ → Type 0
IsAwake c q = (c.stage q ≡ Live) × (is_well c q ≡ true → c.world.phase q ≡ Up)

-- or it collects
abbrev pub IsReady : Cluster → ℕ → Type 0
IsReady c q = (c.stage q ≡ Collecting) ⊎ IsAwake c q

-- of this node all is as before
abbrev pub IsSame : Cluster → Cluster → ℕ → Type 0
IsSame c d r = (d.stage r ≡ c.stage r) × (d.greeted r ≡ c.greeted r) × (d.world.phase r ≡ c.world.phase r)

pub same-ready : (c d : Cluster) (r : ℕ) → IsSame c d r → IsReady c r → IsReady d r
same-ready c d r k h = elim h [ inl e ↦ inl (k.0 ∙ e) | inr a ↦ inr (k.0 ∙ a.0, λ w. k.2 ∙ a.1 (rw (sym k.0, sym k.1, sym k.2) w)) ]

-- one node is ready, and all is as before of the others
pub record Roused (q : ℕ) (s t : Cluster) : Type 0 where
  pub orderly : Orderly t
  pub count : t.world.count ≡ s.world.count
  pub ready : IsReady t q
  pub others : (r : ℕ) → r ≢ q → IsSame s t r

module _ (q : ℕ) where
  awake : (s : Cluster) → Orderly s → IsNode s q → s.stage q ≡ Live → Goes s (Roused q s)
  awake s h node live = split (s.greeted q) refl (s.world.phase q) refl
    where
      stays : IsReady s q → Goes s (Roused q s)
      stays r = ([], tt, tt, record { orderly = h; count = refl; ready = r; others = λ r _. (refl, refl, refl) })

      split : (g : Bool) → s.greeted q ≡ g → (x : Phase) → s.world.phase q ≡ x → Goes s (Roused q s)
      split false g x e = stays (inr (live, λ w. absurd (true-not-false (well-is s q w).1 g)))
      split true g Up e = stays (inr (live, λ _. e))
      split true g (Busy m) e =
          let may : MayStep s (Acts true (Works q m)) = (((node, (rw (live, g, e) refl), e), tt), tt) in
          go-last s (Roused q s) (Acts true (Works q m)) may (refl, λ _ _. refl) (record {
            orderly = orderly-step s (Acts true (Works q m)) h may;
            count = refl;
            ready = inr (live, λ _. put-same s.world.phase q Up);
            others = λ r n. (refl, refl, put-other s.world.phase q Up r n);
          })
      split true g Down e = stays (inr (live, λ w. absurd (true-not-false (well-is s q w).2 (ap is_up e))))
      split true g (Replaying j v a) e = stays (inr (live, λ w. absurd (true-not-false (well-is s q w).2 (ap is_up e))))
      split true g (Resync rs) e = stays (inr (live, λ w. absurd (true-not-false (well-is s q w).2 (ap is_up e))))

  rouse : (s : Cluster) → Orderly s → IsNode s q → Goes s (Roused q s)
  rouse s h node = split (s.stage q) refl
    where
      split : (x : Stage) → s.stage q ≡ x → Goes s (Roused q s)
      split Live e = awake s h node e
      split Collecting e = ([], tt, tt, record { orderly = h; count = refl; ready = inl e; others = λ r _. (refl, refl, refl) })
      split Dead e =
          let may : MayStep s (Acts true (Opens q 0)) = (((node, e), tt), tt) in
          go-last s (Roused q s) (Acts true (Opens q 0)) may (refl, λ _ _. refl) (record {
            orderly = orderly-step s (Acts true (Opens q 0)) h may;
            count = refl;
            ready = inl (put-same s.stage q Collecting);
            others = λ r n. (put-other s.stage q Collecting r n, refl, refl);
          })
      split Frozen e =
          let may : MayStep s (Acts true (Keeps q)) = (((node, e), tt), tt) in
          let thaws : MayStep (goes s (Acts true (Keeps q))) (Acts true (Thaws q)) = (((node, e, put-same s.world.saved q _), tt), tt) in
          let g : Orderly (goes (goes s (Acts true (Keeps q))) (Acts true (Thaws q))) = orderly-step _ (Acts true (Thaws q)) (orderly-step s (Acts true (Keeps q)) h may) thaws in
          go-first s (Roused q s) (Acts true (Keeps q)) may (refl, λ _ _. refl)
          (go-first (goes s (Acts true (Keeps q))) (Roused q s) (Acts true (Thaws q)) thaws (refl, λ _ _. refl)
          (go-on (goes (goes s (Acts true (Keeps q))) (Acts true (Thaws q))) (Roused q (goes (goes s (Acts true (Keeps q))) (Acts true (Thaws q)))) (Roused q s) (awake (goes (goes s (Acts true (Keeps q))) (Acts true (Thaws q))) g node (put-same s.stage q Live)) (λ v r. (
            [],
            tt,
            tt,
            record { orderly = r.orderly; count = r.count; ready = r.ready; others = λ x n. let k = r.others x n in (k.0 ∙ put-other s.stage q Live x n, k.1, k.2) },
          ))))

-- and so are all, one after the other
abbrev pub AllReady : Cluster → Type 0
AllReady c = (q : ℕ) → q ≤ c.world.count → IsReady c q

pub rouse-all : (m : ℕ) (s : Cluster) → Orderly s → m ≤ s.world.count → ((q : ℕ) → m < q → q ≤ s.world.count → IsReady s q) → Goes s (λ t. Orderly t × AllReady t)
rouse-all zero s h l up = ([], tt, tt, (h, all))
  where
    all : (q : ℕ) → q ≤ s.world.count → IsReady s q
    all zero b = let g = h.2.plain.gateway in inr (g.0, λ _. g.2)
    all (suc q) b = up (suc q) (omega arith) b
rouse-all (suc m) s h l up =
    go-on s (Roused (suc m) s) (λ t. Orderly t × AllReady t) (rouse (suc m) s h (omega arith, l)) (λ t r.
    let same : t.world.count ≡ s.world.count = r.count in
    rouse-all m t r.orderly (omega arith) (choose (suc m) (λ q _. m < q → q ≤ t.world.count → IsReady t q) (λ _ _. r.ready) (λ q z a l. same-ready s t q (r.others q z) (up q (omega arith) (omega arith)))))
