-- Nodes that collect recover, one after the other
use Rattle.std.proofs.Common.{◌≡◌, ◌≢◌, inl, inr, ℕ, zero, suc, ◌+◌, ◌<◌, ◌≤◌, List, [], length, take, Bool, true, false, refl, sym, ap, ◌∙◌, subst, arith}
use Rattle.std.specs.Prelude.{◌⊎◌, Option, Some, None, ◌&&◌, ◌==◌, nat_lt, if◌then◌else◌}
use Rattle.std.proofs.lemmas.Bool.Decides.{nat_tests}
use Rattle.world.specs.declared.message.Message.{Message}
use Rattle.world.specs.Phases.{Phase, Up, Replaying, is_up}
use Rattle.world.specs.World.{put}
use Rattle.world.specs.Plan.{first_below}
use Rattle.world.specs.Calls.{phase_with, peers}
use Rattle.theorems.proofs.Changes.{choose}
use Rattle.theorems.proofs.ListLemmas.{take-length}
use Rattle.cluster.specs.Parcels.{reaches}
use Rattle.cluster.specs.Cluster.{Live, Collecting, Collected, Cluster, runs}
use Rattle.cluster.specs.Rules.{Recovers, IsNode, IsAll, entry_in, told_by, taken_back, goes_on}
use Rattle.cluster.proofs.Growth.{either-way}
use Rattle.cluster.specs.Overlap.{Acts}
use Rattle.cluster.specs.Exact.{MayStep}
use Rattle.cluster.proofs.Ages.{IsEnding}
use Rattle.cluster.proofs.DurableTurns.{put-other}
use Rattle.cluster.proofs.Births.{put-same, Orderly, orderly-step}
use Rattle.cluster.proofs.Stops.{Stops, stops}
use Rattle.cluster.proofs.WakeUps.{Goes, go-last, go-on, IsAwake, IsReady, AllReady}
use Rattle.cluster.proofs.Collection.{Still, still-still, Answered, asks-one}

-- all have told p all
abbrev Gathered : ℕ → Cluster → Cluster → Type 0
Gathered p s u = Still s u × ((q : ℕ) → q ≤ u.world.count → q ≢ p → IsAll (u.told p q))

-- those from m on have told all: it asks the others, one after the other
gather : (p m : ℕ) (s : Cluster) → Orderly s → IsNode s p → AllReady s → s.stage p ≡ Collecting → m ≤ suc s.world.count → ((q : ℕ) → m ≤ q → q ≤ s.world.count → q ≢ p → IsAll (s.told p q)) → Goes s (Gathered p s)
gather p zero s h node ready coll l all = ([], tt, tt, (record { orderly = h; count = refl; stage = λ r. refl; ready = ready }, λ q a n. all q (omega arith) a n))
gather p (suc m) s h node ready coll l all = split (λ t. gather p m t) (m == p) refl
  where
    split : ((t : Cluster) → Orderly t → IsNode t p → AllReady t → t.stage p ≡ Collecting → m ≤ suc t.world.count → ((q : ℕ) → m ≤ q → q ≤ t.world.count → q ≢ p → IsAll (t.told p q)) → Goes t (Gathered p t)) → (b : Bool) → (m == p) ≡ b → Goes s (Gathered p s)
    split more true e = more s h node ready coll (omega arith) (λ q b a n. all q (let t : m ≢ q = (λ f. let z : m ≡ p = grind (arith, nat_tests) in n (sym f ∙ z)) in omega arith) a n)
    split more false e =
        go-on s (Answered p m s) (Gathered p s) (asks-one p m (grind (arith, nat_tests)) s h node (omega arith) ready coll) (λ u r.
        let same : u.world.count ≡ s.world.count = r.0.count in
        let there : IsNode u p = (node.0, (let x : p ≤ s.world.count = node.1 in omega arith)) in
        go-on u (Gathered p u) (Gathered p s) (more u r.0.orderly there r.0.ready (r.0.stage p ∙ coll) (omega arith)
        (choose m (λ q _. m ≤ q → q ≤ u.world.count → q ≢ p → IsAll (u.told p q)) (λ _ _ _. r.1) (λ q z g l n. let P : Option Collected → Type 0 = λ x. IsAll x in subst P (sym (r.2 q z)) (all q (omega arith) (omega arith) n)))) (λ t v.
        ([], tt, tt, (still-still s u t r.0 v.0, v.1))))

-- p has recovered
abbrev Recovered : ℕ → Cluster → Cluster → Type 0
Recovered p s d =
    record {
      count : d.world.count ≡ s.world.count;
      live : d.stage p ≡ Live;
      stage : (r : ℕ) → r ≢ p → d.stage r ≡ s.stage r;
      ready : AllReady d;
    }

module _ (p : ℕ) (s : Cluster) (h : Orderly s) (node : IsNode s p) (ready : AllReady s) (coll : s.stage p ≡ Collecting) (all : (q : ℕ) → q ≤ s.world.count → q ≢ p → IsAll (s.told p q)) where
  -- behind some number nobody told it a message
  no-more : (q : ℕ) → q ≤ s.world.count → (b : ℕ) × ((m : ℕ) → b < m → entry_in (s.told p q) m ≡ None)
  no-more =
      choose p (λ q _. q ≤ s.world.count → (b : ℕ) × ((m : ℕ) → b < m → entry_in (s.told p q) m ≡ None)) (λ _. (0, λ m l. ap (λ t. entry_in t m) (h.2.plain.own p)))
      (λ q n l. told (s.told p q) (h.2.plain.ends p q) (all q l n))
    where
      told : (t : Option Collected) → IsEnding t → IsAll t → (b : ℕ) × ((m : ℕ) → b < m → entry_in t m ≡ None)
      told None e a = (0, λ m l. refl)
      told (Some t) e a = (e.0, λ m l. e.1 m l (let P : Option ℕ → Type 0 = λ u. reaches u m ≡ true in subst P (sym a) refl))

  none-below : (n : ℕ) → n ≤ suc s.world.count → (b : ℕ) × ((m : ℕ) → b < m → first_below (λ q. entry_in (s.told p q) m) n ≡ None)
  none-below zero l = (0, λ m g. refl)
  none-below (suc n) l = let r = none-below n (omega arith) in let t = no-more n (omega arith) in (r.0 + t.0, λ m g. rw (r.1 m (omega arith), t.1 m (omega arith)) refl)

  abbrev had : List Message
  had = take (s.world.saved p) (s.world.history p)

  long : length (take (s.world.saved p) (s.world.history p)) ≡ s.world.saved p
  long = take-length (s.world.history p) (s.world.saved p) (h.2.plain.within p)

  ends : (k : ℕ) × Stops (told_by s p) had (s.world.saved p) long k
  ends = let r = none-below (suc s.world.count) (omega arith) in stops (told_by s p) had (s.world.saved p) long (s.world.saved p + r.0) (omega arith) (r.1 (suc (s.world.saved p + r.0)) (omega arith))

  turned : (k : ℕ) (x : Phase) → Recovered p s (record (taken_back s p k) { world = record (taken_back s p k).world { phase = put s.world.phase p x } })
  turned k x =
      record {
        count = refl;
        live = put-same s.stage p Live;
        stage = λ r n. put-other s.stage p Live r n;
        ready = choose p (λ j b. j ≤ s.world.count → ((if b then Live else s.stage j) ≡ Collecting) ⊎ (((if b then Live else s.stage j) ≡ Live)
            × ((runs (if b then Live else s.stage j) && ((if b then false else s.greeted j) && is_up (if b then x else s.world.phase j))) ≡ true → (if b then x else s.world.phase j) ≡ Up)))
            (λ _. inr (refl, λ w. absurd (let z : false ≡ true = w in cc))) (λ j _. ready j);
      }

  recovers : Goes s (λ t. Orderly t × Recovered p s t)
  recovers = go ends
    where
      go : (k : ℕ) × Stops (told_by s p) had (s.world.saved p) long k → Goes s (λ t. Orderly t × Recovered p s t)
      go e =
          let m : MayStep s (Acts true (Recovers p e.0)) = (((node, coll, all, e.1.0, e.1.1, e.1.2), tt), tt) in
          go-last s (λ t. Orderly t × Recovered p s t) (Acts true (Recovers p e.0)) m (refl, λ _ _. refl) (
            orderly-step s (Acts true (Recovers p e.0)) h m,
            either-way (nat_lt (s.world.saved p) e.0) (record (taken_back s p e.0) { world = record (taken_back s p e.0).world { phase = put s.world.phase p (Replaying 0 false false) } })
                (goes_on (taken_back s p e.0) p (peers s.world p false)) (Recovered p s) (turned e.0 (Replaying 0 false false)) (turned e.0 (phase_with (peers s.world p false))),
          )

-- so none collects any more
abbrev pub AllAwake : Cluster → Type 0
AllAwake c = (q : ℕ) → q ≤ c.world.count → IsAwake c q

pub recover-all : (m : ℕ) (s : Cluster) → Orderly s → m ≤ s.world.count → AllReady s → ((q : ℕ) → m < q → q ≤ s.world.count → s.stage q ≡ Live) → Goes s (λ t. Orderly t × AllAwake t)
recover-all zero s h l ready live = ([], tt, tt, (h, λ q a. awake q (place q a) (ready q a)))
  where
    place : (q : ℕ) → q ≤ s.world.count → s.stage q ≡ Live
    place zero a = h.2.plain.gateway.0
    place (suc q) a = live (suc q) (omega arith) a

    awake : (q : ℕ) → s.stage q ≡ Live → IsReady s q → IsAwake s q
    awake q e (inl c) = absurd (let z : true ≡ false = sym (ap runs e) ∙ ap runs c in cc)
    awake q e (inr a) = a
recover-all (suc m) s h l ready live = split (λ t. recover-all m t) (ready (suc m) l)
  where
    split : ((t : Cluster) → Orderly t → m ≤ t.world.count → AllReady t → ((q : ℕ) → m < q → q ≤ t.world.count → t.stage q ≡ Live) → Goes t (λ t. Orderly t × AllAwake t)) → IsReady s (suc m) → Goes s (λ t. Orderly t × AllAwake t)
    split more (inr a) = more s h (omega arith) ready (choose (suc m) (λ q _. m < q → q ≤ s.world.count → s.stage q ≡ Live) (λ _ _. a.0) (λ q z b c. live q (omega arith) c))
    split more (inl coll) =
        go-on s (Gathered (suc m) s) (λ t. Orderly t × AllAwake t) (gather (suc m) (suc s.world.count) s h (omega arith, l) ready coll (omega arith) (λ q a b n. absurd (omega arith))) (λ u r.
        let same : u.world.count ≡ s.world.count = r.0.count in
        go-on u (λ t. Orderly t × Recovered (suc m) u t) (λ t. Orderly t × AllAwake t) (recovers (suc m) u r.0.orderly (omega arith, omega arith) r.0.ready (r.0.stage (suc m) ∙ coll) r.1) (λ t v.
        let again : t.world.count ≡ u.world.count = v.1.count in
        more t v.0 (omega arith) v.1.ready (choose (suc m) (λ q _. m < q → q ≤ t.world.count → t.stage q ≡ Live) (λ _ _. v.1.live) (λ q z b c. v.1.stage q z ∙ r.0.stage q ∙ live q (omega arith) (omega arith)))))
