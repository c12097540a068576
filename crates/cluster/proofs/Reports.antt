-- A run in which no node was ever not exact is one of nodes that don't meet
use Rattle.std.proofs.Common.{◌≡◌, ℕ, List, [], ◌∷◌, Bool, true, false, refl, subst}
use Rattle.std.specs.Prelude.{◌==◌, if◌then◌else◌}
use Rattle.theorems.proofs.Changes.{choose, at-itself}
use Rattle.cluster.specs.Parcels.{Ask, Told}
use Rattle.cluster.specs.Cluster.{Cluster, durable_opening}
use Rattle.cluster.specs.Rules.{Act, Arrives, Opens}
use Rattle.cluster.specs.Promises.{NoOrphanNode, OutputOnce, ReceivedOnce}
use Rattle.cluster.proofs.Facts.{choose2, true-not-false}
use Rattle.cluster.proofs.Promised.{nodes-keep}
use Rattle.cluster.specs.Overlap.{Event, Acts, Meets, Loses, Lacks, Leaves, Doubts, goes}
use Rattle.cluster.specs.Exact.{Steps, AlwaysExact, acts_of, ExactRunsDontMeet, ExactRunsKeep}
use Rattle.cluster.specs.Goes.{Each, IsAct}
use Rattle.cluster.proofs.Goes.{acts-run}

-- nobody was told of a loss
abbrev Nothing : Cluster → Type 0
Nothing c = (p q : ℕ) → c.lost p q ≡ false

nothing-more : (c : Cluster) (exact : Bool) (a : Act) → Nothing c → Nothing (goes c (Acts exact a))
nothing-more c exact (Arrives p q (Ask i k)) h = choose2 q p (λ a b t. (if t then false else c.lost a b) ≡ false) refl (λ a b _. h a b)
nothing-more c exact (Arrives q p (Told i j k u f)) h = choose2 p q (λ a b t. (if t then false else c.lost a b) ≡ false) refl (λ a b _. h a b)
nothing-more c exact (Opens p n) h = λ a b. choose p (λ j t. (if t then (λ (k : ℕ). false) else c.lost j) b ≡ false) refl (λ j _. h j b) a
nothing-more c exact act h = h

-- all are exact where such a run begins
first-exact : (c : Cluster) (xs : List Event) → AlwaysExact c xs → (p : ℕ) → c.exact p ≡ true
first-exact c [] e p = e p
first-exact c (x ∷ xs) e p = e.0 p

-- so no event makes a node not exact
not-so : (f : ℕ → Bool) (p : ℕ) → (if p == p then false else f p) ≡ true → ⊥
not-so f p e = true-not-false e (at-itself p (λ b. (if b then false else f p) ≡ false) refl)

-- each event is an act, or says that all is lost
exact-acts : (c : Cluster) (xs : List Event) → Nothing c → Steps c xs → AlwaysExact c xs → Each IsAct xs
exact-acts c [] h run e = tt
exact-acts c (Acts exact a ∷ xs) h run e = (tt, exact-acts (goes c (Acts exact a)) xs (nothing-more c exact a h) run.1 e.1)
exact-acts c (Meets q p i k ∷ xs) h run e = absurd (not-so c.exact q (first-exact (goes c (Meets q p i k)) xs e.1 q))
exact-acts c (Loses q p i j k ∷ xs) h run e = (tt, exact-acts (goes c (Loses q p i j k)) xs h run.1 e.1)
exact-acts c (Lacks q p i j k ∷ xs) h run e = absurd (not-so c.exact p (first-exact (goes c (Lacks q p i j k)) xs e.1 p))
exact-acts c (Leaves p q ∷ xs) h run e = absurd (true-not-false run.0.1 (h p q))
exact-acts c (Doubts q p x ∷ xs) h run e = absurd (not-so c.exact p (first-exact (goes c (Doubts q p x)) xs e.1 p))

pub exact-runs-dont-meet : ExactRunsDontMeet
exact-runs-dont-meet n f durable xs r e = acts-run (durable_opening n f durable) xs (exact-acts (durable_opening n f durable) xs (λ p q. refl) r e) r

pub exact-runs-keep : ExactRunsKeep
exact-runs-keep n f durable xs l g r e =
    let t = exact-runs-dont-meet n f durable xs r e in
    let P : Cluster → Type 0 = λ c. NoOrphanNode c × OutputOnce c × ReceivedOnce c in
    subst P t.1 (nodes-keep n f (acts_of xs) l g t.0)
