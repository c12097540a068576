-- The whole rules: nodes may be durable, nodes whose recoveries meet say so, and each node knows whether it is exact
use Rattle.std.specs.Prelude.{◌≡◌, ℕ, ◌≤◌, List, [], ◌∷◌, Bool, true, false}
use Rattle.world.specs.Handlers.{Handlers}
use Rattle.theorems.specs.Growth.{Grows}
use Rattle.cluster.specs.Parcels.{Told, Restored, Said, flagged, parcel}
use Rattle.cluster.specs.Cluster.{Cluster, opening, durable_opening}
use Rattle.cluster.specs.Rules.{Act, Arrives, Run, after_run}
use Rattle.cluster.specs.Promises.{NoOrphanNode, OutputOnce, ReceivedOnce}
use Rattle.cluster.specs.Overlap.{Event, Acts, Lacks, Leaves, loss, Might, goes, Events, after_events}

-- the page that is taken said this of its teller; and p doesn't wait for q only if q said that it lost what it had
abbrev pub IsTold : Cluster → Event → Type 0
IsTold c (Acts exact (Arrives p d (Told i j k u f))) = Said (flagged (parcel p d (Told i j k u f)) exact false) c.said
IsTold c (Acts exact (Arrives p d (Restored i j n r u f))) = Said (flagged (parcel p d (Restored i j n r u f)) exact false) c.said
IsTold c (Lacks q p i j k) = Said (flagged (parcel q p (loss i j k)) false true) c.said
IsTold c (Leaves p q) = c.lost p q ≡ true
IsTold c e = Unit {0}

-- when each event may happen
abbrev pub MayStep : Cluster → Event → Type 0
MayStep c e = Might c e × IsTold c e

-- a run of the whole rules
abbrev pub Steps : Cluster → List Event → Type 0
Steps c [] = Unit {0}
Steps c (e ∷ es) = MayStep c e × Steps (goes c e) es

-- every node is exact before and after each event
abbrev pub AlwaysExact : Cluster → List Event → Type 0
AlwaysExact c [] = (p : ℕ) → c.exact p ≡ true
AlwaysExact c (e ∷ es) = ((p : ℕ) → c.exact p ≡ true) × AlwaysExact (goes c e) es

-- the acts of a run in which no recoveries meet
abbrev pub acts_of : List Event → List Act
acts_of [] = []
acts_of (Acts exact a ∷ es) = a ∷ acts_of es
acts_of (e ∷ es) = acts_of es

-- a run of the whole rules is one of events: so it keeps their promises whatever fails
abbrev pub StepsAreEvents : Type 0
StepsAreEvents = (c : Cluster) (es : List Event) → Steps c es → Events c es

-- the cluster without what nodes know of failures: as the basic rules have it, where none is durable and all are exact
abbrev pub bare : Cluster → Cluster
bare c = record c { durable = λ _. false; exact = λ _. true; lost = λ _ _. false; said = [] }

-- these acts are a run of nodes whose recoveries don't meet, which leads there
abbrev pub IsRunOf : ℕ → Handlers → List Act → Cluster → Type 0
IsRunOf n f acts c = Run (opening n f) acts × (after_run (opening n f) acts ≡ bare c)

-- so is each run in which every node was always exact
abbrev pub ExactRunsDontMeet : Type 0
ExactRunsDontMeet = (n : ℕ) (f : Handlers) (durable : ℕ → Bool) (es : List Event) → Steps (durable_opening n f durable) es
    → AlwaysExact (durable_opening n f durable) es
    → IsRunOf n f (acts_of es) (after_events (durable_opening n f durable) es)

-- so it keeps the promises of such a run
abbrev pub ExactRunsKeep : Type 0
ExactRunsKeep = (n : ℕ) (f : Handlers) (durable : ℕ → Bool) (es : List Event) → n ≤ 15 → Grows f → Steps (durable_opening n f durable) es
    → AlwaysExact (durable_opening n f durable) es
    → NoOrphanNode (after_events (durable_opening n f durable) es) × OutputOnce (after_events (durable_opening n f durable) es)
    × ReceivedOnce (after_events (durable_opening n f durable) es)
