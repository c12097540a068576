-- What a process does in a cluster: events of its own, one after another
use Rattle.std.specs.Prelude.{◌≡◌, ℕ, List, [], ◌∷◌, Option, Some, None, Bool, true}
use Rattle.cluster.specs.Cluster.{Cluster}
use Rattle.cluster.specs.Rules.{Act, Input, Puts, Arrives, Works, Replays, Recovers, Freezes, Keeps, Thaws, Dies, Opens}
use Rattle.cluster.specs.Overlap.{Event, Acts, Meets, Loses, Lacks, Leaves, Doubts, after_events}
use Rattle.cluster.specs.Exact.{Steps}

-- P holds of each
abbrev pub Each : {X : Type 0} → (X → Type 0) → List X → Type 0
Each P [] = Unit {0}
Each P (x ∷ xs) = P x × Each P xs

-- the process that acts
abbrev pub actor : Act → ℕ
actor (Input d x) = 0
actor (Puts p d x) = p
actor (Arrives p d x) = d
actor (Works p m) = p
actor (Replays p j) = p
actor (Recovers p k) = p
actor (Freezes p) = p
actor (Keeps p) = p
actor (Thaws p) = p
actor (Dies p) = p
actor (Opens p n) = p

-- the process that an event is of
abbrev pub doer : Event → ℕ
doer (Acts exact a) = actor a
doer (Meets q p i k) = q
doer (Loses q p i j k) = q
doer (Lacks q p i j k) = p
doer (Leaves p q) = p
doer (Doubts q p x) = p

-- the process that acts, if the act doesn't change stable storage
abbrev pub own_act : Act → Option ℕ
own_act (Keeps p) = None
own_act (Opens p n) = None
own_act act = Some (actor act)

-- the process that an event is of, if it doesn't change stable storage
abbrev pub own_event : Event → Option ℕ
own_event (Acts exact a) = own_act a
own_event e = Some (doer e)

-- the event is an act, or says that all is lost, which changes nothing else: it may happen although no recoveries meet
abbrev pub IsAct : Event → Type 0
IsAct (Acts exact a) = Unit {0}
IsAct (Loses q p i j k) = Unit {0}
IsAct e = ⊥

-- events of the process p that don't change stable storage lead, by the whole rules, from the cluster c to one for which P holds. If p is
-- still exact, they are acts
pub record GoesTo (exact : Bool) (p : ℕ) (P : Cluster → Type 0) (c : Cluster) : Type 0 where
  pub events : List Event
  pub run : Steps c events
  pub by : Each (λ (e : Event). own_event e ≡ Some p) events
  pub acts : exact ≡ true → Each IsAct events
  pub stands : P (after_events c events)
