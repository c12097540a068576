-- A process that restores RSNs, together with others
use Rattle.std.specs.Prelude.{◌≡◌, ◌≢◌, ℕ, List}
use Rattle.cluster.specs.Cluster.{Cluster}
use Rattle.cluster.specs.Overlap.{Event, after_events}
use Rattle.node.specs.Stands.{Each, doer}
use Rattle.recovery.specs.Replayed.{TheReplayed, StandsReplayed}
use Rattle.recovery.specs.Restoration.{TheRestoring}
use Rattle.recovery.specs.RestorationStands.{StandsRestoring}

-- one that has finished its replay still agrees with the cluster after the events of another
abbrev pub ReplayedStands : Type 0
ReplayedStands = (n : TheReplayed) (p q : ℕ) (es : List Event) (c : Cluster) → q ≢ p → Each (λ (e : Event). doer e ≡ q) es
    → StandsReplayed n c p → StandsReplayed n (after_events c es) p

-- so does one that restores its RSNs
abbrev pub RestoringStands : Type 0
RestoringStands = (n : TheRestoring) (p q : ℕ) (es : List Event) (c : Cluster) → q ≢ p → Each (λ (e : Event). doer e ≡ q) es
    → StandsRestoring n c p → StandsRestoring n (after_events c es) p
