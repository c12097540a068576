-- A node beside others
use Rattle.std.specs.Prelude.{◌≡◌, ◌≢◌, ℕ, List}
use Rattle.cluster.specs.Cluster.{Cluster}
use Rattle.cluster.specs.Overlap.{Event, after_events}
use Rattle.node.specs.Node.{TheNode}
use Rattle.node.specs.Stands.{Each, Stands, doer}

-- a node still agrees with the cluster after the events of another
abbrev pub OthersStand : Type 0
OthersStand = (n : TheNode) (p q : ℕ) (es : List Event) (c : Cluster) → q ≢ p → Each (λ (e : Event). doer e ≡ q) es → Stands n c p
    → Stands n (after_events c es) p
