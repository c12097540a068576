-- A recovering process together with others
use Rattle.std.specs.Prelude.{◌≡◌, ◌≢◌, ℕ, ◌<◌, List, true}
use Rattle.cluster.specs.Cluster.{Cluster, Dead}
use Rattle.cluster.specs.Rules.{Dies, May, does, IsNode}
use Rattle.cluster.specs.Overlap.{Event, after_events}
use Rattle.packets.specs.declared.kept.Kept.{Kept}
use Rattle.node.specs.Stands.{Each, doer}
use Rattle.recovery.specs.Collection.{TheCollecting}
use Rattle.recovery.specs.Stands.{StandsCollecting, IsKeptOf, Reopens, Revives}
use Rattle.recovery.specs.Replays.{TheReplaying}
use Rattle.recovery.specs.StandsAtReplay.{StandsReplaying}

-- a process that collects still agrees with the cluster after the events of another
abbrev pub OthersStand : Type 0
OthersStand = (n : TheCollecting) (p q : ℕ) (es : List Event) (c : Cluster) → q ≢ p → Each (λ (e : Event). doer e ≡ q) es
    → StandsCollecting n c p → StandsCollecting n (after_events c es) p

-- so does one that replays
abbrev pub ReplayingStands : Type 0
ReplayingStands = (n : TheReplaying) (p q : ℕ) (es : List Event) (c : Cluster) → q ≢ p → Each (λ (e : Event). doer e ≡ q) es
    → StandsReplaying n c p → StandsReplaying n (after_events c es) p

-- a process with kept state k may die and be opened from k, in an incarnation that wasn't stored yet: k is still its kept state
abbrev pub ComesBackAgain : Type 0
ComesBackAgain = (k : Kept) (life : ℕ) (n : TheCollecting) (c : Cluster) → Revives k life n
    → (c.durable k.me ≡ true → n.own.limits.durable ≡ true) → IsNode c k.me → c.stage k.me ≢ Dead → c.stored k.me < life → IsKeptOf k c k.me
    → May c (Dies k.me) × Reopens k.me life (λ d. StandsCollecting n d k.me × IsKeptOf k d k.me) (does c (Dies k.me))
