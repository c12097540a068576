-- A process comes back from what a node wrote
use Rattle.std.specs.Prelude.{◌≡◌, ◌≢◌, ℕ, ◌<◌, List, true}
use Rattle.cluster.specs.Cluster.{Cluster, Dead}
use Rattle.cluster.specs.Rules.{Act, Keeps, Dies, May, does, after_run, IsNode}
use Rattle.packets.specs.declared.kept.Kept.{Kept}
use Rattle.node.specs.declared.limit.Limits.{Limits}
use Rattle.node.specs.Node.{TheNode, Within}
use Rattle.node.specs.Stands.{Each, Stands}
use Rattle.node.specs.Kept.{kept_of, IsKeptOf}
use Rattle.recovery.specs.Collection.{revived}
use Rattle.recovery.specs.Stands.{StandsCollecting, Reopens}

-- the checkpoint for which a node waits may become durable, and the node may die then: the process can come back from what the node wrote,
-- in each incarnation above those that were stored
abbrev pub WrittenRevives : Type 0
WrittenRevives = (n : TheNode) (limits : Limits) (life : ℕ) (c : Cluster) → (c.durable n.me ≡ true → limits.durable ≡ true) → Within n
    → Stands n c n.me → n.frozen ≡ true → c.stored n.me < life
    → May c (Keeps n.me) × May (does c (Keeps n.me)) (Dies n.me)
    × Reopens n.me life (λ d. StandsCollecting (revived limits (kept_of n) life) d n.me) (does (does c (Keeps n.me)) (Dies n.me))

-- it can also come back from its kept state after any run in which no newer checkpoint of it became durable
abbrev pub KeptRevives : Type 0
KeptRevives = (k : Kept) (limits : Limits) (life p : ℕ) (acts : List Act) (c : Cluster) → IsKeptOf k c p
    → ((after_run c acts).durable p ≡ true → limits.durable ≡ true) → Each (λ (a : Act). a ≢ Keeps p) acts → IsNode (after_run c acts) p
    → (after_run c acts).stage p ≡ Dead → (after_run c acts).stored p < life
    → Reopens p life (λ d. StandsCollecting (revived limits k life) d p) (after_run c acts)
