-- The process that comes back is the one that was lost
use Rattle.std.specs.Prelude.{◌≡◌, ℕ, ◌+◌, ◌≤◌, List, ◌++◌, length, take}
use Rattle.world.specs.declared.message.Message.{Message}
use Rattle.world.specs.Handlers.{Handlers}
use Rattle.cluster.specs.Cluster.{Cluster, opening}
use Rattle.cluster.specs.Rules.{Act, Run, after_run}
use Rattle.cluster.specs.Promises.{AllAcknowledged}
use Rattle.node.specs.Node.{TheNode}
use Rattle.node.specs.Transmission.{run_at}
use Rattle.node_laws.specs.Agreement.{LeadTo}

-- how many messages a node received
abbrev pub length_of : TheNode → ℕ
length_of n = n.base + length n.receipts.senders

-- what p received in the cluster of n after these acts
abbrev pub received : ℕ → Handlers → ℕ → List Act → List Message
received n f p acts = (after_run (opening n f) acts).world.history p

-- the process p is up as the node a, and later as b. At both moments a cluster agrees: what p received there is as much as its node has,
-- and its state is the one after that. Up to the RSN up to which all are acknowledged at a, both received the same. So if all are, and b
-- has no more messages, it has the state of a
pub record HasBack (n : ℕ) (f : Handlers) (Before After : Cluster → Type 0) (p : ℕ) (a b : TheNode) : Type 0 where
  pub acts : List Act
  pub more : List Act
  pub run : Run (opening n f) (acts ++ more)
  pub before : LeadTo n f acts Before
  pub after : LeadTo n f (acts ++ more) After
  pub many_was : length (received n f p acts) ≡ length_of a
  pub many_is : length (received n f p (acts ++ more)) ≡ length_of b
  pub state_was : f.state p (received n f p acts) ≡ a.state
  pub state_is : f.state p (received n f p (acts ++ more)) ≡ b.state
  pub acknowledged : AllAcknowledged (after_run (opening n f) acts) p (run_at a)
  pub within : run_at a ≤ length_of b
  pub same : take (run_at a) (received n f p (acts ++ more)) ≡ take (run_at a) (received n f p acts)
  pub back : run_at a ≡ length_of a → length_of b ≡ length_of a → b.state ≡ a.state
