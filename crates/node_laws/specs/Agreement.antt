-- How processes and the gateway agree with a cluster
use Rattle.std.specs.Prelude.{◌≡◌, ℕ, ◌≤◌, List, Bool, true}
use Rattle.world.specs.History.{count_of}
use Rattle.world.specs.Handlers.{Handlers}
use Rattle.cluster.specs.Cluster.{Cluster, Dead, opening, durable_opening}
use Rattle.cluster.specs.Rules.{Act, Run, May, does, Keeps, IsNode, after_run}
use Rattle.cluster.specs.Overlap.{Event, after_events}
use Rattle.cluster.specs.Exact.{Steps, bare}
use Rattle.cluster.specs.Promises.{NoOrphanNode, OutputOnce, ReceivedOnce}
use Rattle.packets.specs.declared.kept.Kept.{Kept}
use Rattle.packets.specs.Kept.{IsKept}
use Rattle.node.specs.Kept.{IsKeptOf}
use Rattle.node.specs.Stands as nodes
use Rattle.recovery.specs.Stands as collecting
use Rattle.recovery.specs.StandsAtReplay as replaying
use Rattle.recovery.specs.Replayed.{StandsReplayed}
use Rattle.recovery.specs.RestorationStands as restoring
use Rattle.gateway.specs.Gateway.{peer_of}
use Rattle.gateway.specs.Stands as gateways
use Rattle.recovery.specs.declared.lifecycle.Lifecycle.{Lifecycle}
use Rattle.recovery.specs.declared.lifecycle.Lifecycle.TheVariants.{Up, Collecting, Replaying, Replayed, Restoring, Passing}
use Rattle.process.specs.Calls.{is_frozen}
use Rattle.node_laws.specs.HostProcess.{IsFirst, Durable, Hosted, Runs, Sleeps, Killed}
use Rattle.node_laws.specs.HostSystem.{System}

-- a process in its stage agrees with the cluster as p
abbrev pub Stands : Lifecycle → Cluster → ℕ → Type 0
Stands (Up n) c p = nodes.Stands n c p
Stands (Collecting n) c p = collecting.StandsCollecting n c p
Stands (Replaying n) c p = replaying.StandsReplaying n c p
Stands (Replayed n) c p = StandsReplayed n c p
Stands (Restoring n) c p = restoring.StandsRestoring n c p
Stands Passing c p = ⊥

-- so with its host; one that was killed is dead there
abbrev pub StandsAs : Hosted → Cluster → ℕ → Type 0
StandsAs (Runs process Durable) c p = (is_frozen process.lifecycle ≡ true) × Stands process.lifecycle c p
StandsAs (Runs process checkpoint) c p = Stands process.lifecycle c p
StandsAs (Sleeps process bytes) c p = Stands process.lifecycle c p
StandsAs Killed c p = IsNode c p × (c.stage p ≡ Dead)

-- this is what its checkpoint covers, or what it will cover once it is told that it is durable
abbrev pub IsStoredOf : Kept → Hosted → Cluster → ℕ → Type 0
IsStoredOf k (Runs process Durable) c p = May c (Keeps p) × IsKeptOf k (does c (Keeps p)) p
IsStoredOf k other c p = IsKeptOf k c p

-- these bytes are that
abbrev pub AreStoredOf : List ℕ → Hosted → Cluster → ℕ → Type 0
AreStoredOf bytes process c p = (k : Kept) × (IsKept k bytes × IsStoredOf k process c p)

-- all these processes agree with a cluster of n, what is stored of each is what its checkpoint covers, and no incarnation above the stored
-- ones was opened; the gateway of the store agrees with it, and acts of its own make it the gateway of now
pub record AllStand (n : ℕ) (s : System) (c : Cluster) : Type 0 where
  pub processes : (p : ℕ) → IsFirst n p → StandsAs (s.processes p) c p
  pub stored : (p : ℕ) → IsFirst n p → AreStoredOf (s.stored p) (s.processes p) c p
  pub lives : (p : ℕ) → IsFirst n p → c.stored p ≤ s.lives p
  pub durable : gateways.Stands s.durable c
  pub gateway : gateways.Goes s.gateway c
  -- the gateway counts as many outputs of a process as were shown of it
  pub shown : (p : ℕ) → IsFirst n p → (peer_of p s.durable).shown ≡ count_of p c.world.shown

-- these acts lead the opening of n processes to a cluster that agrees; what its nodes know of failures no act says
abbrev pub LeadTo : ℕ → Handlers → List Act → (Cluster → Type 0) → Type 0
LeadTo n f acts Agrees = (c : Cluster) × (after_run (opening n f) acts ≡ bare c) × Agrees c

-- a cluster of n runs from its opening to one that agrees; and the promises of runs hold of it
pub record IsRunOf (n : ℕ) (f : Handlers) (Agrees : Cluster → Type 0) : Type 0 where
  pub acts : List Act
  pub run : Run (opening n f) acts
  pub stand : LeadTo n f acts Agrees
  pub no_orphan : NoOrphanNode (after_run (opening n f) acts)
  pub output_once : OutputOnce (after_run (opening n f) acts)
  pub received_once : ReceivedOnce (after_run (opening n f) acts)

-- a cluster of n, of which these are durable, comes by the whole rules from its opening to one that agrees
pub record AreEventsOf (n : ℕ) (f : Handlers) (durable : ℕ → Bool) (Agrees : Cluster → Type 0) : Type 0 where
  pub events : List Event
  pub run : Steps (durable_opening n f durable) events
  pub stand : Agrees (after_events (durable_opening n f durable) events)
