-- A process in each stage, and its calls
use Rattle.std.specs.Prelude.{◌≡◌, ◌⊎◌, ℕ, List, Some, Bool, true, false}
use Rattle.cluster.specs.Cluster.{Cluster, Dead}
use Rattle.cluster.specs.Rules.{Keeps, May, does, IsNode}
use Rattle.packets.specs.declared.packet.NodePacket.{NodePacket}
use Rattle.packets.specs.declared.kept.Kept.{Kept}
use Rattle.packets.specs.Kept.{IsKept}
use Rattle.packets.specs.Outbox.{Pops}
use Rattle.node.specs.declared.limit.Limits.{Limits}
use Rattle.node.specs.declared.job.OpenJob.{OpenJob}
use Rattle.node.specs.Node.{TheNode}
use Rattle.node.specs.Calls.{handed, did_work}
use Rattle.node.specs.Transmission.{ticked}
use Rattle.node.specs.Checkpoints.{froze, saved}
use Rattle.node.specs.Kept.{kept_of, Covers, IsKeptOf}
use Rattle.node.specs.Suspension.{CanSuspend, woken}
use Rattle.node.specs.Stands as nodes
use Rattle.node.specs.Answering.{Answer, Answering, IsAnswer}
use Rattle.recovery.specs.Collection.{TheCollecting}
use Rattle.recovery.specs.Collection as collects
use Rattle.recovery.specs.Replays.{TheReplaying, next_job, did_replay, is_over}
use Rattle.recovery.specs.Overlap as meeting
use Rattle.recovery.specs.Replayed.{TheReplayed, StandsReplayed}
use Rattle.recovery.specs.Replayed as replayed
use Rattle.recovery.specs.Stands as collecting
use Rattle.recovery.specs.StandsAtReplay.{replayed_of}
use Rattle.recovery.specs.StandsAtReplay as replaying
use Rattle.recovery.specs.Plan.{has_all}
use Rattle.recovery.specs.Moment.{Recovered}
use Rattle.recovery.specs.Restoration.{TheRestoring, begun, up}
use Rattle.recovery.specs.Restoration as restores
use Rattle.recovery.specs.RestorationStands as restoring
use Rattle.recovery.specs.declared.lifecycle.Lifecycle.{Lifecycle}
use Rattle.recovery.specs.declared.lifecycle.Lifecycle.TheVariants as lifecycle
use Rattle.node_laws.specs.HostProcess.{Checkpoint, Durable, Hosted, Runs, Sleeps}

-- a process in its stage
pub data Process : Type 0 where
  Up : TheNode → Process
  -- a node that waits for its checkpoint, which is durable; the node wasn't told so yet
  Covered : TheNode → Process
  -- it came back, and asks its peers what their logs hold for it
  Collects : TheCollecting → Process
  -- it recovered, and its handler runs again on what it keeps
  Replays : TheReplaying → Process
  Replayed : TheReplayed → Process
  -- it asks its peers under which RSNs they have its messages
  Restores : TheRestoring → Process
  Killed : Process

-- it agrees with the cluster as p; a process that was killed is dead there
abbrev pub StandsAs : Process → Cluster → ℕ → Type 0
StandsAs (Up n) c p = nodes.Stands n c p
StandsAs (Covered n) c p = (n.frozen ≡ true) × nodes.Stands n c p
StandsAs (Collects n) c p = collecting.StandsCollecting n c p
StandsAs (Replays n) c p = replaying.StandsReplaying n c p
StandsAs (Replayed n) c p = StandsReplayed n c p
StandsAs (Restores n) c p = restoring.StandsRestoring n c p
StandsAs Killed c p = IsNode c p × (c.stage p ≡ Dead)

-- this is what its checkpoint covers, or what it will cover once the node is told that it is durable
abbrev pub IsStoredOf : Kept → Process → Cluster → ℕ → Type 0
IsStoredOf k (Covered n) c p = May c (Keeps p) × IsKeptOf k (does c (Keeps p)) p
IsStoredOf k process c p = IsKeptOf k c p

-- as far as it knows, failures came one at a time; a process that was killed knows nothing
abbrev pub is_exact : Process → Bool
is_exact (Up n) = n.exact
is_exact (Covered n) = n.exact
is_exact (Collects n) = n.own.exact
is_exact (Replays n) = n.own.exact
is_exact (Replayed n) = n.own.exact
is_exact (Restores n) = n.own.exact
is_exact Killed = true

-- it is up as this node, also before it is told of its checkpoint
abbrev pub IsUp : TheNode → Process → Type 0
IsUp m (Up n) = n ≡ m
IsUp m (Covered n) = n ≡ m
IsUp m process = ⊥

-- ---- its calls, each as its function's contract says

-- it becomes a process in the stage that is named, and P holds of that
abbrev pub Becomes : {X : Type 0} → (X → Process) → Process → (X → Type 0) → Type 0
Becomes {X} stage new P = (it : X) × ((new ≡ stage it) × P it)

-- it gave this packet
abbrev pub Gives : NodePacket → Process → Process → Type 0
Gives x (Up n) new = Becomes Up new (λ m. nodes.Takes (Some x) n m)
Gives x (Covered n) new = Becomes Covered new (λ m. nodes.Takes (Some x) n m)
Gives x (Collects n) new = Becomes Collects new (λ m. collecting.Takes (Some x) n m)
Gives x (Replays n) new = Becomes Replays new (λ m. replaying.Takes (Some x) n m)
Gives x (Replayed n) new =
    Becomes Replayed new (λ m. Pops (Some x) n.own.out m.own.out × (m ≡ record n { own = record n.own { out = m.own.out } }))
Gives x (Restores n) new = Becomes Restores new (λ m. restoring.Takes (Some x) n m)
Gives x Killed new = ⊥

-- it was handed this packet. One that restores RSNs and has all its answers is up before the next call
abbrev pub Hears : NodePacket → Process → Process → Type 0
Hears x (Up n) new = Becomes Up new (λ m. (m ≡ handed x n) × nodes.IsHanded x n m)
Hears x (Covered n) new = Becomes Covered new (λ m. m ≡ handed x n)
Hears x (Collects n) new = Becomes Collects new (λ m. (m ≡ collects.handed x n) × collecting.IsHanded x n m)
Hears x (Replays n) new = Becomes Replays new (λ m. (m ≡ record n { own = meeting.handed x n.own }) × replaying.IsHanded x n m)
Hears x (Replayed n) new = Becomes Replayed new (λ m. (m ≡ record n { own = meeting.handed x n.own }) × replayed.IsHanded x n m)
Hears x (Restores n) new =
    Becomes Restores new (λ m. (m ≡ restores.handed x n) × ((restores.is_up n ≡ false) × restoring.IsHanded x n m))
Hears x Killed new = ⊥

-- the answer is that of the handler, if there is a message to replay
abbrev pub IsAnswerAgain : Answering → ℕ → TheReplaying → Answer → Type 0
IsAnswerAgain f p n a = (j : OpenJob) → next_job n ≡ Some j → a ≡ f p n.own.state (nodes.job_of j)

-- its handler answered this
abbrev pub Works : Answering → ℕ → Answer → Process → Process → Type 0
Works f p a (Up n) new = IsAnswer f p n a
    × Becomes Up new (λ m. (m ≡ did_work a.state a.given n.working n) × nodes.Owes (nodes.Handles a.state a.given n) n m)
Works f p a (Covered n) new = Becomes Covered new (λ m. m ≡ did_work a.state a.given n.working n)
Works f p a (Replays n) new = IsAnswerAgain f p n a
    × Becomes Replays new (λ m. (m ≡ did_replay a.state a.given (next_job n) n) × replaying.Owes (replaying.Handles a.state a.given n) n m)
Works f p a process new = ⊥

-- all peers have told a process that collects, and it recovers
pub record Recovers (n : TheCollecting) (r : TheReplaying) : Type 0 where
  pub all : has_all n ≡ true
  pub is : Recovered n r
  pub acts : replaying.ComesBack n r

-- it sent again what isn't answered, or made a checkpoint; or went on to its next stage
abbrev pub Acts : Process → Process → Type 0
Acts (Up n) new = Becomes Up new (λ m. ((m ≡ ticked n) ⊎ (m ≡ froze n)) × nodes.Acts n m)
Acts (Covered n) new = Becomes Covered new (λ m. (m ≡ ticked n) ⊎ (m ≡ froze n))
Acts (Collects n) new = Becomes Collects new (λ m. (m ≡ collects.asked n) × collecting.Acts n m) ⊎ Becomes Replays new (λ m. Recovers n m)
Acts (Replays n) new = Becomes Replayed new (λ m. (m ≡ replayed_of n) × (replaying.Ends n m × (is_over n ≡ true)))
Acts (Replayed n) new = Becomes Restores new (λ m. (m ≡ begun n) × restoring.Begins n m)
Acts (Restores n) new = Becomes Restores new (λ m. (m ≡ restores.asked n) × restoring.Acts n m)
    ⊎ Becomes Up new (λ m. (m ≡ up n) × restoring.IsUp n m)
Acts Killed new = ⊥

-- these bytes are a node's kept state
abbrev pub AreOf : List ℕ → TheNode → Type 0
AreOf bytes n = IsKept (kept_of n) bytes × Covers (kept_of n) n

-- it waits for its checkpoint, and these are its bytes
abbrev pub WaitsFor : List ℕ → Process → Type 0
WaitsFor bytes (Up n) = (n.frozen ≡ true) × AreOf bytes n
WaitsFor bytes (Covered n) = AreOf bytes n
WaitsFor bytes process = ⊥

-- its checkpoint is durable
abbrev pub covered : Process → Process
covered (Up n) = Covered n
covered process = process

-- it was told that its checkpoint is durable. If it waits for none it doesn't change
abbrev pub IsTold : Process → Process → Type 0
IsTold (Up n) new = (n.frozen ≡ false) × Becomes Up new (λ m. nodes.Saves n m)
IsTold (Covered n) new = Becomes Up new (λ m. (m ≡ saved n) × nodes.Saves n m)
IsTold process new = ⊥

-- it was suspended, and goes on with these limits: the same node, in the same incarnation, without the packets that waited
abbrev pub Wakes : Limits → Process → Process → Type 0
Wakes limits (Up n) new = CanSuspend n × Becomes Up new (λ m. m ≡ woken limits n)
Wakes limits process new = ⊥

-- the process was killed
abbrev pub IsKilled : Process → Type 0
IsKilled Killed = Unit {0}
IsKilled process = ⊥

-- a process came back from these bytes in this incarnation, with some limits
abbrev pub ComesFrom : List ℕ → ℕ → TheCollecting → Type 0
ComesFrom bytes life n = (k : Kept)
    × (IsKept k bytes × (((limits : Limits) × (n ≡ collects.revived limits k life)) × collecting.Revives k life n))

-- ---- which process one of a host is

-- by its stage. It is between two stages only inside a call
abbrev pub stage_of : Lifecycle → Process
stage_of (lifecycle.Up n) = Up n
stage_of (lifecycle.Collecting n) = Collects n
stage_of (lifecycle.Replaying n) = Replays n
stage_of (lifecycle.Replayed n) = Replayed n
stage_of (lifecycle.Restoring n) = Restores n
stage_of lifecycle.Passing = Killed

-- and by its checkpoint
abbrev pub seen : Checkpoint → Lifecycle → Process
seen Durable c = covered (stage_of c)
seen other c = stage_of c

-- and by its host: one that was suspended is what it was
abbrev pub as_process : Hosted → Process
as_process (Runs process checkpoint) = seen checkpoint process.lifecycle
as_process (Sleeps process bytes) = stage_of process.lifecycle
as_process other = Killed

-- whether it is up, also while it waits for its checkpoint
abbrev pub is_up : Process → Bool
is_up (Up n) = true
is_up (Covered n) = true
is_up process = false
