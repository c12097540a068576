-- A process and its host
use Rattle.std.specs.Prelude.{◌≡◌, ℕ, ◌<◌, ◌≤◌, List, Bool, true}
use Rattle.node.specs.Node.{TheNode}
use Rattle.recovery.specs.declared.lifecycle.Lifecycle.TheVariants.{Up}
use Rattle.process.specs.Calls.{standing_at}
use Rattle.process.specs.Process.{TheProcess}

-- one of the first n processes
abbrev pub IsFirst : ℕ → ℕ → Type 0
IsFirst n p = (0 < p) × (p ≤ n)

-- the stage of a checkpoint
pub data Checkpoint : Type 0 where
  -- there is none
  Absent : Checkpoint
  -- the process waits for it, and these bytes are to be stored
  Pending : List ℕ → Checkpoint
  -- it is stored, and the process wasn't told so yet
  Durable : Checkpoint

-- the process that runs, and its checkpoint; one that was suspended, of which its host has only these bytes; or no process
pub data Hosted : Type 0 where
  Runs : TheProcess → Checkpoint → Hosted
  Sleeps : TheProcess → List ℕ → Hosted
  Killed : Hosted

-- it runs, and this holds of it
abbrev pub Alive : (TheProcess → Type 0) → Hosted → Type 0
Alive P (Runs process checkpoint) = P process
Alive P other = ⊥

-- this holds of its checkpoint
abbrev pub Has : (Checkpoint → Type 0) → Hosted → Type 0
Has P (Runs process checkpoint) = P checkpoint
Has P other = ⊥

-- it was suspended, and this holds of its bytes
abbrev pub Asleep : (List ℕ → Type 0) → Hosted → Type 0
Asleep P (Sleeps process bytes) = P bytes
Asleep P other = ⊥

-- the process after a call
abbrev pub goes_on : TheProcess → Hosted → Hosted
goes_on new (Runs process checkpoint) = Runs new checkpoint
goes_on new other = other

-- it is suspended, and these are its bytes
abbrev pub sleeps : List ℕ → Hosted → Hosted
sleeps bytes (Runs process checkpoint) = Sleeps process bytes
sleeps bytes other = other

-- its checkpoint is durable
abbrev pub keeps : Hosted → Hosted
keeps (Runs process checkpoint) = Runs process Durable
keeps other = other

-- ---- what its host sees of it

-- it tells that it is exact; one that was killed tells nothing
abbrev pub is_exact : Hosted → Bool
is_exact (Runs process checkpoint) = (standing_at process.lifecycle).exact
is_exact (Sleeps process bytes) = (standing_at process.lifecycle).exact
is_exact Killed = true

-- it is up as this node, also while it is suspended
abbrev pub IsUp : TheNode → Hosted → Type 0
IsUp node (Runs process checkpoint) = process.lifecycle ≡ Up node
IsUp node (Sleeps process bytes) = process.lifecycle ≡ Up node
IsUp node Killed = ⊥
