-- Checkpoints of a process
use Rattle.std.specs.Prelude.{◌≡◌, ◌≤◌, ◌<◌, List, ℕ, length, true}
use Rattle.limits.specs.declared.TheConstants.{STATE_BYTES}
use Rattle.packets.specs.Kept.{IsKept}
use Rattle.node.specs.declared.kept.TheConstants.{MOST_KEPT}
use Rattle.node.specs.Kept.{kept_of, Covers}
use Rattle.recovery.specs.declared.lifecycle.Lifecycle.{Lifecycle}
use Rattle.recovery.specs.declared.lifecycle.Lifecycle.TheVariants.{Up}
use Rattle.process.specs.Process.{state_of}
use Rattle.process.specs.Calls.{may_freeze, standing_at}

-- a checkpoint can be made and written: the process is up, works on nothing and waits for no checkpoint, and its state and its logs fit the
-- bytes
pub record IsSavable (c : Lifecycle) : Type 0 where
  pub may : may_freeze c ≡ true
  pub state : length (state_of c) ≤ STATE_BYTES
  pub entries : (standing_at c).entries < MOST_KEPT

-- the bytes are those of its node's kept state, and cover what the node has
abbrev pub Keeps : Lifecycle → List ℕ → Type 0
Keeps (Up n) bytes = IsKept (kept_of n) bytes × Covers (kept_of n) n
Keeps other bytes = ⊥
