-- The ranges of the first fields of a file.
use Rattle.std.specs.Prelude.{◌≤◌}
use Rattle.limits.specs.declared.TheConstants.{PROCESSES, RECEIPTS, STATE_BYTES}
use Rattle.checkpoint.specs.declared.fields.CheckpointHead.{CheckpointHead}

-- each of the first fields is in its range
pub record HeadFits (head : CheckpointHead) : Type 0 where
  pub state : head.state ≤ STATE_BYTES
  pub some : 1 ≤ head.count
  pub few : head.count ≤ PROCESSES
  pub least : 1 ≤ head.me
  pub own : head.me ≤ head.count
  pub received : head.received ≤ RECEIPTS
