-- What a host reads of a process that restores its RSNs
use Rattle.std.specs.Prelude.{ℕ, ◌+◌, Bool, not}
use Rattle.node.specs.declared.status.Stage.TheVariants as stage
use Rattle.node.specs.declared.status.Standing.{Standing}
use Rattle.recovery.specs.Queries.{bits_of, replayed_standing}
use Rattle.recovery.specs.Restoration.{TheRestoring, has_answered, replayed_of}

-- a peer hasn't told all
abbrev pub is_asked : TheRestoring → ℕ → Bool
is_asked n q = not (has_answered q n)

-- the status: it waits for these peers
abbrev pub restoring_standing : TheRestoring → Standing
restoring_standing n =
    record (replayed_standing (replayed_of n)) { stage = stage.Resuming; waited_for = bits_of (is_asked n) (n.own.count + 1) }
