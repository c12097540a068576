-- What a host reads of a recovering process
use Rattle.std.specs.Prelude.{ℕ, zero, suc, ◌+◌, ◌^◌, ◌-◌, length, Bool, not, ◌&&◌, ◌==◌, if◌then◌else◌}
use Rattle.node.specs.declared.status.Stage.{Stage}
use Rattle.node.specs.declared.status.Stage.TheVariants as stage
use Rattle.node.specs.declared.status.Standing.{Standing}
use Rattle.node.specs.Status.{entries_kept}
use Rattle.recovery.specs.Own.{TheOwn}
use Rattle.recovery.specs.Collection.{TheCollecting, told_of}
use Rattle.recovery.specs.Replays.{TheReplaying}
use Rattle.recovery.specs.Replayed.{TheReplayed}

-- a bit for each number below d for which this holds
abbrev pub bits_of : (ℕ → Bool) → ℕ → ℕ
bits_of f zero = 0
bits_of f (suc d) = bits_of f d + (if f d then 2 ^ d else 0)

-- the status in a stage, with this many messages since its checkpoint, and this many to replay
abbrev pub standing_in : Stage → ℕ → ℕ → TheOwn → Standing
standing_in at receipts replays o =
    record {
      length = o.base + receipts;
      base = o.base;
      incarnation = o.life;
      stage = at;
      exact = o.exact;
      receipts = receipts;
      entries = entries_kept o.logs;
      packets = length o.out;
      replays = replays;
      waited_for = 0;
    }

-- a peer hasn't told all
abbrev pub is_asked : TheCollecting → ℕ → Bool
is_asked n q = not (q == n.own.me) && not (told_of n.told q).done

-- the status while it collects: it waits for these peers
abbrev pub collecting_standing : TheCollecting → Standing
collecting_standing n = record (standing_in stage.Collecting 0 0 n.own) { waited_for = bits_of (is_asked n) (n.own.count + 1) }

-- the status while it replays: what it has replayed came after its checkpoint
abbrev pub replaying_standing : TheReplaying → Standing
replaying_standing n = standing_in stage.Replaying n.done (length n.plan - n.done) n.own

-- the status once all is replayed
abbrev pub replayed_standing : TheReplayed → Standing
replayed_standing n = standing_in stage.Replaying (length n.receipts.senders) 0 n.own
