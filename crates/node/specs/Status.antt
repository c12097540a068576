-- The status of a node
use Rattle.std.specs.Prelude.{ℕ, ◌+◌, ◌-◌, ◌^◌, List, length, min, sum_by, Option, Some, None, Bool, true, false}
use Rattle.node.specs.declared.job.OpenJob.{OpenJob}
use Rattle.node.specs.declared.status.Stage.{Stage}
use Rattle.node.specs.declared.status.Stage.TheVariants.{Up, Busy, Frozen, Collecting, Replaying, Resuming}
use Rattle.node.specs.declared.status.Standing.{Standing}
use Rattle.node.specs.Queue.{TheQueue}
use Rattle.node.specs.Node.{TheNode}

-- 0 to 5
abbrev pub stage_number : Stage → ℕ
stage_number Up = 0
stage_number Busy = 1
stage_number Frozen = 2
stage_number Collecting = 3
stage_number Replaying = 4
stage_number Resuming = 5

-- a node that is up waits for its checkpoint, works on a message, or takes one
abbrev pub stage_at : Bool → Option OpenJob → Stage
stage_at true o = Frozen
stage_at false None = Up
stage_at false (Some j) = Busy

-- how many messages its logs keep, or the greatest number if there are more
abbrev pub entries_kept : List TheQueue → ℕ
entries_kept logs = min (sum_by (λ (q : TheQueue). length q.payloads) logs) (2 ^ 64 - 1)

-- the status of a node that is up: it has nothing to replay, and waits for no peer
abbrev pub standing_of : TheNode → Standing
standing_of n =
    record {
      length = n.base + length n.receipts.senders;
      base = n.base;
      incarnation = n.life;
      stage = stage_at n.frozen n.working;
      exact = n.exact;
      receipts = length n.receipts.senders;
      entries = entries_kept n.logs;
      packets = length n.out;
      replays = 0;
      waited_for = 0;
    }
