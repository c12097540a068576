use Rattle.std.proofs.Common.{◌≡◌, ◌<◌, ◌≤◌, ℕ, [], length}
use Rattle.std.specs.Prelude.{slice_index_or}
use Rattle.node.specs.Node.{log_at}
use Rattle.node.specs.Suspension.{numbered_by}
use Rattle.recovery.proofs.resumption.number.Given as goal

abbrev pub invariant-loop-place : goal.invariant-loop-place
invariant-loop-place l =
    record {
      long : length l.logs.items ≡ length l.fn.logs.items;
      below : (k : ℕ) → k < l.place → log_at l.logs.items k ≡ numbered_by (slice_index_or l.codes k []) (log_at l.fn.logs.items k);
      above : (k : ℕ) → l.place ≤ k → log_at l.logs.items k ≡ log_at l.fn.logs.items k;
    }
