use Rattle.std.proofs.Common.{◌+◌, ◌*◌}
use Rattle.c_runs.specs.CallRecord.{AreIn, IsSentAt}
use Rattle.c_runs.proofs.call_record.sends_in.Given as goal

abbrev pub invariant-loop-k : goal.invariant-loop-k
invariant-loop-k l = AreIn (λ k. IsSentAt l.bytes (64 + 272 * k)) l.k l.sends.items
