use Rattle.std.proofs.Common.{◌+◌, ◌*◌}
use Rattle.c_runs.specs.CallRecord.{AreIn, IsPayloadAt}
use Rattle.c_runs.proofs.call_record.outputs_in.Given as goal

abbrev pub invariant-loop-k : goal.invariant-loop-k
invariant-loop-k l = AreIn (λ k. IsPayloadAt l.bytes (2240 + 272 * k)) l.k l.outputs.items
