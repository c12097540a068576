use Rattle.std.proofs.Common.{ℕ, List, ◌+◌, ◌*◌, sym, subst}
use Rattle.c_runs.specs.CallRecord.{IsPayloadAt, AreIn}
use Rattle.c_runs.proofs.CallRecords.{one_more}
use Rattle.c_runs.proofs.call_record.outputs_in.Goals as goal

pub loop-k-preserved : goal.loop-k-preserved
loop-k-preserved c =
    subst (λ xs. AreIn {A = List ℕ} (λ k. IsPayloadAt c.args.bytes.now (2240 + 272 * k)) (c.loop-k.k + 1) xs) (sym c.push.ensures.items)
    (one_more (λ k. IsPayloadAt c.args.bytes.now (2240 + 272 * k)) c.loop-k.k c.loop-k.outputs.items c.in_ok-payload.payload c.loop-k.invariant c.in_ok-payload.ensures)
