use Rattle.std.proofs.Common.{◌+◌, ◌*◌, sym, subst}
use Rattle.helpers.specs.declared.effects.Sent.{Sent}
use Rattle.c_runs.specs.CallRecord.{IsSentAt, AreIn}
use Rattle.c_runs.proofs.CallRecords.{one_more}
use Rattle.c_runs.proofs.call_record.sends_in.Goals as goal

pub loop-k-preserved : goal.loop-k-preserved
loop-k-preserved c =
    subst (λ xs. AreIn {A = Sent} (λ k. IsSentAt c.args.bytes.now (64 + 272 * k)) (c.loop-k.k + 1) xs) (sym c.push.ensures.items)
    (one_more (λ k. IsSentAt c.args.bytes.now (64 + 272 * k)) c.loop-k.k c.loop-k.sends.items c.in_ok-sent.sent c.loop-k.invariant c.in_ok-sent.ensures)
