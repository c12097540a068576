use Rattle.std.proofs.Common.{rules}
use Rattle.c_runs.proofs.Reports.{sent_more}
use Rattle.c_runs.proofs.report.put_sends.Goals as goal

pub loop-sent-preserved : goal.loop-sent-preserved
loop-sent-preserved c =
    sent_more c.args.out.now c.loop-sent.out c.put-end.new.out c.put-end-in-loop-sent.new.out c.view64.result.now c.args.at c.loop-sent.sent-index c.loop-sent.end c.put-end.result c.put-end-in-loop-sent.result c.args.sends.now c.sent-item.result c.loop-sent.invariant c.requires c.loop-sent-test.true (search rules) c.view64.ensures c.put-end.ensures.written c.put-end.ensures.end c.put-end-in-loop-sent.ensures.written c.put-end-in-loop-sent.ensures.end
