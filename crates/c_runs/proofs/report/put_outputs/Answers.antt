use Rattle.std.proofs.Common.{rules, ap, ◌∙◌}
use Rattle.helpers.specs.Payload.{view64}
use Rattle.c_runs.proofs.Reports.{output_more}
use Rattle.c_runs.proofs.report.put_outputs.Goals as goal

pub loop-output-preserved : goal.loop-output-preserved
loop-output-preserved c =
    output_more c.args.out.now c.loop-output.out c.put-end.new.out c.view64.result.now c.args.at c.loop-output.output-index c.loop-output.end c.put-end.result c.args.outputs.now c.output-item.result c.loop-output.invariant c.requires c.loop-output-test.true (c.view64.ensures ∙ ap view64 (search rules)) c.put-end.ensures.written c.put-end.ensures.end
