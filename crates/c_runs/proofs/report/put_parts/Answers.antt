use Rattle.std.proofs.Common.{refl}
use Rattle.c_runs.proofs.Reports.{report_written}
use Rattle.c_runs.proofs.report.put_parts.Goals as goal

pub returns : goal.returns
returns c =
    let w = report_written c.args.out.now c.put_number-end.new.out c.put_number-end-2.new.out c.put_number-end-3.new.out c.put_number-end-4.new.out c.put_sends-end.new.out c.put_outputs.new.out c.args.at c.put_number-end.result c.put_number-end-2.result c.put_number-end-3.result c.put_number-end-4.result c.put_sends-end.result c.put_outputs.result c.args.r0 c.args.steps c.args.steps c.args.sends.now c.args.outputs.now (record { sends = c.args.sends.now; outputs = c.args.outputs.now }) refl refl refl c.requires.room c.requires.few_sends c.requires.few_outputs c.put_sends-end.ensures.size c.put_outputs.ensures.size c.put_number-end.ensures.written c.put_number-end.ensures.end c.put_number-end-2.ensures.written c.put_number-end-2.ensures.end c.put_number-end-3.ensures.written c.put_number-end-3.ensures.end c.put_number-end-4.ensures.written c.put_number-end-4.ensures.end c.put_sends-end.ensures.written c.put_sends-end.ensures.end c.put_outputs.ensures.written c.put_outputs.ensures.end in
    record { written = w.0; end = w.1; size = w.2 }
