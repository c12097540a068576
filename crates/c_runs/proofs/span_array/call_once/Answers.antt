use Rattle.std.proofs.Common.{refl}
use Rattle.std.specs.Prelude.{slice_range}
use Rattle.decode.specs.Slots.{slots_of}
use Rattle.verifier.specs.declared.file_form.FileForm.TheVariants.{Sbi3}
use Rattle.interp.specs.CallArray.{state_in}
use Rattle.interp.specs.HandlerCall.{Handled}
use Rattle.interp.proofs.RunLemmas.{handled}
use Rattle.c_runs.proofs.span_array.call_once.Goals as goal

pub returns-clause-reported : goal.returns-clause-reported
returns-clause-reported c =
    let p = c.args.program.now in
    let mem = c.args.mem.now in
    let end = c.span_call_flat-end in
    let written = c.put_report.ensures in
    let left : Handled = record { state = state_in p.len end.new.mem; effects = end.new.out; r0 = end.result.r0; steps = end.result.steps } in
    record {
      handled = left;
      handles = (handled Sbi3 (slots_of p.code) c.args.who (state_in p.len mem) (slice_range mem 0 64) left end.ensures.answer).0;
      state_is = refl;
      out_is = written.written;
      end_is = written.end;
      size = written.size;
    }
