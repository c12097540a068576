use Rattle.std.proofs.Common.{◌≡◌, length, refl, sym, subst, arith}
use Rattle.regtypes.specs.declared.frame.Region.TheVariants.{Message, State}
use Rattle.interp.specs.Configuration.{IsLong}
use Rattle.interp.specs.Flat.{part}
use Rattle.interp.specs.HandlerCall.{Handled}
use Rattle.interp.proofs.FlatCalls.{handled_in}
use Rattle.interp.proofs.Parts.{length-range}
use Rattle.c_runs.proofs.FlatRuns.{has_run}
use Rattle.c_runs.proofs.array.call_once.Goals as goal

pub call_flat-end-requires-clause-long : goal.call_flat-end-requires-clause-long
call_flat-end-requires-clause-long c = subst (λ f. IsLong f 64) (sym c.requires.form) refl

pub returns-clause-reported : goal.returns-clause-reported
returns-clause-reported c =
    let p = c.args.image.now in
    let mem = c.args.mem.now in
    let end = c.call_flat-end in
    let written = c.put_report.ensures in
    let message = part 64 p.len Message mem in
    let size : length message ≡ 64 = length-range mem 0 64 (omega (arith, c.told-mem)) in
    let left : Handled = record { state = part 64 p.len State end.new.mem; effects = end.new.out; r0 = end.result.r0; steps = end.result.steps } in
    let run = handled_in p.form p.slots c.args.who 64 p.len (part 64 p.len State mem) message mem end.new.mem end.new.out end.result.r0 end.result.steps (record { state_is = refl; message_is = refl; holds = c.requires.holds }) end.ensures.handled in
    record {
      handled = left;
      handles = has_run p c.args.who (part 64 p.len State mem) message left c.code-code.ensures.slots size run;
      state_is = refl;
      out_is = written.written;
      end_is = written.end;
      size = written.size;
    }
