use Rattle.interp.specs.CallArray.{IsLeft, state_in}
use Rattle.c_runs.specs.Arrays.{span_image}
use Rattle.c_runs.proofs.CallLemmas.{Reported}
use Rattle.c_runs.proofs.span_array.call_spans.Given as goal

abbrev pub invariant-calls : goal.invariant-calls
invariant-calls l = record { reported : Reported (span_image l.program) l.who l.fn.state l.messages l.fn.out l.i (state_in l.program.len l.mem) l.out l.end; left : IsLeft 64 l.program.len l.mem }
