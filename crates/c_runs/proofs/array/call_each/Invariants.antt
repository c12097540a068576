use Rattle.regtypes.specs.declared.frame.Region.TheVariants.{State}
use Rattle.interp.specs.Flat.{part, IsSpent}
use Rattle.c_runs.specs.Arrays.{flat_image}
use Rattle.c_runs.proofs.CallLemmas.{Reported}
use Rattle.c_runs.proofs.array.call_each.Given as goal

abbrev pub invariant-calls : goal.invariant-calls
invariant-calls l = record { reported : Reported (flat_image l.image) l.who l.fn.state l.messages l.fn.out l.i (part 64 l.image.len State l.mem) l.out l.end; spent : IsSpent 64 l.image.len l.image.low l.mem }
