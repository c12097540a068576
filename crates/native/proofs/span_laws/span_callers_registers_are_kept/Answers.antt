use Rattle.native.proofs.Callers.{keeps_callers}
use Rattle.native.proofs.span_laws.span_callers_registers_are_kept.Goals as goal

pub returns : goal.returns
returns c code who m len s last h = keeps_callers s last h.rbx h.rbp h.r12 h.r13 h.r14 h.r15
