-- The box that a handle keeps
use Rattle.c_handles.proofs.Steps.{Bx, on_heap}
use Rattle.process.specs.contracts.process.Member as Member
use Rattle.process.proofs.process.Member.TheLaws as member

abbrev pub OfProcess : Bx
OfProcess = on_heap Member.the_row member.the_row_laws
