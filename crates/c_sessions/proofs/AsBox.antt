-- The box that a handle keeps
use Rattle.c_handles.proofs.Steps.{Bx, on_heap}
use Rattle.sessions.specs.contracts.service.Service as Service
use Rattle.sessions.proofs.service.Service.TheLaws as service

abbrev pub OfService : Bx
OfService = on_heap Service.the_row service.the_row_laws
