-- The box that a handle of a gateway keeps
use Rattle.c_handles.proofs.Steps.{Bx, on_heap}
use Rattle.gateway.specs.contracts.gateway.Gateway as Gateway
use Rattle.gateway.proofs.gateway.Gateway.TheLaws as gateway

abbrev pub OfGateway : Bx
OfGateway = on_heap Gateway.the_row gateway.the_row_laws
