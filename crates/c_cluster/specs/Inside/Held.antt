-- What a handle owns
use base.Fml.{Fml, ftrue}
use denote.RawPtr.{Ptr}
use Rattle.std.specs.Prelude.{Option, Some, None}
use Rattle.std.specs.Global.{Global}
use Rattle.std.specs.Box.Ownership.{box_owns}
use Rattle.std_heap.specs.contracts.GlobalAllocator.TheImpl.{ghosts}
use Rattle.gateway.specs.contracts.gateway.Gateway as gateway

-- the box of a gateway at a pointer, or nothing
abbrev pub held_gateway : Global → Ptr → Option (gateway.the_row).Denot → Fml
held_gateway alloc p (Some x) = box_owns (ghosts.dealloc_token alloc) gateway.the_row p x
held_gateway alloc p None = ftrue
