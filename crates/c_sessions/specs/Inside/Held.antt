-- What a handle owns
use base.Fml.{Fml, ftrue}
use denote.RawPtr.{Ptr}
use Rattle.std.specs.Prelude.{Option, Some, None}
use Rattle.std.specs.Global.{Global}
use Rattle.std.specs.Box.Ownership.{box_owns}
use Rattle.std_heap.specs.contracts.GlobalAllocator.TheImpl.{ghosts}
use Rattle.sessions.specs.contracts.service.Service.{the_row}

-- a pointer owns the box of a service, or nothing
abbrev pub held_service : Global → Ptr → Option the_row.Denot → Fml
held_service alloc p (Some x) = box_owns (ghosts.dealloc_token alloc) the_row p x
held_service alloc p None = ftrue
