-- What a handle owns
use base.Fml.{Fml, ftrue}
use denote.RawPtr.{Ptr}
use Rattle.std.specs.Prelude.{Option, Some, None}
use Rattle.std.specs.Global.{Global}
use Rattle.std.specs.Box.Ownership.{box_owns}
use Rattle.std_heap.specs.contracts.GlobalAllocator.TheImpl.{ghosts}
use Rattle.process.specs.contracts.process.Member as member

-- the box of a process at a pointer, or nothing
abbrev pub held_process : Global → Ptr → Option (member.the_row).Denot → Fml
held_process alloc p (Some x) = box_owns (ghosts.dealloc_token alloc) member.the_row p x
held_process alloc p None = ftrue
