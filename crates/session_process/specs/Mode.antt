-- What a process does, as its mode says
use Rattle.std.specs.Prelude.{length, slice_get, Option, Some, None, Bool, true, false, not, nat_lt, if◌then◌else◌}
use Rattle.std.specs.List.{list_all}
use Rattle.world.specs.declared.message.Message.{Message}
use Rattle.session_process.specs.declared.mode.Mode.{Mode}
use Rattle.session_process.specs.declared.mode.Peers.{Peers}
use Rattle.session_process.specs.declared.mode.Mode.TheVariants as modes

-- whether it is up
abbrev pub is_live : Mode → Bool
is_live modes.Live = true
is_live modes.Down = false
is_live (modes.Replaying plan alone) = false
is_live (modes.Resync peers) = false

-- whether it is down
abbrev pub is_lost : Mode → Bool
is_lost modes.Live = false
is_lost modes.Down = true
is_lost (modes.Replaying plan alone) = false
is_lost (modes.Resync peers) = false

-- whether it came back alone, if it has replayed all of its plan
abbrev pub is_replayed : Mode → Option Bool
is_replayed modes.Live = None
is_replayed modes.Down = None
is_replayed (modes.Replaying plan alone) = if nat_lt plan.replayed (length plan.messages) then None else Some alone
is_replayed (modes.Resync peers) = None

-- whether no peer is left
abbrev pub has_no_peer : Peers → Bool
has_no_peer peers = list_all not peers.todo

-- the message that is to be replayed next
abbrev pub next_job : Mode → Option Message
next_job modes.Live = None
next_job modes.Down = None
next_job (modes.Replaying plan alone) = slice_get plan.messages plan.replayed
next_job (modes.Resync peers) = None
