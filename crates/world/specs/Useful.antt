-- The calls that bring the work forward, which any worker may make
use Rattle.std.specs.Prelude.{ℕ, suc, zero, Option, Some, None, Bool, true, false, not, ◌&&◌, ◌||◌, ◌==◌, nat_le}
use Rattle.world.specs.declared.packet.Packet.{Packet}
use Rattle.world.specs.declared.packet.Packet.TheVariants.{Delivery, Number, Acknowledgement}
use Rattle.world.specs.declared.call.Call.{Call}
use Rattle.world.specs.declared.call.Call.TheVariants.{Input, Transmit, Arrive, Finish, ReplayBegin, Resync as ResyncWith}
use Rattle.world.specs.History.{count_of, rsn_of}
use Rattle.world.specs.Phases.{Phase, Busy, is_up, is_working, is_replaying, todo_of, has}
use Rattle.world.specs.World.{World}
use Rattle.world.specs.Logs.{released_to, is_entry}
use Rattle.world.specs.Bounds.{WIRE, is_none, any_below}
use Rattle.world.specs.Refusals.{is_to_busy}

-- calls that any worker may make at any time
abbrev pub is_free : Call → Bool
is_free (Input d feed x) = true
is_free (Finish p) = true
is_free call = false

-- whether a message was received under an RSN, and it is k
abbrev pub is_at : Option ℕ → ℕ → Bool
is_at None k = false
is_at (Some m) k = m == k

-- whether a packet is p's message to d with this SSN, or tells d's present number for it, or acknowledges that number
abbrev pub belongs : World → ℕ → ℕ → ℕ → Option Packet → Bool
belongs w p d i None = false
belongs w p d i (Some (Delivery to m)) = (to == d) && (m.sender == p) && (m.ssn == i)
belongs w p d i (Some (Number r s j k incarnation)) = (r == d) && (s == p) && (j == i) && (incarnation == w.incarnation d)
belongs w p d i (Some (Acknowledgement s r k incarnation)) = (r == d) && (s == p) && (incarnation == w.incarnation d)
    && is_at (rsn_of (w.history d) p i) k

-- whether a process in this phase works on this message
abbrev pub works_on : Phase → ℕ → ℕ → Bool
works_on (Busy m) p i = (m.sender == p) && (m.ssn == i)
works_on phase p i = false

-- whether a message was received under a number that isn't acknowledged. None is a message that wasn't received
abbrev pub is_unacknowledged : (ℕ → Bool) → Option ℕ → Bool
is_unacknowledged acknowledged None = false
is_unacknowledged acknowledged (Some k) = not (acknowledged k)

-- whether d wants p's message with this SSN: it is the next to be shown; or d is up, and it is the next of p and d doesn't work on
-- it; or d is up and has it under a number that isn't acknowledged
abbrev pub wants : World → ℕ → ℕ → ℕ → Bool
wants w p zero i = i == suc (count_of p w.shown)
wants w p (suc d) i =
    is_up (w.phase (suc d))
    && ((not (works_on (w.phase (suc d)) p i) && (i == suc (count_of p (w.history (suc d)))))
    || is_unacknowledged (w.acknowledged (suc d)) (rsn_of (w.history (suc d)) p i))

-- whether a call is of use now: a packet arrives that isn't a message for a process with an open job, a message is replayed, a peer
-- restores numbers, or a released message that its receiver wants goes on the wire while no packet of that message is there
abbrev pub is_useful : World → Call → Bool
is_useful w (Arrive key) = not (is_none (w.wire key)) && not (is_to_busy w (w.wire key))
is_useful w (ReplayBegin p) = is_replaying (w.phase p) && not (is_working (w.phase p))
is_useful w (ResyncWith p r) = has (todo_of (w.phase p)) r && is_up (w.phase r)
is_useful w (Transmit p d i) =
    is_up (w.phase p) && is_entry w p d i && nat_le i (released_to w p d)
    && not (any_below (λ key. belongs w p d i (w.wire key)) WIRE) && wants w p d i
is_useful w call = false

-- worker 0 may make any call, the others only free and useful ones
abbrev pub may_call : World → ℕ → Call → Bool
may_call w worker call = (worker == 0) || (is_free call || is_useful w call)
