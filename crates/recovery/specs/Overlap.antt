-- A recovering process answers a peer that is recovering too
use Rattle.std.specs.Prelude.{ℕ, [], Bool, true, false, ◌&&◌, nat_lt, if◌then◌else◌, slice_index_or, slice_set}
use Rattle.packets.specs.Packet.{is_lost, flags_of, in_range}
use Rattle.packets.specs.declared.packet.Body.{Body}
use Rattle.packets.specs.declared.packet.Body.TheVariants.{Ask, Told}
use Rattle.packets.specs.declared.packet.NodePacket.{NodePacket}
use Rattle.node.specs.Queue.{forgotten_above}
use Rattle.node.specs.Node.{log_at}
use Rattle.recovery.specs.Own.{TheOwn, posts, is_for, hears}

-- a Told that says that all is lost
abbrev pub is_loss : Body → Bool
is_loss (Told i j k flags entries) = is_lost flags
is_loss body = false

-- the answer to an Ask of the incarnation i, for what is above k: this is all, it is lost, and the teller isn't exact
abbrev pub loss_of : ℕ → ℕ → TheOwn → Body
loss_of i k o = Told i o.life k (flags_of true true false) []

-- answers a peer that all is lost
abbrev pub tells_loss : ℕ → ℕ → ℕ → TheOwn → TheOwn
tells_loss q i k o = posts q (loss_of i k o) o

-- the greatest incarnation of a peer that it heard
abbrev pub heard_of : ℕ → TheOwn → ℕ
heard_of q o = slice_index_or o.heard q 0

-- a process that has recovered hears that a peer is recovering: it forgets all RSNs of that one, and is no longer exact
abbrev pub meets : ℕ → ℕ → TheOwn → TheOwn
meets q i o = record (hears q i o) { exact = false; logs = slice_set o.logs q (forgotten_above 0 (log_at o.logs q)) }

-- takes an Ask: drops one of an earlier incarnation, answers any other, and hears a newer one
abbrev pub asked_by : ℕ → ℕ → ℕ → TheOwn → TheOwn
asked_by q i k o = if nat_lt i (heard_of q o) then o else tells_loss q i k (if nat_lt (heard_of q o) i then meets q i o else o)

-- takes what another node says: drops all except Asks
abbrev pub heard : ℕ → Body → TheOwn → TheOwn
heard from (Ask i k) o = asked_by from i k o
heard from body o = o

-- takes a packet
abbrev pub handed : NodePacket → TheOwn → TheOwn
handed x o = if is_for o x && in_range x.body then heard x.from x.body o else o
