-- The gateway after it takes a packet
use Rattle.std.specs.Prelude.{ℕ, ◌+◌, List, [], length, map, min, Bool, true, false, not, ◌&&◌, ◌||◌, ◌==◌, nat_lt, nat_le, if◌then◌else◌}
use Rattle.packets.specs.Packet.{in_range, flags_of}
use Rattle.packets.specs.declared.page.LoggedMessage.{LoggedMessage}
use Rattle.packets.specs.declared.packet.Body.{Body}
use Rattle.packets.specs.declared.packet.Body.TheVariants.{Delivery, Number, Acknowledgement, Ask, Told, Resume, Restored, Saved}
use Rattle.packets.specs.declared.packet.NodePacket.{NodePacket}
use Rattle.packets.specs.Pages.{entries_above, page_of}
use Rattle.stores.specs.declared.peer.Logged.{Logged}
use Rattle.stores.specs.declared.change.Output.{Output}
use Rattle.stores.specs.declared.change.Change.TheVariants.{Numbered, Dropped, Heard, Forgotten, Shown}
use Rattle.stores.specs.Peer.{ThePeer, last_of, is_kept}
use Rattle.gateway.specs.Gateway.{TheGateway, peer_of, posts, happens}

-- a packet is from a process of this cluster to the gateway, and its fields are in range
abbrev pub is_for : TheGateway → NodePacket → Bool
is_for g x = (x.count == length g.store.peers) && (x.to == 0) && nat_lt 0 x.from && nat_le x.from x.count && in_range x.body

-- tells the process p how many of its outputs were shown
abbrev pub says_shown : ℕ → TheGateway → TheGateway
says_shown p g = posts p (Saved (peer_of p g).shown) g

-- the output is the next of its process
abbrev pub is_next : Output → TheGateway → Bool
is_next o g = o.ssn == (peer_of o.process g).shown + 1

-- takes a message: shows the next one; drops one that is early or of another incarnation
abbrev pub arrived : ℕ → Output → TheGateway → TheGateway
arrived i o g =
    if not (i == (peer_of o.process g).heard) || nat_lt ((peer_of o.process g).shown + 1) o.ssn then g
    else says_shown o.process (if is_next o g then happens (Shown o) g else g)

-- takes an RSN: if it is of an entry and of the incarnation that was heard, records and acknowledges it
abbrev pub recorded_by : ℕ → ℕ → ℕ → ℕ → TheGateway → TheGateway
recorded_by p i ssn k g =
    if (i == (peer_of p g).heard) && is_kept ssn (peer_of p g) then posts p (Acknowledgement i k) (happens (Numbered p ssn k) g) else g

-- the first messages to p are covered for good: drops them from the log, as far as there are any
abbrev pub dropped_by : ℕ → ℕ → TheGateway → TheGateway
dropped_by p k g = let s = min k (last_of (peer_of p g)) in if nat_le s (peer_of p g).dropped then g else happens (Dropped p s) g

-- the entries of the log for a process with an RSN above k, by RSN
abbrev pub entries_in : ℕ → ThePeer → List LoggedMessage
entries_in k p = entries_above k p.dropped (map (λ (e : Logged). e.payload) p.entries) (map (λ (e : Logged). e.number) p.entries)

-- the first page of them
abbrev pub told_page : ℕ → ℕ → TheGateway → List LoggedMessage
told_page p k g = page_of g.page (entries_in k (peer_of p g))

-- whether that page has all of them
abbrev pub told_all : ℕ → ℕ → TheGateway → Bool
told_all p k g = length (told_page p k g) == length (entries_in k (peer_of p g))

-- the answer to an Ask of p
abbrev pub told_of : ℕ → ℕ → ℕ → TheGateway → Body
told_of p i k g = Told i 1 k (flags_of (told_all p k g) false true) (told_page p k g)

-- takes an Ask: hears its incarnation if that is newer, and answers it
abbrev pub asked : ℕ → ℕ → ℕ → TheGateway → TheGateway
asked p i k g =
    if nat_lt i (peer_of p g).heard then g else posts p (told_of p i k g)
    (if i == (peer_of p g).heard then g else happens (Heard p i false) g)

-- obeys the Resume of a process that keeps k messages
abbrev pub obeyed : ℕ → ℕ → ℕ → TheGateway → TheGateway
obeyed p i k g = happens (Heard p i true) (happens (Forgotten p k) g)

-- the answer to a Resume of p: how many of its outputs were shown, and nothing else
abbrev pub restored_of : ℕ → ℕ → ℕ → TheGateway → Body
restored_of p i s g = Restored i 1 (peer_of p g).shown s (flags_of true false true) []

-- answers a Resume of p
abbrev pub restores : ℕ → ℕ → ℕ → TheGateway → TheGateway
restores p i s g = posts p (restored_of p i s g) g

-- takes a Resume: if it is of the last incarnation, obeys it once, and answers it
abbrev pub resumed_by : ℕ → ℕ → ℕ → ℕ → TheGateway → TheGateway
resumed_by p i k s g =
    if i == (peer_of p g).heard then restores p i s (if (peer_of p g).resumed then g else obeyed p i k g) else g

-- takes what a process says; a body that isn't named here is dropped
abbrev pub told : ℕ → Body → TheGateway → TheGateway
told p (Delivery i ssn x) g = arrived i (record { process = p; ssn = ssn; payload = x }) g
told p (Number i ssn k) g = recorded_by p i ssn k g
told p (Saved k) g = dropped_by p k g
told p (Ask i k) g = asked p i k g
told p (Resume i k s) g = resumed_by p i k s g
told p body g = g

-- takes a packet
abbrev pub handed : NodePacket → TheGateway → TheGateway
handed x g = if is_for g x then told x.from x.body g else g
