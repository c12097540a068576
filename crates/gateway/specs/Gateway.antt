-- The gateway as clauses see it, and what it sends
use Rattle.std.specs.Prelude.{◌≡◌, ℕ, zero, suc, ◌+◌, ◌≤◌, List, [], ◌∷◌, ◌++◌, length, take, replicate, is_none, nat_lt, true}
use Rattle.std.specs.Prelude.{if◌then◌else◌}
use Rattle.std.specs.List.{AllByRecursion}
use Rattle.packets.specs.declared.packet.Body.{Body}
use Rattle.packets.specs.declared.packet.Body.TheVariants.{Delivery}
use Rattle.packets.specs.declared.packet.NodePacket.{NodePacket}
use Rattle.packets.specs.Packet.{in_range}
use Rattle.packets.specs.Format.{HasRoom, Fits}
use Rattle.packets.specs.Outbox.{pushed}
use Rattle.packets.specs.declared.log_pages.TheConstants.{LEAST_PAGE}
use Rattle.stores.specs.declared.peer.Logged.{Logged}
use Rattle.stores.specs.declared.change.Change.{Change}
use Rattle.stores.specs.declared.change.Change.TheVariants.{Input, Taken}
use Rattle.stores.specs.Peer.{ThePeer, no_peer, last_of, payload_of}
use Rattle.stores.specs.Store.{TheStore, IsOf, peer_at, applied}
pub use Rattle.packets.specs.Packet.{IsPositive}

-- the greatest size of a packet, and how many messages to a process one tick sends again; what is kept in stable storage, and its changes
-- since the host asked for them; the packets that wait
pub record TheGateway : Type 0 where
  pub page : ℕ
  pub tick : ℕ
  pub store : TheStore
  pub changes : List Change
  pub out : List NodePacket

-- what a gateway's type keeps: its limits, and that each packet that waits can be written
pub record IsGateway (page tick : ℕ) (out : List NodePacket) : Type 0 where
  pub room : LEAST_PAGE ≤ page
  pub some : 1 ≤ tick
  -- each packet that waits can be written
  pub fit : AllByRecursion Fits out

-- the gateway of a new cluster
abbrev pub new_gateway : ℕ → ℕ → ℕ → TheGateway
new_gateway count page tick =
    record { page = page; tick = tick; store = record { peers = replicate count no_peer; outputs = [] }; changes = []; out = [] }

-- what it keeps of the process p
abbrev pub peer_of : ℕ → TheGateway → ThePeer
peer_of p g = peer_at p g.store

-- a packet from the gateway
abbrev pub packet_of : TheGateway → ℕ → Body → NodePacket
packet_of g to body = record { count = length g.store.peers; from = 0; to = to; body = body }

-- puts one more packet into the outbox, if there is room
abbrev pub posts : ℕ → Body → TheGateway → TheGateway
posts to body g = record g { out = pushed (packet_of g to body) g.out }

-- the gateway may say this to a process, and each field is in range
pub record CanSay (g : TheGateway) (to : ℕ) (body : Body) : Type 0 where
  pub process : IsOf to g.store
  pub room : HasRoom body
  pub range : in_range body ≡ true

-- makes a change of the store
abbrev pub happens : Change → TheGateway → TheGateway
happens k g = record g { store = applied k g.store; changes = g.changes ++ k ∷ [] }

-- sends a message that is kept
abbrev pub delivers : ℕ → ℕ → TheGateway → TheGateway
delivers p ssn g = posts p (Delivery 1 ssn (payload_of ssn (peer_of p g))) g

-- logs an input, and sends it
abbrev pub puts_in : ℕ → List ℕ → TheGateway → TheGateway
puts_in p x g = delivers p (last_of (peer_of p g) + 1) (happens (Input p x) g)

-- takes the first output, if there is one
abbrev pub hands_out : TheGateway → TheGateway
hands_out g = if nat_lt 0 (length g.store.outputs) then happens (Taken 1) g else g

-- the SSNs of the entries after SSN s that have no RSN
abbrev pub unnumbered : ℕ → List Logged → List ℕ
unnumbered s [] = []
unnumbered s (e ∷ es) = if is_none e.number then suc s ∷ unnumbered (suc s) es else unnumbered (suc s) es

-- sends each of these
abbrev pub delivers_each : ℕ → List ℕ → TheGateway → TheGateway
delivers_each p [] g = g
delivers_each p (s ∷ ss) g = delivers_each p ss (delivers p s g)

-- sends the first messages to p without an RSN again
abbrev pub resent : ℕ → TheGateway → TheGateway
resent p g = delivers_each p (take g.tick (unnumbered (peer_of p g).dropped (peer_of p g).entries)) g

-- does so for the first k processes
abbrev pub ticked_to : ℕ → TheGateway → TheGateway
ticked_to zero g = g
ticked_to (suc k) g = resent (suc k) (ticked_to k g)

-- what `tick` leaves
abbrev pub ticked : TheGateway → TheGateway
ticked g = ticked_to (length g.store.peers) g
