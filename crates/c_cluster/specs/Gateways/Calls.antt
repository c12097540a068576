-- What the host hands the gateway
use Rattle.std.specs.Prelude.{◌≡◌, ℕ, ◌+◌, ◌<◌, ◌≤◌, List, length, Option, None}
use Rattle.limits.specs.declared.TheConstants.{PAYLOAD_BYTES}
use Rattle.packets.specs.declared.fault.PacketFault.{PacketFault}
use Rattle.packets.specs.declared.packet.NodePacket.{NodePacket}
use Rattle.packets.specs.Faults as packets
use Rattle.packets.specs.Format.{IsPacket}
use Rattle.stores.specs.Peer.{last_of}
use Rattle.stores.specs.Store.{IsOf}
use Rattle.gateway.specs.Gateway.{TheGateway, peer_of, puts_in, ticked}
use Rattle.gateway.specs.Calls.{handed}
use Rattle.gateway.specs.Since.{KeepsSince}
use Rattle.gateway.specs.Stands.{Acts, IsHanded}
use Rattle.c_cluster.specs.declared.gateways.fault.GatewayFault.{GatewayFault}
use Rattle.c_cluster.specs.declared.gateways.fault.GatewayFault.TheVariants.{Memory, Handle, Payload, Bytes, Range}
use Rattle.c_cluster.specs.Gateways.Answers.{OfOpen, Calls, Refuses}

-- a payload that isn't too long is logged for one of its processes, and sent; `ssn` is its SSN
abbrev pub Logs : ℕ → List ℕ → ℕ → TheGateway → TheGateway → Type 0
Logs p payload ssn g h =
    (length payload ≤ PAYLOAD_BYTES) × IsOf p g.store × (ssn ≡ last_of (peer_of p g) + 1) × (h ≡ puts_in p payload g) × KeepsSince g h
    × Acts g h

-- why it isn't: the first of these: it is too long, there is no such process, or memory ran out
abbrev pub LogsNot : ℕ → List ℕ → TheGateway → GatewayFault → Type 0
LogsNot p payload g Payload = PAYLOAD_BYTES < length payload
LogsNot p payload g Range = (length payload ≤ PAYLOAD_BYTES) × (¬ IsOf p g.store)
LogsNot p payload g Memory = (length payload ≤ PAYLOAD_BYTES) × IsOf p g.store
LogsNot p payload g other = ⊥

-- the input of a handle's gateway is logged
abbrev pub IsLogged : ℕ → List ℕ → ℕ → Option TheGateway → Option TheGateway → Type 0
IsLogged p payload ssn old new = Calls old new (Logs p payload ssn)

-- why it isn't
abbrev pub IsUnlogged : ℕ → List ℕ → ℕ → ℕ → Option TheGateway → GatewayFault → Type 0
IsUnlogged p payload was ssn old why = Refuses old (ssn ≡ was) (λ g w. LogsNot p payload g w × (ssn ≡ was)) why

-- the packet in these bytes is handed in
abbrev pub Receives : List ℕ → TheGateway → TheGateway → Type 0
Receives bytes g h = (x : NodePacket) × IsPacket x bytes × (h ≡ handed x g) × KeepsSince g h × IsHanded x g h

-- why none is: the bytes are not a packet, by their first fault, or memory ran out
abbrev pub ReceivesNot : List ℕ → ℕ → ℕ → GatewayFault → Type 0
ReceivesNot bytes was fault Bytes = (f : PacketFault) × packets.IsFirst f bytes × (fault ≡ packets.fault_number f)
ReceivesNot bytes was fault Memory = fault ≡ was
ReceivesNot bytes was fault other = ⊥

-- the packet is handed to a handle's gateway
abbrev pub IsReceived : List ℕ → ℕ → ℕ → Option TheGateway → Option TheGateway → Type 0
IsReceived bytes was fault old new = Calls old new (λ g h. Receives bytes g h × (fault ≡ was))

-- why it isn't
abbrev pub IsUnreceived : List ℕ → ℕ → ℕ → Option TheGateway → GatewayFault → Type 0
IsUnreceived bytes was fault old why = Refuses old (fault ≡ was) (λ g w. ReceivesNot bytes was fault w) why

-- sends again what isn't answered
abbrev pub Ticks : TheGateway → TheGateway → Type 0
Ticks g h = (h ≡ ticked g) × KeepsSince g h × Acts g h

-- what a handle's gateway hasn't heard an answer to is sent again
abbrev pub IsTicked : Option TheGateway → Option TheGateway → Type 0
IsTicked old new = Calls old new Ticks

-- an open handle was closed
abbrev pub IsClosed : Option TheGateway → Option TheGateway → Type 0
IsClosed old new = OfOpen old (λ g. Unit {0}) × (new ≡ None)

-- the handle was closed before
abbrev pub WasClosed : Option TheGateway → GatewayFault → Type 0
WasClosed old why = (why ≡ Handle) × (old ≡ None)
