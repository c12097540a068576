-- What a gateway gives its host
use Rattle.std.specs.Prelude.{◌≡◌, ℕ, List, [], Option, Some, None, slice_get}
use Rattle.packets.specs.declared.packet.NodePacket.{NodePacket}
use Rattle.packets.specs.Format.{IsPacket}
use Rattle.stores.specs.declared.change.Output.{Output}
use Rattle.stores.specs.Changes.{AreChanges}
use Rattle.stores.specs.Format.{IsStoreBytes}
use Rattle.gateway.specs.Gateway.{TheGateway, hands_out}
use Rattle.gateway.specs.Since.{Since, KeepsSince}
use Rattle.gateway.specs.Stands.{Acts, Takes}
use Rattle.gateway.specs.Written.{Waits}
use Rattle.c_cluster.specs.declared.gateways.fault.GatewayFault.{GatewayFault}
use Rattle.c_cluster.specs.declared.gateways.fault.GatewayFault.TheVariants.{Memory, Room, Absent}
use Rattle.c_cluster.specs.Gateways.Answers.{OfOpen, Calls, Refuses}
use Rattle.c_handles.specs.Buffer.{IsCopied, IsUncopied, IsUntouched}
use Rattle.c_handles.specs.Bundle.{GivesFirst}

-- ---- packets

-- the first packet that waits, which goes to this process and has these bytes, is taken
abbrev pub Leaves : ℕ → List ℕ → TheGateway → TheGateway → Type 0
Leaves to bytes g h = (x : NodePacket) × IsPacket x bytes × (x.to ≡ to) × Takes (Some x) g h

-- why none is: none waits, memory ran out, or the buffer is too short for its bytes
abbrev pub GivesNot : (List ℕ → List ℕ → List ℕ → ℕ → Type 0) → List ℕ → List ℕ → ℕ → ℕ → TheGateway → GatewayFault → Type 0
GivesNot IsShort out new was size g Absent = (g.out ≡ []) × IsUntouched out new was size
GivesNot IsShort out new was size g Memory = IsUntouched out new was size
GivesNot IsShort out new was size g Room = (to : ℕ) × (bytes : List ℕ) × Waits to bytes g × IsShort bytes out new size
GivesNot IsShort out new was size g other = ⊥

-- a packet was taken from the gateway
abbrev pub IsTaken : List ℕ → List ℕ → ℕ → ℕ → Option TheGateway → Option TheGateway → Type 0
IsTaken out out' size to old new = Calls old new (GivesFirst Leaves out out' size to)

-- no packet was taken, and nothing changed
abbrev pub IsUntaken : List ℕ → List ℕ → ℕ → ℕ → Option TheGateway → GatewayFault → Type 0
IsUntaken out new was size old why = Refuses old (IsUntouched out new was size) (λ g w. GivesNot IsUncopied out new was size g w) why

-- ---- outputs

-- the first output that wasn't taken is taken: its process, its SSN and its bytes
abbrev pub Shows : ℕ → ℕ → List ℕ → List ℕ → ℕ → TheGateway → TheGateway → Type 0
Shows process ssn out new size g h =
    ((o : Output) × (slice_get g.store.outputs 0 ≡ Some o) × (process ≡ o.process) × (ssn ≡ o.ssn) × IsCopied o.payload out new size)
    × (h ≡ hands_out g) × KeepsSince g h × Acts g h

-- why none is: there is none, the buffer is too short for it, or memory ran out
abbrev pub ShowsNot : List ℕ → List ℕ → ℕ → ℕ → TheGateway → GatewayFault → Type 0
ShowsNot out new was size g Absent = (slice_get g.store.outputs 0 ≡ None) × IsUntouched out new was size
ShowsNot out new was size g Memory = IsUntouched out new was size
ShowsNot out new was size g Room = (o : Output) × (slice_get g.store.outputs 0 ≡ Some o) × IsUncopied o.payload out new size
ShowsNot out new was size g other = ⊥

-- the oldest output was shown
abbrev pub IsShown : ℕ → ℕ → List ℕ → List ℕ → ℕ → Option TheGateway → Option TheGateway → Type 0
IsShown process ssn out out' size old new = Calls old new (Shows process ssn out out' size)

-- no output was shown, and nothing changed
abbrev pub IsUnshown : List ℕ → List ℕ → ℕ → ℕ → Option TheGateway → GatewayFault → Type 0
IsUnshown out new was size old why = Refuses old (IsUntouched out new was size) (λ g w. ShowsNot out new was size g w) why

-- ---- stable storage

-- the buffer begins with the bytes of its store
abbrev pub Spells : List ℕ → List ℕ → ℕ → TheGateway → Type 0
Spells out new size g = (bytes : List ℕ) × IsStoreBytes g.store bytes × IsCopied bytes out new size

-- the store's bytes were written, and the gateway stays
abbrev pub IsStored : List ℕ → List ℕ → ℕ → Option TheGateway → Option TheGateway → Type 0
IsStored out out' size old new = OfOpen old (Spells out out' size) × (new ≡ old)

-- the buffer is too short for bytes for which this holds, or memory ran out
abbrev pub WritesNot : (List ℕ → Type 0) → List ℕ → List ℕ → ℕ → ℕ → GatewayFault → Type 0
WritesNot Is out new was size Memory = IsUntouched out new was size
WritesNot Is out new was size Room = (bytes : List ℕ) × Is bytes × IsUncopied bytes out new size
WritesNot Is out new was size other = ⊥

-- the store's bytes were not written, and nothing changed
abbrev pub IsUnstored : List ℕ → List ℕ → ℕ → ℕ → Option TheGateway → GatewayFault → Type 0
IsUnstored out new was size old why =
    Refuses old (IsUntouched out new was size) (λ g w. WritesNot (IsStoreBytes g.store) out new was size w) why

-- the changes are taken: the buffer begins with their bytes
abbrev pub Tells : List ℕ → List ℕ → ℕ → TheGateway → TheGateway → Type 0
Tells out new size g h =
    ((bytes : List ℕ) × AreChanges g.changes bytes × IsCopied bytes out new size) × (h ≡ record g { changes = [] }) × Since h.store h
    × Acts g h

-- the changes' bytes were written, and the gateway has no more to tell
abbrev pub IsTold : List ℕ → List ℕ → ℕ → Option TheGateway → Option TheGateway → Type 0
IsTold out out' size old new = Calls old new (Tells out out' size)

-- the changes' bytes were not written, and nothing changed
abbrev pub IsUntold : List ℕ → List ℕ → ℕ → ℕ → Option TheGateway → GatewayFault → Type 0
IsUntold out new was size old why =
    Refuses old (IsUntouched out new was size) (λ g w. WritesNot (AreChanges g.changes) out new was size w) why
