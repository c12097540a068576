-- What the gateway gives its host, as bytes
use Rattle.std.specs.Prelude.{◌≡◌, ℕ, List, ◌∷◌, Some}
use Rattle.packets.specs.declared.packet.NodePacket.{NodePacket}
use Rattle.packets.specs.Format.{IsPacket}
use Rattle.gateway.specs.Gateway.{TheGateway}
use Rattle.gateway.specs.Stands.{Takes}

-- the first packet that waits is to this process, and these are its bytes
abbrev pub Waits : ℕ → List ℕ → TheGateway → Type 0
Waits to bytes g = (x : NodePacket) × (rest : List NodePacket) × (g.out ≡ x ∷ rest) × IsPacket x bytes × (x.to ≡ to)

-- the bytes are those of the first packet that waited, and the gateway no longer has it
abbrev pub GivesBytes : List ℕ → TheGateway → TheGateway → Type 0
GivesBytes bytes old new = (x : NodePacket) × IsPacket x bytes × Takes (Some x) old new
