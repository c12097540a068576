-- What holds of all packets
use Rattle.std.specs.Prelude.{◌≡◌, ℕ, List}
use Rattle.packets.specs.declared.packet.NodePacket.{NodePacket}
use Rattle.packets.specs.Format.{IsPacket}

-- bytes are those of one packet at most
abbrev pub IsOnePacket : Type 0
IsOnePacket = (p q : NodePacket) (bytes : List ℕ) → IsPacket p bytes → IsPacket q bytes → p ≡ q
