-- Packets as bytes
use Rattle.std.specs.Prelude.{⊤, ℕ, List, Some, Result, Ok, Err}
use Rattle.packets.specs.declared.packet.NodePacket.{NodePacket}
use Rattle.packets.specs.Format.{IsPacket}
use Rattle.packets.specs.declared.fault.PacketError.{PacketError}
use Rattle.packets.specs.declared.fault.PacketError.TheVariants.{Memory, Fault}
use Rattle.node.specs.Node.{TheNode}
use Rattle.node.specs.Stands.{Takes}

-- the bytes were taken, unless memory ran out
abbrev pub IsTaken : Result (Unit {0}) PacketError → Type 0
IsTaken (Ok u) = ⊤
IsTaken (Err Memory) = ⊤
IsTaken (Err (Fault f)) = ⊥

-- the bytes are those of the first packet that waited, and the node no longer has it
abbrev pub GivesBytes : List ℕ → TheNode → TheNode → Type 0
GivesBytes bytes old new = (x : NodePacket) × IsPacket x bytes × Takes (Some x) old new
