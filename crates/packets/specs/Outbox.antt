-- The packets that wait
use Rattle.std.specs.Prelude.{◌≡◌, Option, Some, None, ℕ, ◌≤◌, List, [], ◌∷◌, ◌++◌, length, nat_lt, if◌then◌else◌}
use Rattle.packets.specs.declared.packet.NodePacket.{NodePacket}
use Rattle.packets.specs.declared.outbox.TheConstants.{OUTBOX}

-- one packet more, if there is room
abbrev pub pushed : NodePacket → List NodePacket → List NodePacket
pushed x xs = if nat_lt (length xs) OUTBOX then xs ++ x ∷ [] else xs

-- takes the first packet, if there is one
abbrev pub Pops : Option NodePacket → List NodePacket → List NodePacket → Type 0
Pops None old new = (old ≡ []) × (new ≡ [])
Pops (Some x) old new = old ≡ x ∷ new

-- not more than the limit wait, and there is memory for that many
pub record HasRoom (len capacity : ℕ) : Type 0 where
  pub few : len ≤ OUTBOX
  pub room : OUTBOX ≤ capacity
