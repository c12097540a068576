-- Packets of a process as bytes
use Rattle.std.specs.Prelude.{◌≡◌, ◌≤◌, List, ℕ, ◌∷◌, length, Some, Bool, true, false, not, nat_le, ◌&&◌, ◌==◌}
use Rattle.limits.specs.declared.TheConstants.{PROCESSES}
use Rattle.packets.specs.declared.packet.Body.{Body}
use Rattle.packets.specs.declared.packet.Body.TheVariants.{Ask, Resume, Told}
use Rattle.packets.specs.Packet.{in_range, is_number, is_positive}
use Rattle.packets.specs.declared.packet.NodePacket.{NodePacket}
use Rattle.packets.specs.Format.{IsPacket}
use Rattle.node.specs.declared.node.TheConstants.{MOST_RECEIVED}
use Rattle.node.specs.Stands.{Each}
use Rattle.recovery.specs.Own.{TheOwn}
use Rattle.recovery.specs.Collection.{told_of}
use Rattle.recovery.specs.Restoration.{above_of, has_answered}
use Rattle.recovery.specs.declared.lifecycle.Lifecycle.{Lifecycle}
use Rattle.recovery.specs.declared.lifecycle.Lifecycle.TheVariants.{Collecting, Replaying, Replayed, Restoring}
use Rattle.process.specs.Process.{TheProcess, out_of}
use Rattle.process.specs.Calls.{Takes, Stays}

-- a question of a recovering process, or an answer without entries
abbrev pub is_brief : Body → Bool
is_brief (Ask i k) = true
is_brief (Resume i k s) = true
is_brief (Told i j k flags entries) = length entries == 0
is_brief other = false

-- such a packet that can be written
abbrev pub is_written : NodePacket → Bool
is_written x =
    nat_le 1 x.count && nat_le x.count PROCESSES && nat_le x.from x.count && nat_le x.to x.count && not (x.from == x.to)
    && is_brief x.body && in_range x.body

-- the numbers of a recovering process are in range, and each packet that waits can be written
pub record OwnWrites (o : TheOwn) : Type 0 where
  pub inside : 1 ≤ o.me
  pub within : o.me ≤ o.count
  pub few : o.count ≤ PROCESSES
  pub alive : is_positive o.life ≡ true
  pub young : o.base ≤ MOST_RECEIVED
  pub out : Each (λ x. is_written x ≡ true) o.out

-- so it is in each stage; and the questions that it asks next can be written too. A node that is up has this by its type
abbrev pub Writes : Lifecycle → Type 0
Writes (Collecting n) = OwnWrites n.own × ((q : ℕ) → is_number (told_of n.told q).cursor ≡ true)
Writes (Replaying n) = OwnWrites n.own
Writes (Replayed n) = OwnWrites n.own
Writes (Restoring n) = OwnWrites n.own × ((q : ℕ) → is_number (above_of q n) ≡ true) × (has_answered n.own.me n ≡ true)
Writes other = Unit {0}

-- these are the bytes of the first packet that waits
abbrev pub IsFront : TheProcess → List ℕ → Type 0
IsFront p bytes = (x : NodePacket) × IsPacket x bytes × ((rest : List NodePacket) × (out_of p.lifecycle ≡ x ∷ rest))

-- so they are, and that packet is taken
abbrev pub GivesBytes : List ℕ → TheProcess → TheProcess → Type 0
GivesBytes bytes old new = (x : NodePacket) × IsPacket x bytes × Stays (Takes (Some x)) old new
