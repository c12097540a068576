-- The faults of bytes, each by itself, and the first of them
use Rattle.std.specs.Prelude.{◌≡◌, ◌≢◌, ℕ, ◌-◌, ◌<◌, ◌≤◌, List, length, take, drop, slice_index, slice_range, true, ⊤, Result, Ok, Err}
use Rattle.limits.specs.declared.TheConstants.{PROCESSES}
use Rattle.byteorder.specs.Endian.{little_number}
use Rattle.packets.specs.declared.kind.PacketKind as the_kind
use Rattle.packets.specs.declared.packet.Body.{Body}
use Rattle.packets.specs.declared.packet.NodePacket.{NodePacket}
use Rattle.packets.specs.declared.fault.PacketFault.{PacketFault}
use Rattle.packets.specs.declared.fault.PacketFault.TheVariants.{Short, Magic, Checksum, Kind, Count, Ends, Fields, Range}
use Rattle.packets.specs.declared.fault.PacketError.{PacketError}
use Rattle.packets.specs.declared.fault.PacketError.TheVariants.{Memory, Fault}
use Rattle.packets.specs.Checksum.{crc32c}
use Rattle.packets.specs.Packet.{kind_number, kind_of, in_range}
use Rattle.packets.specs.Format.{magic, body_bytes, HasRoom}

-- 1 to 8, in the order of docs/FORMATS.md
abbrev pub fault_number : PacketFault → ℕ
fault_number Short = 1
fault_number Magic = 2
fault_number Checksum = 3
fault_number Kind = 4
fault_number Count = 5
fault_number Ends = 6
fault_number Fields = 7
fault_number Range = 8

-- the bytes between the head and the checksum
abbrev pub fields_of : List ℕ → List ℕ
fields_of bytes = slice_range bytes 8 (length bytes - 4)

-- the last four bytes are the checksum of the others
abbrev pub IsSummed : List ℕ → Type 0
IsSummed bytes = little_number 4 (drop (length bytes - 4) bytes) ≡ crc32c (take (length bytes - 4) bytes)

-- the body has the kind in these bytes, and their fields are its
pub record Spells (b : Body) (bytes : List ℕ) : Type 0 where
  pub kind : kind_number (kind_of b) ≡ slice_index bytes 4
  pub room : HasRoom b
  pub fields : fields_of bytes ≡ body_bytes b

-- what each fault says of the bytes, whatever other faults they have
abbrev pub HasFault : PacketFault → List ℕ → Type 0
HasFault Short bytes = length bytes < 12
HasFault Magic bytes = take 4 bytes ≢ magic
HasFault Checksum bytes = ¬ IsSummed bytes
HasFault Kind bytes = (k : the_kind.PacketKind) → kind_number k ≢ slice_index bytes 4
HasFault Count bytes = ¬ ((1 ≤ slice_index bytes 5) × (slice_index bytes 5 ≤ PROCESSES))
HasFault Ends bytes = ¬ ((slice_index bytes 6 ≤ slice_index bytes 5) × (slice_index bytes 7 ≤ slice_index bytes 5)
    × (slice_index bytes 6 ≢ slice_index bytes 7))
HasFault Fields bytes = (b : Body) → ¬ Spells b bytes
HasFault Range bytes = (b : Body) → Spells b bytes → in_range b ≢ true

-- the bytes have the fault f, and none of a lesser number
pub record IsFirstOf {F : Type 0} (number : F → ℕ) (Has : F → List ℕ → Type 0) (f : F) (bytes : List ℕ) : Type 0 where
  pub holds : Has f bytes
  pub first : (g : F) → number g < number f → ¬ Has g bytes

-- the first fault of these bytes
abbrev pub IsFirst : PacketFault → List ℕ → Type 0
IsFirst = IsFirstOf fault_number HasFault

-- why bytes were refused
abbrev pub IsReason : PacketError → List ℕ → Type 0
IsReason Memory bytes = ⊤
IsReason (Fault f) bytes = IsFirst f bytes

-- this packet was read, unless memory ran out
abbrev pub Reads : Result NodePacket PacketError → NodePacket → Type 0
Reads (Ok q) p = q ≡ p
Reads (Err Memory) p = ⊤
Reads (Err (Fault f)) p = ⊥
