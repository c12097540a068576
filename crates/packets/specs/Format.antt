-- The bytes of a packet; numbers are little-endian.
use Rattle.std.specs.Prelude.{◌≡◌, ◌≢◌, ℕ, ◌^◌, ◌<◌, ◌≤◌, List, [], ◌∷◌, ◌++◌, length, true}
use Rattle.std.specs.List.{flat_map, AllByRecursion}
use Rattle.limits.specs.declared.TheConstants.{PAYLOAD_BYTES, PROCESSES}
use Rattle.byteorder.specs.Endian.{little_bytes}
use Rattle.packets.specs.declared.page.LoggedMessage.{LoggedMessage}
use Rattle.packets.specs.declared.page.Pair.{Pair}
use Rattle.packets.specs.declared.packet.Body.{Body}
use Rattle.packets.specs.declared.packet.Body.TheVariants.{Delivery, Number, Acknowledgement, Ask, Told, Resume, Restored, Saved}
use Rattle.packets.specs.declared.packet.NodePacket.{NodePacket}
use Rattle.packets.specs.Checksum.{crc32c}
use Rattle.packets.specs.Packet.{kind_number, kind_of, in_range}

-- ---- the spelling

-- "SBP1"
abbrev pub magic : List ℕ
magic = 0x53 ∷ 0x42 ∷ 0x50 ∷ 0x31 ∷ []

-- a number of two bytes
unfoldable pub short_bytes : ℕ → List ℕ
short_bytes n = little_bytes 2 n

-- a number of eight bytes
unfoldable pub long_bytes : ℕ → List ℕ
long_bytes n = little_bytes 8 n

-- a payload after its length
abbrev pub payload_bytes : List ℕ → List ℕ
payload_bytes payload = short_bytes (length payload) ++ payload

-- the RSN, the SSN and the payload
abbrev pub entry_bytes : LoggedMessage → List ℕ
entry_bytes e = long_bytes e.number ++ (long_bytes e.ssn ++ payload_bytes e.payload)

-- the SSN and the RSN
abbrev pub pair_bytes : Pair → List ℕ
pair_bytes p = long_bytes p.ssn ++ long_bytes p.number

-- the number of items, and each
abbrev pub page_bytes : {A : Type 0} → (A → List ℕ) → List A → List ℕ
page_bytes spell xs = short_bytes (length xs) ++ flat_map spell xs

-- the fields in the order of docs/FORMATS.md
abbrev pub body_bytes : Body → List ℕ
body_bytes (Delivery i ssn payload) = long_bytes i ++ (long_bytes ssn ++ payload_bytes payload)
body_bytes (Number i ssn k) = long_bytes i ++ (long_bytes ssn ++ long_bytes k)
body_bytes (Acknowledgement i k) = long_bytes i ++ long_bytes k
body_bytes (Ask i k) = long_bytes i ++ long_bytes k
body_bytes (Told i j k flags entries) = long_bytes i
    ++ (long_bytes j ++ (long_bytes k ++ (flags.bits ∷ [] ++ page_bytes entry_bytes entries)))
body_bytes (Resume i kept s) = long_bytes i ++ (long_bytes kept ++ long_bytes s)
body_bytes (Restored i j c s flags pairs) = long_bytes i
    ++ (long_bytes j ++ (long_bytes c ++ (long_bytes s ++ (flags.bits ∷ [] ++ page_bytes pair_bytes pairs))))
body_bytes (Saved c) = long_bytes c

-- magic, kind, the number of processes, from, to and the fields
abbrev pub unsealed : NodePacket → List ℕ
unsealed p = magic ++ (kind_number (kind_of p.body) ∷ p.count ∷ p.from ∷ p.to ∷ body_bytes p.body)

-- the checksum of some bytes
unfoldable pub checksum_bytes : List ℕ → List ℕ
checksum_bytes bytes = little_bytes 4 (crc32c bytes)

-- some bytes, and after them their checksum
abbrev pub sealed : List ℕ → List ℕ
sealed bytes = bytes ++ checksum_bytes bytes

-- a packet with its checksum
abbrev pub packet_bytes : NodePacket → List ℕ
packet_bytes p = sealed (unsealed p)

-- ---- what can be written

-- it fits eight bytes
abbrev pub IsLong : ℕ → Type 0
IsLong n = n < 2 ^ 64

-- 0 to 256 bytes
abbrev pub IsPayload : List ℕ → Type 0
IsPayload payload = length payload ≤ PAYLOAD_BYTES

-- an entry's numbers and its payload fit
abbrev pub IsEntry : LoggedMessage → Type 0
IsEntry e = IsLong e.number × (IsLong e.ssn × IsPayload e.payload)

-- a pair's numbers fit
abbrev pub IsPair : Pair → Type 0
IsPair p = IsLong p.ssn × IsLong p.number

-- the number of items fits, and P holds of each
abbrev pub IsPage : {A : Type 0} → (A → Type 0) → List A → Type 0
IsPage P xs = (length xs < 2 ^ 16) × AllByRecursion P xs

-- each field fits its bytes, and no payload is too long
abbrev pub HasRoom : Body → Type 0
HasRoom (Delivery i ssn payload) = IsLong i × (IsLong ssn × IsPayload payload)
HasRoom (Number i ssn k) = IsLong i × (IsLong ssn × IsLong k)
HasRoom (Acknowledgement i k) = IsLong i × IsLong k
HasRoom (Ask i k) = IsLong i × IsLong k
HasRoom (Told i j k flags entries) = IsLong i × (IsLong j × (IsLong k × ((flags.bits < 256) × IsPage IsEntry entries)))
HasRoom (Resume i kept s) = IsLong i × (IsLong kept × IsLong s)
HasRoom (Restored i j c s flags pairs) = IsLong i × (IsLong j × (IsLong c × (IsLong s × ((flags.bits < 256) × IsPage IsPair pairs))))
HasRoom (Saved c) = IsLong c

-- a packet that can be sent
pub record Fits (p : NodePacket) : Type 0 where
  pub some : 1 ≤ p.count
  pub few : p.count ≤ PROCESSES
  pub from : p.from ≤ p.count
  pub to : p.to ≤ p.count
  pub apart : p.from ≢ p.to
  pub room : HasRoom p.body
  pub range : in_range p.body ≡ true

-- the bytes are this packet's
pub record IsPacket (p : NodePacket) (bytes : List ℕ) : Type 0 where
  pub fits : Fits p
  pub bytes_are : bytes ≡ packet_bytes p
