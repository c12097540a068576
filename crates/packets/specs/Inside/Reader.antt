-- Reading a packet from left to right, up to the first fault. A reader gives a value and the bytes after it.
use Rattle.std.specs.Prelude.{◌≡◌, ℕ, zero, suc, ◌-◌, List, [], ◌∷◌, length, take, drop, slice_index, Option, Some, None, Result, Ok, Err}
use Rattle.std.specs.Prelude.{Bool, not, nat_lt, nat_eq, ◌==◌, ◌||◌, if◌then◌else◌}
use Rattle.std.specs.Cmp.Lexicographic.{pointwise}
use Rattle.limits.specs.declared.TheConstants.{PAYLOAD_BYTES, PROCESSES}
use Rattle.byteorder.specs.Endian.{little_number}
use Rattle.packets.specs.declared.kind.PacketKind.{PacketKind}
use Rattle.packets.specs.declared.kind.PacketKind.TheVariants as kinds
use Rattle.packets.specs.declared.page.LoggedMessage.{LoggedMessage}
use Rattle.packets.specs.declared.page.Pair.{Pair}
use Rattle.packets.specs.declared.packet.Body.{Body}
use Rattle.packets.specs.declared.packet.Body.TheVariants.{Delivery, Number, Acknowledgement, Ask, Told, Resume, Restored, Saved}
use Rattle.packets.specs.declared.packet.NodePacket.{NodePacket}
use Rattle.packets.specs.declared.head.PacketHead.{PacketHead}
use Rattle.packets.specs.declared.fault.PacketFault.{PacketFault}
use Rattle.packets.specs.declared.fault.PacketFault.TheVariants as faults
use Rattle.packets.specs.declared.fault.PacketError.{PacketError}
use Rattle.packets.specs.declared.fault.PacketError.TheVariants as errors
use Rattle.packets.specs.Checksum.{crc32c}
use Rattle.packets.specs.Packet.{kind_at, in_range}
use Rattle.packets.specs.Format.{magic}
use Rattle.packets.specs.Faults.{fields_of}

-- a step of reading, and then the next
abbrev pub and_then : {F A B : Type 0} → Result A F → (A → Result B F) → Result B F
and_then (Ok x) f = f x
and_then (Err e) f = Err e

infixl 10 ◌>>=◌
abbrev pub ◌>>=◌ : {A B : Type 0} → Result A PacketFault → (A → Result B PacketFault) → Result B PacketFault
r >>= f = and_then r f

-- the fault d in place of any other
abbrev pub or_fault : {F A : Type 0} → F → Result A PacketFault → Result A F
or_fault d (Ok x) = Ok x
or_fault d (Err f) = Err d

-- an error is the one that reading gives, unless memory ran out
abbrev pub Fails : {Y : Type 0} → PacketError → Result Y PacketFault → Type 0
Fails errors.Memory read = Unit {0}
Fails (errors.Fault fault) read = read ≡ Err fault

-- a function's result, seen through `view`, is what reading gives, unless memory ran out
abbrev pub Gives : {X Y : Type 0} → (X → Y) → Result X PacketError → Result Y PacketFault → Type 0
Gives view (Ok x) read = read ≡ Ok (view x)
Gives view (Err e) read = Fails e read

-- ---- fields

-- reads a value, and tells the bytes after it
abbrev pub Reader : Type 0 → Type 0
Reader A = List ℕ → Result (A × List ℕ) PacketFault

-- n bytes
abbrev pub bytes_at : ℕ → Reader (List ℕ)
bytes_at n bytes = if nat_lt (length bytes) n then Err faults.Fields else Ok (take n bytes, drop n bytes)

-- one byte
abbrev pub byte_at : Reader ℕ
byte_at [] = Err faults.Fields
byte_at (b ∷ rest) = Ok (b, rest)

-- a number of n bytes
unfoldable pub number_at : ℕ → Reader ℕ
number_at n bytes = bytes_at n bytes >>= λ found. Ok (little_number n found.0, found.1)

-- a length, and that many bytes
unfoldable pub payload_at : Reader (List ℕ)
payload_at bytes = number_at 2 bytes >>= λ len. if nat_lt PAYLOAD_BYTES len.0 then Err faults.Fields else bytes_at len.0 len.1

-- one field after another
abbrev pub both : {A B : Type 0} → Reader A → Reader B → Reader (A × B)
both read next bytes = read bytes >>= λ x. next x.1 >>= λ y. Ok ((x.0, y.0), y.1)

-- n fields of one kind
unfoldable pub times : {A : Type 0} → Reader A → ℕ → Reader (List A)
times field zero bytes = Ok ([], bytes)
times field (suc n) bytes = field bytes >>= λ first. times field n first.1 >>= λ others. Ok (first.0 ∷ others.0, others.1)

-- the number of items, in w bytes, and each
unfoldable pub counted_at : {A : Type 0} → ℕ → Reader A → Reader (List A)
counted_at w field bytes = number_at w bytes >>= λ count. times field count.0 count.1

-- an entry of a log: RSN, SSN and payload
unfoldable pub entry_at : Reader LoggedMessage
entry_at bytes =
    both (number_at 8) (both (number_at 8) payload_at) bytes >>= λ x. Ok (record { number = x.0.0; ssn = x.0.1.0; payload = x.0.1.1 }, x.1)

-- an SSN and its RSN
unfoldable pub pair_at : Reader Pair
pair_at bytes = both (number_at 8) (number_at 8) bytes >>= λ x. Ok (record { ssn = x.0.0; number = x.0.1 }, x.1)

-- ---- the whole

-- all of the bytes, with none left over
abbrev pub whole : {A : Type 0} → Reader A → List ℕ → Result A PacketFault
whole read bytes = read bytes >>= λ x. if length x.1 == 0 then Ok x.0 else Err faults.Fields

-- the fields of a kind
unfoldable pub body_at : PacketKind → List ℕ → Result Body PacketFault
body_at kinds.Delivery bytes = whole (both (number_at 8) (both (number_at 8) payload_at)) bytes >>= λ x. Ok (Delivery x.0 x.1.0 x.1.1)
body_at kinds.Number bytes = whole (both (number_at 8) (both (number_at 8) (number_at 8))) bytes >>= λ x. Ok (Number x.0 x.1.0 x.1.1)
body_at kinds.Acknowledgement bytes = whole (both (number_at 8) (number_at 8)) bytes >>= λ x. Ok (Acknowledgement x.0 x.1)
body_at kinds.Ask bytes = whole (both (number_at 8) (number_at 8)) bytes >>= λ x. Ok (Ask x.0 x.1)
body_at kinds.Told bytes =
    whole (both (number_at 8)
    (both (number_at 8) (both (number_at 8)
    (both byte_at (counted_at 2 entry_at))))) bytes >>= λ x. Ok (Told x.0 x.1.0 x.1.1.0 (record { bits = x.1.1.1.0 }) x.1.1.1.1)
body_at kinds.Resume bytes = whole (both (number_at 8) (both (number_at 8) (number_at 8))) bytes >>= λ x. Ok (Resume x.0 x.1.0 x.1.1)
body_at kinds.Restored bytes =
    whole (both (number_at 8)
    (both (number_at 8) (both (number_at 8) (both (number_at 8) (both byte_at (counted_at 2 pair_at)))))) bytes >>= λ x.
    Ok (Restored x.0 x.1.0 x.1.1.0 x.1.1.1.0 (record { bits = x.1.1.1.1.0 }) x.1.1.1.1.1)
body_at kinds.Saved bytes = whole (number_at 8) bytes >>= λ c. Ok (Saved c)

-- the fields of bytes under this magic, of which there are at least so many, or the first of three faults: of the length, the magic and the
-- checksum
abbrev pub sealed_fields : {F : Type 0} → F → F → F → ℕ → List ℕ → List ℕ → Result (List ℕ) F
sealed_fields short wrong changed least m bytes =
    if nat_lt (length bytes) least then Err short else if not (pointwise nat_eq (take 4 bytes) m) then Err wrong
    else if not (little_number 4 (drop (length bytes - 4) bytes) == crc32c (take (length bytes - 4) bytes)) then Err changed
    else Ok (fields_of bytes)

-- the bytes of the fields, if magic and checksum are right
unfoldable pub fields_at : List ℕ → Result (List ℕ) PacketFault
fields_at bytes = sealed_fields faults.Short faults.Magic faults.Checksum 12 magic bytes

-- a kind that there is
abbrev pub known : Option PacketKind → Result PacketKind PacketFault
known None = Err faults.Kind
known (Some kind) = Ok kind

-- kind, the number of processes, from and to
abbrev pub head_in_range : PacketKind → ℕ → ℕ → ℕ → Result PacketHead PacketFault
head_in_range kind n from to =
    if nat_lt n 1 || nat_lt PROCESSES n then Err faults.Count
    else if nat_lt n from || (nat_lt n to || from == to) then Err faults.Ends
    else Ok (record { kind = kind; count = n; from = from; to = to })

-- the head of a packet
unfoldable pub head_at : List ℕ → Result PacketHead PacketFault
head_at bytes =
    known (kind_at (slice_index bytes 4)) >>= λ kind. head_in_range kind (slice_index bytes 5) (slice_index bytes 6) (slice_index bytes 7)

-- reading in steps: the fields, the head, what the fields hold, and whether that is in range
abbrev pub in_steps : {F H B V : Type 0} → Result (List ℕ) F → Result H F → (H → List ℕ → Result B F) → (H → B → V) → (B → Bool) → F
    → Result V F
in_steps text head body value fine range =
    and_then text (λ fields. and_then head (λ h. and_then (body h fields) (λ b. if fine b then Ok (value h b) else Err range)))

-- a packet of a head and a body
abbrev pub packet_of : PacketHead → Body → NodePacket
packet_of head body = record { count = head.count; from = head.from; to = head.to; body = body }

-- a packet, or the first fault of its bytes
unfoldable pub reading : List ℕ → Result NodePacket PacketFault
reading bytes = in_steps (fields_at bytes) (head_at bytes) (λ head. body_at head.kind) packet_of in_range faults.Range
