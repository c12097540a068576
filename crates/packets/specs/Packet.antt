-- The kinds of packets, and the ranges of their fields
use Rattle.std.specs.Prelude.{ℕ, ◌+◌, ◌/◌, ◌%◌, ◌^◌, ◌<◌, List, length, drop, Bool, not, ◌&&◌, ◌||◌, ◌==◌, nat_lt, Option, Some, None}
use Rattle.std.specs.Prelude.{if◌then◌else◌}
use Rattle.std.specs.List.{list_all, zip}
use Rattle.packets.specs.declared.kind.PacketKind.{PacketKind}
use Rattle.packets.specs.declared.kind.PacketKind.TheVariants as kinds
use Rattle.packets.specs.declared.page.LoggedMessage.{LoggedMessage}
use Rattle.packets.specs.declared.page.Pair.{Pair}
use Rattle.packets.specs.declared.page.Flags.{Flags}
use Rattle.packets.specs.declared.packet.Body.{Body}
use Rattle.packets.specs.declared.packet.Body.TheVariants.{Delivery, Number, Acknowledgement, Ask, Told, Resume, Restored, Saved}

-- ---- kinds

-- the byte of a kind
abbrev pub kind_number : PacketKind → ℕ
kind_number kinds.Delivery = 1
kind_number kinds.Number = 2
kind_number kinds.Acknowledgement = 3
kind_number kinds.Ask = 4
kind_number kinds.Told = 5
kind_number kinds.Resume = 6
kind_number kinds.Restored = 7
kind_number kinds.Saved = 8

-- the kind of a byte
abbrev pub kind_at : ℕ → Option PacketKind
kind_at n =
    if n == 1 then Some kinds.Delivery else if n == 2 then Some kinds.Number else if n == 3 then Some kinds.Acknowledgement
    else if n == 4 then Some kinds.Ask else if n == 5 then Some kinds.Told else if n == 6 then Some kinds.Resume
    else if n == 7 then Some kinds.Restored else if n == 8 then Some kinds.Saved else None

-- the kind of a body
abbrev pub kind_of : Body → PacketKind
kind_of (Delivery i ssn payload) = kinds.Delivery
kind_of (Number i ssn k) = kinds.Number
kind_of (Acknowledgement i k) = kinds.Acknowledgement
kind_of (Ask i k) = kinds.Ask
kind_of (Told i j k flags entries) = kinds.Told
kind_of (Resume i kept s) = kinds.Resume
kind_of (Restored i j c s flags pairs) = kinds.Restored
kind_of (Saved c) = kinds.Saved

-- ---- flags

-- bit 0
abbrev pub is_done : Flags → Bool
is_done f = f.bits % 2 == 1

-- bit 1
abbrev pub is_lost : Flags → Bool
is_lost f = f.bits / 2 % 2 == 1

-- bit 2
abbrev pub is_exact : Flags → Bool
is_exact f = f.bits / 4 % 2 == 1

-- the flags that say this
abbrev pub flags_of : Bool → Bool → Bool → Flags
flags_of done lost exact = record { bits = (if done then 1 else 0) + (if lost then 2 else 0) + (if exact then 4 else 0) }

-- ---- ranges

-- below 2^63, so that one more fits eight bytes
abbrev pub is_number : ℕ → Bool
is_number n = nat_lt n (2 ^ 63)

-- a number that counts from 1
abbrev pub is_positive : ℕ → Bool
is_positive n = nat_lt 0 n && nat_lt n (2 ^ 63)

-- the same as a statement; one more still fits
abbrev pub IsPositive : ℕ → Type 0
IsPositive n = (0 < n) × (n < 2 ^ 63)

-- each is before the next one
abbrev pub ascends : {A : Type 0} → (A → A → Bool) → List A → Bool
ascends before xs = list_all (λ p. before p.0 p.1) (zip xs (drop 1 xs))

-- by RSN, and by SSN if that is the same
abbrev pub entry_before : LoggedMessage → LoggedMessage → Bool
entry_before a b = nat_lt a.number b.number || (a.number == b.number && nat_lt a.ssn b.ssn)

-- by their SSN
abbrev pub pair_before : Pair → Pair → Bool
pair_before a b = nat_lt a.ssn b.ssn

-- an entry that a page above an RSN can have
abbrev pub is_entry_above : ℕ → LoggedMessage → Bool
is_entry_above above e = is_positive e.number && is_positive e.ssn && nat_lt above e.number

-- a pair that a page above an SSN can have
abbrev pub is_pair_above : ℕ → Pair → Bool
is_pair_above above p = is_positive p.number && is_positive p.ssn && nat_lt above p.ssn

-- a page that isn't the last has an entry
abbrev pub goes_on : {A : Type 0} → Flags → List A → Bool
goes_on flags xs = is_done flags || not (length xs == 0)

-- the flags and the entries of a page above an RSN
unfoldable pub entries_in_range : ℕ → Flags → List LoggedMessage → Bool
entries_in_range above flags xs =
    nat_lt flags.bits 8 && goes_on flags xs && list_all (is_entry_above above) xs && ascends entry_before xs

-- the flags and the pairs of a page above an SSN; its teller lost nothing
unfoldable pub pairs_in_range : ℕ → Flags → List Pair → Bool
pairs_in_range above flags xs =
    nat_lt flags.bits 8 && not (is_lost flags) && goes_on flags xs && list_all (is_pair_above above) xs && ascends pair_before xs

-- each field is in range
abbrev pub in_range : Body → Bool
in_range (Delivery i ssn payload) = is_positive i && is_positive ssn
in_range (Number i ssn k) = is_positive i && is_positive ssn && is_positive k
in_range (Acknowledgement i k) = is_positive i && is_positive k
in_range (Ask i k) = is_positive i && is_number k
in_range (Told i j k flags entries) = is_positive i && is_positive j && is_number k && entries_in_range k flags entries
in_range (Resume i kept s) = is_positive i && is_number kept && is_number s
in_range (Restored i j c s flags pairs) = is_positive i && is_positive j && is_number c && is_number s && pairs_in_range s flags pairs
in_range (Saved c) = is_number c
