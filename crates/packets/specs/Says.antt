-- The meaning of packets
use Rattle.std.specs.Prelude.{◌≡◌, ℕ, ◌<◌, List, [], ◌∷◌, map, Option, Some, None, true, false, ◌==◌, if◌then◌else◌}
use Rattle.world.specs.declared.message.Message.{Message}
use Rattle.cluster.specs.Parcels.{Body, Delivery, Number, Acknowledgement, Ask, Told, Resume, Restored, Saved, Parcel, Flagged, flagged}
use Rattle.cluster.specs.Parcels.{Said, parcel, In, reaches}
use Rattle.cluster.specs.Cluster.{Cluster}
use Rattle.cluster.specs.Rules.{message}
use Rattle.packets.specs.Packet.{is_done, is_lost, is_exact}
use Rattle.packets.specs.declared.page.LoggedMessage.{LoggedMessage}
use Rattle.packets.specs.declared.page.Pair.{Pair}
use Rattle.packets.specs.declared.page.Flags.{Flags}
use Rattle.packets.specs.declared.packet.Body as bodies
use Rattle.packets.specs.declared.packet.NodePacket.{NodePacket}
use Rattle.packets.specs.declared.packet.Body.TheVariants as packets

-- the meaning of a packet without a page
abbrev pub body_of : bodies.Body → Option Body
body_of (packets.Delivery i ssn x) = Some (Delivery i ssn x)
body_of (packets.Number i ssn k) = Some (Number i ssn k)
body_of (packets.Acknowledgement i k) = Some (Acknowledgement i k)
body_of (packets.Ask i k) = Some (Ask i k)
body_of (packets.Told i j k flags entries) = None
body_of (packets.Resume i k s) = Some (Resume i k s)
body_of (packets.Restored i j n s flags pairs) = None
body_of (packets.Saved n) = Some (Saved n)

-- the last of some numbers, or k if there is none
abbrev pub last_behind : ℕ → List ℕ → ℕ
last_behind k [] = k
last_behind k (x ∷ xs) = last_behind x xs

-- how far a page goes above k: to the end, or to the last of these numbers
abbrev pub page_end : Flags → ℕ → List ℕ → Option ℕ
page_end flags k keys = if is_done flags then None else Some (last_behind k keys)

-- the first message of p that a page has with the RSN m
abbrev pub first_told : ℕ → List LoggedMessage → ℕ → Option Message
first_told p [] m = None
first_told p (e ∷ es) m = if e.number == m then Some (message p e.ssn e.payload) else first_told p es m

-- the RSN that a page has for an SSN
abbrev pub first_number : List Pair → ℕ → Option ℕ
first_number [] ssn = None
first_number (x ∷ xs) ssn = if x.ssn == ssn then Some x.number else first_number xs ssn

-- how far the page goes
abbrev pub told_end : Flags → ℕ → List LoggedMessage → Option ℕ
told_end flags k entries = page_end flags k (map (λ (e : LoggedMessage). e.number) entries)

-- how far a page of RSNs by SSN goes
abbrev pub restored_end : Flags → ℕ → List Pair → Option ℕ
restored_end flags s pairs = page_end flags s (map (λ (x : Pair). x.ssn) pairs)

-- a packet of p says this. A page says every answer that agrees with it in the numbers that it reaches and that are not covered for good
abbrev pub Says : ℕ → bodies.Body → Body → Type 0
Says p (packets.Told i j k flags entries) b =
    (f : ℕ → Option Message) × (b ≡ Told i j k (told_end flags k entries) f) × (is_lost flags ≡ false)
    × ((m : ℕ) → k < m → reaches (told_end flags k entries) m ≡ true → f m ≡ first_told p entries m)
Says p (packets.Restored i j n s flags pairs) b =
    (f : ℕ → Option ℕ) × (b ≡ Restored i j n s (restored_end flags s pairs) f)
    × ((ssn : ℕ) → s < ssn → n < ssn → reaches (restored_end flags s pairs) ssn ≡ true → f ssn ≡ first_number pairs ssn)
Says p body b = body_of body ≡ Some b

-- this was said of the teller of a page; another packet says nothing of its sender
abbrev pub IsFlagged : List Flagged → Parcel → bodies.Body → Type 0
IsFlagged said x (packets.Told i j k flags entries) = Said (flagged x (is_exact flags) false) said
IsFlagged said x (packets.Restored i j n s flags pairs) = Said (flagged x (is_exact flags) false) said
IsFlagged said x body = Unit {0}

-- a packet from p to d with this body says what p sent
abbrev pub WasSaid : Cluster → ℕ → ℕ → bodies.Body → Type 0
WasSaid c p d body = (b : Body) × Says p body b × In (parcel p d b) c.parcels × IsFlagged c.said (parcel p d b) body

-- the packet is from p, and was sent
pub record PutOut (c : Cluster) (p : ℕ) (x : NodePacket) : Type 0 where
  pub count_is : x.count ≡ c.world.count
  pub from : x.from ≡ p
  pub said : WasSaid c p x.to x.body
