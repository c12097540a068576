-- The label of a packet
use Rattle.std.specs.Prelude.{◌≡◌, ◌⊎◌, ℕ, List}
use Rattle.packets.specs.declared.fault.PacketFault.{PacketFault}
use Rattle.packets.specs.declared.packet.Body.{Body}
use Rattle.packets.specs.declared.packet.Body.TheVariants.{Delivery, Number, Acknowledgement, Saved}
use Rattle.packets.specs.declared.packet.NodePacket.{NodePacket}
use Rattle.packets.specs.Faults as faults
use Rattle.packets.specs.Format.{IsPacket}
use Rattle.packets.specs.Packet.{kind_number, kind_of}
use Rattle.c_calls.specs.declared.nodes.fault.NodeFault.{NodeFault}
use Rattle.c_calls.specs.declared.nodes.fault.NodeFault.TheVariants.{Memory, Bytes}
use Rattle.c_calls.specs.declared.nodes.label.PacketLabel.{PacketLabel}
use Rattle.c_calls.specs.Nodes.Answers.{fault_number, written}

-- the SSN of its message, or of the last one that is covered for good; 0 if it has none
abbrev pub ssn_of : Body → ℕ
ssn_of (Delivery i ssn payload) = ssn
ssn_of (Number i ssn k) = ssn
ssn_of (Saved covered) = covered
ssn_of other = 0

-- the RSN that it tells or acknowledges; 0 if it has none
abbrev pub number_of : Body → ℕ
number_of (Number i ssn k) = k
number_of (Acknowledgement i k) = k
number_of other = 0

-- the label, in five words
abbrev pub label_of : NodePacket → PacketLabel
label_of x =
    record { kind = kind_number (kind_of x.body); from = x.from; to = x.to; ssn = ssn_of x.body; number = number_of x.body }

-- the bytes are those of a packet with this label
abbrev pub IsLabelled : List ℕ → PacketLabel → Type 0
IsLabelled bytes label = (x : NodePacket) × IsPacket x bytes × (label ≡ label_of x)

-- why none is written: the bytes are not those of a packet, by their first fault, or memory ran out
abbrev pub IsUnlabelled : List ℕ → PacketLabel → PacketLabel → NodeFault → Type 0
IsUnlabelled bytes was label Memory = label ≡ was
IsUnlabelled bytes was label (Bytes f) = (label ≡ was) × ((why : PacketFault) × (f ≡ faults.fault_number why) × faults.IsFirst why bytes)
IsUnlabelled bytes was label other = ⊥

-- the meaning of a code: 0 says that the label is written, any other number why it was not
abbrev pub AnswersLabel : List ℕ → ℕ → PacketLabel → PacketLabel → ℕ → ℕ → Type 0
AnswersLabel bytes code old new was fault = ((code ≡ 0) × IsLabelled bytes new × (fault ≡ was))
    ⊎ ((why : NodeFault) × (code ≡ fault_number why) × IsUnlabelled bytes old new why × (fault ≡ written why was))
