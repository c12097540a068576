-- What a node writes into buffers
use Rattle.std.specs.Prelude.{◌≡◌, ◌∷◌, ℕ, List, [], Option, Some}
use Rattle.packets.specs.declared.packet.NodePacket.{NodePacket}
use Rattle.packets.specs.Format.{IsPacket}
use Rattle.process.specs.Process.{TheProcess, out_of, state_of}
use Rattle.process.specs.Calls.{Stays, Takes, Freezes}
use Rattle.process.specs.Packets.{IsFront}
use Rattle.process.specs.Checkpoints.{IsSavable, Keeps}
use Rattle.c_calls.specs.declared.nodes.fault.NodeFault.{NodeFault}
use Rattle.c_calls.specs.declared.nodes.fault.NodeFault.TheVariants.{Memory, Handle, Room, Absent, Unready}
use Rattle.c_calls.specs.Nodes.Answers.{OfBoth, OfSame, StaysClosed}
use Rattle.c_handles.specs.Buffer.{IsCopied, IsUncopied, IsUntouched}
use Rattle.c_handles.specs.Bundle.{GivesFirst, GivesAll, IsUnfit}

-- the first packet that waits, which goes to this process and has these bytes, is taken
abbrev pub Leaves : ℕ → List ℕ → TheProcess → TheProcess → Type 0
Leaves to bytes p p' = (x : NodePacket) × IsPacket x bytes × (x.to ≡ to) × Stays (Takes (Some x)) p p'

-- a packet was taken from the process
abbrev pub IsTaken : List ℕ → List ℕ → ℕ → ℕ → Option TheProcess → Option TheProcess → Type 0
IsTaken out out' size to old new = OfBoth old new (GivesFirst Leaves out out' size to)

-- why none is taken, if the handle is open: none waits, the buffer is too short for it, or memory ran out
abbrev pub LeavesIn : (List ℕ → List ℕ → List ℕ → ℕ → Type 0) → List ℕ → List ℕ → ℕ → ℕ → TheProcess → TheProcess → NodeFault → Type 0
LeavesIn IsShort out out' was size p p' Absent = (p' ≡ p) × (out_of p.lifecycle ≡ []) × IsUntouched out out' was size
LeavesIn IsShort out out' was size p p' Room = (p' ≡ p) × ((bytes : List ℕ) × IsFront p bytes × IsShort bytes out out' size)
LeavesIn IsShort out out' was size p p' Memory = (p' ≡ p) × IsUntouched out out' was size
LeavesIn IsShort out out' was size p p' other = ⊥

-- why none is taken: one of these, or the handle is closed. Nothing else has changed
abbrev pub IsUntaken : List ℕ → List ℕ → ℕ → ℕ → Option TheProcess → Option TheProcess → NodeFault → Type 0
IsUntaken out out' was size old new Handle = StaysClosed old new × IsUntouched out out' was size
IsUntaken out out' was size old new why = OfBoth old new (λ p p'. LeavesIn IsUncopied out out' was size p p' why)

-- a checkpoint is made, and its bytes are in the buffer
abbrev pub Makes : List ℕ → List ℕ → ℕ → TheProcess → TheProcess → Type 0
Makes out out' size p p' = IsSavable p.lifecycle × ((bytes : List ℕ) × Keeps p.lifecycle bytes × IsCopied bytes out out' size)
    × Stays Freezes p p'

-- the bytes of its checkpoint were written
abbrev pub IsMade : List ℕ → List ℕ → ℕ → Option TheProcess → Option TheProcess → Type 0
IsMade out out' size old new = OfBoth old new (Makes out out' size)

-- why none is made, if the handle is open: it can't be made now, the buffer is too short for it, or memory ran out
abbrev pub DoesNotMake : List ℕ → List ℕ → ℕ → ℕ → TheProcess → TheProcess → NodeFault → Type 0
DoesNotMake out out' was size p p' Unready = (p' ≡ p) × (¬ IsSavable p.lifecycle) × IsUntouched out out' was size
DoesNotMake out out' was size p p' Room = (p' ≡ p) × IsSavable p.lifecycle
    × ((bytes : List ℕ) × Keeps p.lifecycle bytes × IsUncopied bytes out out' size)
DoesNotMake out out' was size p p' Memory = (p' ≡ p) × IsSavable p.lifecycle × IsUntouched out out' was size
DoesNotMake out out' was size p p' other = ⊥

-- why none is made: one of these, or the handle is closed. Nothing else has changed
abbrev pub IsUnmade : List ℕ → List ℕ → ℕ → ℕ → Option TheProcess → Option TheProcess → NodeFault → Type 0
IsUnmade out out' was size old new Handle = StaysClosed old new × IsUntouched out out' was size
IsUnmade out out' was size old new why = OfBoth old new (λ p p'. DoesNotMake out out' was size p p' why)

-- its state is in the buffer
abbrev pub IsRead : List ℕ → List ℕ → ℕ → Option TheProcess → Option TheProcess → Type 0
IsRead out out' size old new = OfSame old new (λ p. IsCopied (state_of p.lifecycle) out out' size)

-- why it isn't: the buffer is too short for it, or the handle is closed
abbrev pub IsUnread : List ℕ → List ℕ → ℕ → ℕ → Option TheProcess → Option TheProcess → NodeFault → Type 0
IsUnread out out' was size old new Room = OfSame old new (λ p. IsUncopied (state_of p.lifecycle) out out' size)
IsUnread out out' was size old new Handle = StaysClosed old new × IsUntouched out out' was size
IsUnread out out' was size old new other = ⊥

-- ---- bundles

-- the first packet that waits goes to this process, and these are its bytes
abbrev pub Waits : ℕ → List ℕ → TheProcess → Type 0
Waits to bytes p = (x : NodePacket) × IsPacket x bytes × (x.to ≡ to) × ((rest : List NodePacket) × (out_of p.lifecycle ≡ x ∷ rest))

-- packets were taken from the process
abbrev pub AreTaken : List ℕ → List ℕ → ℕ → ℕ → ℕ → Option TheProcess → Option TheProcess → Type 0
AreTaken out out' size to count old new = OfBoth old new (GivesAll Leaves out out' size to count)

-- why none is taken: none waits, the first one doesn't fit the buffer, memory ran out, or the handle is closed. Nothing else has changed
abbrev pub AreUntaken : List ℕ → List ℕ → ℕ → ℕ → Option TheProcess → Option TheProcess → NodeFault → Type 0
AreUntaken out out' was size old new Handle = StaysClosed old new × IsUntouched out out' was size
AreUntaken out out' was size old new why = OfBoth old new (λ p p'. LeavesIn IsUnfit out out' was size p p' why)
