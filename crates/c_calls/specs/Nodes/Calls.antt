-- The calls of a node, and their answers
use Rattle.std.specs.Prelude.{◌≡◌, ℕ, List, Option, Some, None, true, false}
use Rattle.packets.specs.declared.fault.PacketFault.{PacketFault}
use Rattle.packets.specs.Faults as faults
use Rattle.packets.specs.declared.packet.NodePacket.{NodePacket}
use Rattle.packets.specs.Format.{IsPacket}
use Rattle.packets.specs.declared.fault.PacketError.TheVariants as packet
use Rattle.process.specs.Process.{TheProcess}
use Rattle.recovery.specs.declared.moment.Cause.TheVariants as cause
use Rattle.process.specs.Calls as calls
use Rattle.recovery.specs.Transitions as passing
use Rattle.process.specs.Job.{HasNext}
use Rattle.process.specs.Work as working
use Rattle.c_calls.specs.declared.nodes.fault.NodeFault.{NodeFault}
use Rattle.c_calls.specs.declared.nodes.fault.NodeFault.TheVariants.{Memory, Handle, Absent, Bytes, Unready, Limit}
use Rattle.c_calls.specs.Nodes.Answers.{OfBoth, OfSame, StaysClosed}

-- an open handle was closed
abbrev pub IsClosed : Option TheProcess → Option TheProcess → Type 0
IsClosed old new = ((p : TheProcess) × (old ≡ Some p)) × (new ≡ None)

-- the handle was closed before, and still is
abbrev pub WasClosed : Option TheProcess → Option TheProcess → NodeFault → Type 0
WasClosed old new Handle = StaysClosed old new
WasClosed old new other = ⊥

-- the bytes of a packet were handed to it
abbrev pub IsReceived : List ℕ → Option TheProcess → Option TheProcess → Type 0
IsReceived bytes old new = OfBoth old new (λ p p'. (x : NodePacket) × IsPacket x bytes × calls.Calls (calls.IsHanded x) p p')

-- why they weren't: they are not those of a packet, memory ran out, or the handle is closed. Nothing has changed
abbrev pub IsUnreceived : List ℕ → Option TheProcess → Option TheProcess → NodeFault → Type 0
IsUnreceived bytes old new Memory = OfSame old new (λ p. Unit {0})
IsUnreceived bytes old new (Bytes f) =
    OfSame old new (λ p. (why : PacketFault) × (f ≡ faults.fault_number why) × faults.IsReason (packet.Fault why) bytes)
IsUnreceived bytes old new Handle = StaysClosed old new
IsUnreceived bytes old new other = ⊥

-- its handler ran on the next message
abbrev pub HasWorked : Option TheProcess → Option TheProcess → Type 0
HasWorked old new = OfBoth old new working.Works

-- why it didn't: there is nothing to run on; there is, and memory ran out; or the handle is closed. Nothing has changed
abbrev pub HasNotWorked : Option TheProcess → Option TheProcess → NodeFault → Type 0
HasNotWorked old new Memory = OfSame old new HasNext
HasNotWorked old new Absent = OfSame old new working.Rests
HasNotWorked old new Handle = StaysClosed old new
HasNotWorked old new other = ⊥

-- it sent again what isn't answered, and went on if its stage is over
abbrev pub HasTicked : Option TheProcess → Option TheProcess → Type 0
HasTicked old new = OfBoth old new (λ p p'. calls.Calls calls.Ticks p p' × (passing.is_held p'.lifecycle ≡ false))

-- why it didn't: it sent again, and its stage is over, but memory ran out or it would keep more messages than a process takes; or the
-- handle is closed
abbrev pub IsHeldBack : Option TheProcess → Option TheProcess → NodeFault → Type 0
IsHeldBack old new Memory = OfBoth old new (λ p p'. calls.Calls calls.Ticks p p' × passing.IsHeld cause.Memory p'.lifecycle)
IsHeldBack old new Limit = OfBoth old new (λ p p'. calls.Calls calls.Ticks p p' × passing.IsHeld cause.TooMany p'.lifecycle)
IsHeldBack old new Handle = StaysClosed old new
IsHeldBack old new other = ⊥

-- the checkpoint for which it waited is durable
abbrev pub HasSaved : Option TheProcess → Option TheProcess → Type 0
HasSaved old new = OfBoth old new (λ p p'. (calls.is_frozen p.lifecycle ≡ true) × calls.Stays calls.Thaws p p')

-- why it still waits or isn't waiting: it waits for none, memory ran out, or the handle is closed. Nothing has changed
abbrev pub HasNotSaved : Option TheProcess → Option TheProcess → NodeFault → Type 0
HasNotSaved old new Memory = OfSame old new (λ p. Unit {0})
HasNotSaved old new Unready = OfSame old new (λ p. calls.is_frozen p.lifecycle ≡ false)
HasNotSaved old new Handle = StaysClosed old new
HasNotSaved old new other = ⊥
