-- Bytes that arrive
use Rattle.std.specs.Prelude.{⊤, Result, Ok, Err}
use Rattle.packets.specs.declared.fault.PacketError.{PacketError}
use Rattle.packets.specs.declared.fault.PacketError.TheVariants.{Memory, Fault}

-- the bytes were taken, unless memory ran out
abbrev pub IsTaken : Result (Unit {0}) PacketError → Type 0
IsTaken (Ok u) = ⊤
IsTaken (Err Memory) = ⊤
IsTaken (Err (Fault f)) = ⊥
