-- How far an instruction jumps.
use Rattle.std.specs.Prelude.{ℤ, pos, FitsSigned}
use Rattle.std.specs.Int.{w16, w32}
use Rattle.decode.specs.declared.insn.Insn.{Insn}
use Rattle.decode.specs.declared.insn.Insn.TheVariants.{Jump, JumpLong, JumpIf}

-- how many slots from the next one an instruction jumps; 0 if it doesn't
abbrev pub distance : Insn → ℤ
distance (Jump offset) = offset
distance (JumpLong far) = far
distance (JumpIf condition width dst o offset) = offset
distance i = pos 0

-- the same instruction, jumping by another distance if it jumps
abbrev pub with_distance : Insn → ℤ → Insn
with_distance (Jump offset) d = Jump d
with_distance (JumpLong far) d = JumpLong d
with_distance (JumpIf condition width dst o offset) d = JumpIf condition width dst o d
with_distance i d = i

-- a jump's field holds the distance: it has 16 bits, or 32 in a long jump; what doesn't jump has no field to fit
abbrev pub HasRoom : Insn → ℤ → Type 0
HasRoom (Jump offset) d = FitsSigned w16 d
HasRoom (JumpLong far) d = FitsSigned w32 d
HasRoom (JumpIf condition width dst o offset) d = FitsSigned w16 d
HasRoom i d = Unit {0}
