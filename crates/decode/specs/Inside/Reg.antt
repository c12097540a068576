-- The registers that a slot's two fields name (RFC 9669 section 3.1).
use Rattle.std.specs.Prelude.{◌≡◌, ◌<◌, ◌⊎◌, Option, Some, None}
use Rattle.decode.specs.declared.insn.Reg.{Reg}
use Rattle.decode.specs.declared.word.Word.{Word}

-- the registers that the two fields name, unless one is above 10
abbrev pub AreRegisters : Option (Reg × Reg) → Word → Type 0
AreRegisters None w = (10 < w.dst) ⊎ (10 < w.src)
AreRegisters (Some rs) w = (rs.0.number ≡ w.dst) × (rs.1.number ≡ w.src)
