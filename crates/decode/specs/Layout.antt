-- The eight bytes of a slot (RFC 9669 section 3.1).
use Rattle.std.specs.Prelude.{ℕ, ◌+◌, ◌*◌, List, ◌∷◌, ◌++◌, ◌<◌, ◌^◌}
use Rattle.std.specs.Int.{w16, w32, to_le_bytes}
use Rattle.decode.specs.declared.word.Word.{Word}

-- opcode; destination in the low and source in the high four bits; offset and immediate value, little-endian
abbrev pub word_bytes : Word → List ℕ
word_bytes w = w.opcode ∷ (w.dst + w.src * 16) ∷ (to_le_bytes w16 w.offset ++ to_le_bytes w32 w.imm)

-- the fields have their sizes: 4, 4, 16 and 32 bits (RFC 9669 section 3.1)
pub record IsWord (w : Word) : Type 0 where
  pub dst : w.dst < 16
  pub src : w.src < 16
  pub offset : w.offset < 2 ^ 16
  pub imm : w.imm < 2 ^ 32
