-- Numbers as messages.
use Rattle.std.specs.Prelude.{ℕ, List, ◌++◌, replicate}
use Rattle.std.specs.Int.{to_le_bytes, w64}

-- the message of a number: its 8 bytes, the least first, and 56 zeros
abbrev pub message_word : ℕ → List ℕ
message_word word = to_le_bytes w64 word ++ replicate 56 0
