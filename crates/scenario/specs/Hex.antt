-- Bytes as text (docs/FORMATS.md, "Hexadecimal").
use Rattle.std.specs.Prelude.{◌≤◌, ◌<◌, length, ℕ, ◌/◌, ◌%◌, List, [], ◌∷◌, codes, flat_map}
use Rattle.std.specs.Char.{digit_char}
use Rattle.std.specs.List.{AllByRecursion}
use Rattle.limits.specs.declared.TheConstants.{PAYLOAD_BYTES}

-- a byte as two lower-case hexadecimal digits
abbrev pub pair_text : ℕ → List ℕ
pair_text b = digit_char (b / 16) ∷ digit_char (b % 16) ∷ []

-- each byte as two digits
abbrev pub pairs_text : List ℕ → List ℕ
pairs_text bytes = flat_map pair_text bytes

-- each byte as two digits, or `-` if there are none
abbrev pub hex_text : List ℕ → List ℕ
hex_text [] = codes "-"
hex_text (b ∷ rest) = pairs_text (b ∷ rest)

-- at most 256 bytes
abbrev pub IsPayload : List ℕ → Type 0
IsPayload bytes = (length bytes ≤ PAYLOAD_BYTES) × AllByRecursion (λ b. b < 256) bytes
