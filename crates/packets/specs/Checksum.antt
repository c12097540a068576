-- CRC-32C (Castagnoli): the remainder of a division of polynomials with bits as coefficients
use Rattle.std.specs.Prelude.{ℕ, zero, suc, ◌-◌, ◌/◌, ◌%◌, ◌^◌, List, [], ◌∷◌, bit_xor, ◌==◌, if◌then◌else◌}
use Rattle.std.specs.List.{fold, flat_map}

-- the divisor, without x^32; bit i of a number is the coefficient of x^(31 - i)
abbrev pub polynomial : ℕ
polynomial = 0x82F63B78

-- the remainder after one more bit of the dividend: times x, minus the divisor if that has x^32
abbrev pub next_remainder : ℕ → ℕ → ℕ
next_remainder r bit = if r % 2 == bit then r / 2 else bit_xor (r / 2) polynomial

-- the low bits of a number, the lowest first
abbrev pub bits : ℕ → ℕ → List ℕ
bits zero n = []
bits (suc k) n = n % 2 ∷ bits k (n / 2)

-- the bits of a byte, the lowest first
unfoldable pub byte_bits : ℕ → List ℕ
byte_bits n = bits 8 n

-- the bits of the bytes are divided, starting from a remainder of ones; the last remainder is inverted
unfoldable pub crc32c : List ℕ → ℕ
crc32c bytes = 2 ^ 32 - 1 - fold next_remainder (2 ^ 32 - 1) (flat_map byte_bits bytes)
