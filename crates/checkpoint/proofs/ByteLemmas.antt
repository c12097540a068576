-- The numbers of `byteorder` are those of the format
use Rattle.std.proofs.Common.{◌≡◌, ℕ, List, arith}
use Rattle.std.specs.Int.{w16, w32, from_le_bytes}
use Rattle.byteorder.specs.Endian.{little_number}

pub little_16 : (bytes : List ℕ) → little_number 2 bytes ≡ from_le_bytes w16 bytes
little_16 bytes = omega arith

pub little_32 : (bytes : List ℕ) → little_number 4 bytes ≡ from_le_bytes w32 bytes
little_32 bytes = omega arith
