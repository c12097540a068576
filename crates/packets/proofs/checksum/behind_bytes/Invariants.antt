use Rattle.std.proofs.Common.{◌≡◌, take}
use Rattle.std.specs.List.{fold, flat_map}
use Rattle.packets.specs.Checksum.{next_remainder, byte_bits}
use Rattle.packets.proofs.checksum.behind_bytes.Given as goal

abbrev pub invariant-loop-byte : goal.invariant-loop-byte
invariant-loop-byte l = l.remainder ≡ fold next_remainder l.before (flat_map byte_bits (take l.byte-index l.bytes))
