use Rattle.std.proofs.Common.{◌≡◌, take}
use Rattle.std.specs.List.{fold, flat_map}
use Rattle.packets.specs.Checksum.{next_remainder, byte_bits}
use Rattle.packets.proofs.checksum.behind_words.Given as goal

abbrev pub invariant-loop-word : goal.invariant-loop-word
invariant-loop-word l = l.remainder ≡ fold next_remainder l.before (flat_map (flat_map byte_bits) (take l.word-index l.words))
