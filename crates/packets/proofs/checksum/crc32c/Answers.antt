use Rattle.std.proofs.Common.{◌-◌, ◌/◌, ℕ, length, ap}
use Rattle.packets.specs.Checksum.{crc32c}
use Rattle.packets.proofs.ChecksumLemmas.{in_words}
use Rattle.packets.proofs.checksum.crc32c.Goals as goal

pub returns : goal.returns
unfolding crc32c
returns c =
    rw (c.behind_bytes.ensures, c.behind_words.ensures, c.as_chunks.ensures.front, c.as_chunks.ensures.back)
    (ap (λ (z : ℕ). 4294967295 - z) (in_words 4294967295 (length c.args.bytes.now / 8) c.args.bytes.now))
