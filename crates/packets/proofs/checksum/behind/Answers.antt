use Rattle.packets.proofs.ChecksumLemmas.{behind_byte}
use Rattle.packets.proofs.checksum.behind.Goals as goal

pub returns : goal.returns
returns c = rw c.left_by.ensures (behind_byte c.args.remainder c.args.byte c.ranges.byte.fits)
