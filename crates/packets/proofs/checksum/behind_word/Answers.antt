use Rattle.std.proofs.Common.{rules}
use Rattle.packets.proofs.ChecksumLemmas.{behind_list}
use Rattle.packets.proofs.checksum.behind_word.Goals as goal

pub returns : goal.returns
returns c = rw (c.left_by.ensures, c.left_by-2.ensures, c.left_by-3.ensures, c.left_by-4.ensures, c.left_by-5.ensures, c.left_by-6.ensures, c.left_by-7.ensures, c.left_by-8.ensures) (behind_list c.args.remainder c.args.word.now c.ranges.remainder.fits (search rules) (search rules))
