use Rattle.std.proofs.Common.{refl}
use Rattle.packets.specs.Inside.Reader.{body_at}
use Rattle.packets.proofs.Fixed.{one, not_alone, alone}
use Rattle.packets.proofs.reader.read_saved.Goals as goal

pub returns-then-bytes-ne8 : goal.returns-then-bytes-ne8
unfolding body_at
returns-then-bytes-ne8 c = rw (not_alone (one 8) c.args.bytes.now c.if-bytes-ne8.true) refl

pub returns : goal.returns
unfolding body_at
returns c = rw (alone (one 8) c.args.bytes.now c.if-bytes-ne8.false, c.read_u64-covered.ensures) refl
