use Rattle.packets.proofs.Fixed.{rest_is, two, not_alone, alone}
use Rattle.packets.proofs.reader.two_alone.Goals as goal

pub returns-then-bytes-ne16 : goal.returns-then-bytes-ne16
returns-then-bytes-ne16 c = not_alone two c.args.bytes.now c.if-bytes-ne16.true

pub returns : goal.returns
returns c =
    let bytes = c.args.bytes.now in
    rw (c.read_u64-a.ensures, c.read_u64-b.ensures, rest_is 8 bytes) (alone two bytes c.if-bytes-ne16.false)
