use Rattle.packets.proofs.Fixed.{rest_is, two}
use Rattle.packets.proofs.fields.two_of.Goals as goal

pub returns-then-bytes-lt16 : goal.returns-then-bytes-lt16
returns-then-bytes-lt16 c = two.none c.args.bytes.now c.if-bytes-lt16.true

pub returns : goal.returns
returns c =
    let bytes = c.args.bytes.now in
    rw (c.read_u64-a.ensures, c.read_u64-b.ensures, rest_is 8 bytes, rest_is 16 bytes) (two.some bytes c.if-bytes-lt16.false)
