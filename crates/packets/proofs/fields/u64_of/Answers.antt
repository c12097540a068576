use Rattle.packets.proofs.Fixed.{rest_is, one}
use Rattle.packets.proofs.fields.u64_of.Goals as goal

pub returns-then-bytes-lt8 : goal.returns-then-bytes-lt8
returns-then-bytes-lt8 c = (one 8).none c.args.bytes.now c.if-bytes-lt8.true

pub returns : goal.returns
returns c =
    let bytes = c.args.bytes.now in
    rw (c.read_u64.ensures, rest_is 8 bytes) ((one 8).some bytes c.if-bytes-lt8.false)
