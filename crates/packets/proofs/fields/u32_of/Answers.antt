use Rattle.packets.proofs.Fixed.{rest_is, one}
use Rattle.packets.proofs.fields.u32_of.Goals as goal

pub returns-then-bytes-lt4 : goal.returns-then-bytes-lt4
returns-then-bytes-lt4 c = (one 4).none c.args.bytes.now c.if-bytes-lt4.true

pub returns : goal.returns
returns c =
    let bytes = c.args.bytes.now in
    rw (c.read_u32.ensures, rest_is 4 bytes) ((one 4).some bytes c.if-bytes-lt4.false)
