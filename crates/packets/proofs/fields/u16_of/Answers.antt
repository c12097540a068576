use Rattle.packets.proofs.Fixed.{rest_is, one}
use Rattle.packets.proofs.fields.u16_of.Goals as goal

pub returns-then-bytes-lt2 : goal.returns-then-bytes-lt2
returns-then-bytes-lt2 c = (one 2).none c.args.bytes.now c.if-bytes-lt2.true

pub returns : goal.returns
returns c =
    let bytes = c.args.bytes.now in
    rw (c.read_u16.ensures, rest_is 2 bytes) ((one 2).some bytes c.if-bytes-lt2.false)
