use Rattle.std.proofs.lemmas.List.{drop-drop}
use Rattle.packets.proofs.Fixed.{rest_is, three}
use Rattle.packets.proofs.fields.three_of.Goals as goal

pub returns-then-bytes-lt24 : goal.returns-then-bytes-lt24
returns-then-bytes-lt24 c = three.none c.args.bytes.now c.if-bytes-lt24.true

pub returns : goal.returns
returns c =
    let bytes = c.args.bytes.now in
    rw (c.read_u64-a.ensures, c.read_u64-b.ensures, c.read_u64-c.ensures, rest_is 8 bytes, rest_is 16 bytes, rest_is 24 bytes, ← drop-drop 8 8 bytes) (three.some bytes c.if-bytes-lt24.false)
