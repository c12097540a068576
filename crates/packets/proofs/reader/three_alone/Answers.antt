use Rattle.std.proofs.lemmas.List.{drop-drop}
use Rattle.packets.proofs.Fixed.{rest_is, three, not_alone, alone}
use Rattle.packets.proofs.reader.three_alone.Goals as goal

pub returns-then-bytes-ne24 : goal.returns-then-bytes-ne24
returns-then-bytes-ne24 c = not_alone three c.args.bytes.now c.if-bytes-ne24.true

pub returns : goal.returns
returns c =
    let bytes = c.args.bytes.now in
    rw (c.read_u64-a.ensures, c.read_u64-b.ensures, c.read_u64-c.ensures, rest_is 8 bytes, rest_is 16 bytes, ← drop-drop 8 8 bytes) (alone three bytes c.if-bytes-ne24.false)
