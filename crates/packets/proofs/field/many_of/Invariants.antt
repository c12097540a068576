use Rattle.std.proofs.Common.{◌≡◌, ◌-◌}
use Rattle.packets.specs.Inside.Reader.{times}
use Rattle.packets.proofs.Counted.{with_front}
use Rattle.packets.proofs.field.many_of.Given as goal

abbrev pub invariant-loop : goal.invariant-loop
invariant-loop g l = with_front l.items (times g.T.Readable.reader (l.count - l.counter) l.rest) ≡ times g.T.Readable.reader l.count l.bytes
