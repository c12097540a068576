use Rattle.std.proofs.Common.{◌+◌, ◌*◌, ◌≤◌, length}
use Rattle.checkpoint.proofs.reader.room_of.Given as goal

abbrev pub invariant-loop : goal.invariant-loop
invariant-loop l = l.room + length l.rest ≤ length l.bytes + 2 * l.counter
