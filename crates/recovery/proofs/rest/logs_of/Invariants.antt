use Rattle.std.proofs.Common.{◌≡◌, ◌-◌}
use Rattle.packets.specs.Inside.Reader.{times}
use Rattle.recovery.specs.Resumption.{codes_at}
use Rattle.packets.proofs.Counted.{with_front}
use Rattle.recovery.proofs.rest.logs_of.Given as goal

abbrev pub invariant-loop : goal.invariant-loop
invariant-loop l = with_front l.logs (times codes_at (l.wide - l.counter) l.rest) ≡ times codes_at l.wide l.bytes
