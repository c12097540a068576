use Rattle.std.proofs.Common.{◌≡◌, take, map}
use Rattle.recovery.specs.Resumption.{is_set}
use Rattle.recovery.proofs.resumption.flags_of.Given as goal

abbrev pub invariant-loop-place : goal.invariant-loop-place
invariant-loop-place l = l.flags.items ≡ map is_set (take l.place l.bytes)
