use Rattle.std.proofs.Common.{◌≡◌, ◌++◌, take, map}
use Rattle.node.specs.Suspension.{flag_byte}
use Rattle.node.proofs.suspension.put_flags.Given as goal

abbrev pub invariant-loop-flag : goal.invariant-loop-flag
invariant-loop-flag l = l.out.items ≡ l.fn.out.items ++ map flag_byte (take l.flag-index l.flags)
