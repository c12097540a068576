use Rattle.std.proofs.Common.{ℕ, ◌<◌}
use Rattle.regtypes.specs.Frame.{kind_at, LeqKind}
use Rattle.regtypes.proofs.frame.leq.Given as goal

abbrev pub invariant-loop-i : goal.invariant-loop-i
invariant-loop-i l = (r : ℕ) → r < l.i → LeqKind (kind_at l.a.kinds r) (kind_at l.b.kinds r)
