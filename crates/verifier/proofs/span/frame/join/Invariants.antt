use Rattle.std.proofs.Common.{◌≡◌, length}
use Rattle.spans.specs.Frame.{joined, kind_at}
use Rattle.verifier.proofs.Spans.KindLemmas.{Filled}
use Rattle.verifier.proofs.span.frame.join.Given as goal

abbrev pub invariant-loop-i : goal.invariant-loop-i
invariant-loop-i l = (length l.kinds ≡ 75) × Filled l.kinds (joined (kind_at l.a.kinds) (kind_at l.b.kinds)) l.i
