use Rattle.std.proofs.Common.{◌≡◌, length}
use Rattle.spans.specs.Frame.{kind_at}
use Rattle.verifier.proofs.Spans.Erasure.{Wiped}
use Rattle.verifier.proofs.span.access.wiped.Given as goal

abbrev pub invariant-loop-cell : goal.invariant-loop-cell
invariant-loop-cell l = (length l.kinds ≡ 75) × Wiped (kind_at l.frame.kinds) l.reach l.fn.offset l.bytes l.kinds l.cell
