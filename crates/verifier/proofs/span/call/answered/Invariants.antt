use Rattle.std.proofs.Common.{◌≡◌, length}
use Rattle.spans.specs.Frame.{kind_at}
use Rattle.spans.specs.Ways.{behind_helper}
use Rattle.verifier.proofs.Spans.KindLemmas.{Filled}
use Rattle.verifier.proofs.span.call.answered.Given as goal

abbrev pub invariant-loop-cell : goal.invariant-loop-cell
invariant-loop-cell l = (length l.kinds ≡ 75) × Filled l.kinds (behind_helper (kind_at l.frame.kinds)) l.cell
