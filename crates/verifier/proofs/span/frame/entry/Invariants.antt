use Rattle.std.proofs.Common.{◌≡◌, length}
use Rattle.spans.specs.Frame.{entry_frame}
use Rattle.verifier.proofs.Spans.KindLemmas.{Filled}
use Rattle.verifier.proofs.span.frame.entry.Given as goal

abbrev pub invariant-loop-cell : goal.invariant-loop-cell
invariant-loop-cell l = (length l.kinds ≡ 75) × Filled l.kinds entry_frame l.cell
