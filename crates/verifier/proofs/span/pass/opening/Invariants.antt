use Rattle.std.proofs.Common.{◌≡◌, length}
use Rattle.spans.specs.Frame.{entry_frame}
use Rattle.verifier.specs.Inside.Pass.{IsOpening}
use Rattle.verifier.specs.Span.Typing.{table_of}
use Rattle.verifier.proofs.span.pass.opening.Given as goal

abbrev pub invariant-rest : goal.invariant-rest
invariant-rest l = (length l.table.items ≡ l.counter) × IsOpening entry_frame (table_of l.table.items)
