use Rattle.std.proofs.Common.{◌≡◌, ◌++◌, replicate}
use Rattle.std.specs.Prelude.{None}
use Rattle.runner.proofs.chronicle.note_calls.Given as goal

abbrev pub invariant-loop-noted : goal.invariant-loop-noted
invariant-loop-noted l = l.moments.items ≡ l.fn.moments.items ++ replicate l.noted (l.line, None)
