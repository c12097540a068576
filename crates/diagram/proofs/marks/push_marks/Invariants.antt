use Rattle.std.proofs.Common.{◌≡◌, ◌++◌, take, string_bytes}
use Rattle.diagram.specs.Marks.{marks_from}
use Rattle.diagram.proofs.marks.push_marks.Given as goal

abbrev pub invariant-loop-column : goal.invariant-loop-column
invariant-loop-column l = string_bytes l.out ≡ string_bytes l.fn.out ++ marks_from l.processes l.entries 0 (take l.column l.columns)
