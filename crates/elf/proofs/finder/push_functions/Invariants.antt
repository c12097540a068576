use Rattle.std.proofs.Common.{◌≡◌, ◌++◌}
use Rattle.elf.specs.Object.{functions_in}
use Rattle.elf.proofs.finder.push_functions.Given as goal

abbrev pub invariant-loop-row : goal.invariant-loop-row
invariant-loop-row l = l.functions.items ≡ l.fn.functions.items ++ functions_in l.file l.table l.row
