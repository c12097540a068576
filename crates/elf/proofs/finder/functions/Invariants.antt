use Rattle.std.proofs.Common.{◌≡◌, ◌≤◌, length}
use Rattle.elf.specs.Object.{functions_below, sizes_below}
use Rattle.elf.proofs.finder.functions.Given as goal

abbrev pub invariant-loop-index : goal.invariant-loop-index
invariant-loop-index l = record {
  found : l.functions.items ≡ functions_below l.file l.index;
  sizes : l.total ≡ sizes_below l.file l.index;
  within : l.total ≤ length l.file;
}
