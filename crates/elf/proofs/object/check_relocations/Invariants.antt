use Rattle.std.proofs.Common.{◌<◌, ℕ}
use Rattle.elf.specs.Function.{IsReference}
use Rattle.elf.proofs.object.check_relocations.Given as goal

abbrev pub invariant-loop-row : goal.invariant-loop-row
invariant-loop-row l = (k : ℕ) → k < l.row → ¬ IsReference l.file l.symbol l.section k
