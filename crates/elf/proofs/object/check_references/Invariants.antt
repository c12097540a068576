use Rattle.std.proofs.Common.{◌<◌, ℕ}
use Rattle.elf.specs.Function.{IsReference}
use Rattle.elf.specs.Object.{section_at}
use Rattle.elf.proofs.object.check_references.Given as goal

abbrev pub invariant-loop-index : goal.invariant-loop-index
invariant-loop-index l = (k row : ℕ) → k < l.index → ¬ IsReference l.file l.symbol (section_at l.file k) row
