use Rattle.std.proofs.Common.{◌≡◌, ◌<◌, ℕ, Some}
use Rattle.std.specs.Prelude.{slice_get}
use Rattle.elf.specs.Function.{IsText}
use Rattle.elf.specs.declared.symbol.Symbol.{Symbol}
use Rattle.elf.proofs.finder.named.Given as goal

abbrev pub invariant-loop-function : goal.invariant-loop-function
invariant-loop-function l =
    (k : ℕ) (other : Symbol) → k < l.function-index → slice_get l.functions k ≡ Some other → ¬ IsText l.file other.name l.name
