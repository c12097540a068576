use Rattle.std.proofs.Common.{◌<◌, ℕ}
use Rattle.elf.specs.Function.{IsCall}
use Rattle.elf.proofs.object.check_calls.Given as goal

abbrev pub invariant-loop-slot : goal.invariant-loop-slot
invariant-loop-slot l = (k : ℕ) → k < l.slot → ¬ IsCall l.code k
