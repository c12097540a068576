use Rattle.std.proofs.Common.{◌≡◌, ℕ, ◌<◌, ◌≤◌, length, get_or}
use Rattle.limits.specs.declared.TheConstants.{REGISTERS}
use Rattle.listing.specs.Why.{Explains}
use Rattle.listing.specs.declared.why.UnsetCause.TheVariants.{Unknown}
use Rattle.listing.proofs.why.whys_at.Given as goal

abbrev pub invariant-loop-number : goal.invariant-loop-number
invariant-loop-number l = record {
  size : length l.whys ≡ REGISTERS;
  found : (r : ℕ) → r < l.number → Explains l.study r (get_or l.whys r Unknown) l.slot;
  rest : (r : ℕ) → l.number ≤ r → get_or l.whys r Unknown ≡ Unknown;
}
