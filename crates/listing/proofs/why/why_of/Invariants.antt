use Rattle.std.proofs.Common.{ℕ, List}
use Rattle.listing.specs.Why.{StaysUnset}
use Rattle.listing.proofs.why.why_of.Given as goal

abbrev pub invariant-loop-at : goal.invariant-loop-at
invariant-loop-at l = (way : List ℕ) × StaysUnset l.study l.reg.number l.at way l.slot

abbrev pub decreases-loop-at : goal.decreases-loop-at
decreases-loop-at l = l.at
