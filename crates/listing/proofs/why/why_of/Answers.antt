use Rattle.std.proofs.Common.{◌∷◌}
use Rattle.listing.proofs.why.why_of.Goals as goal

pub loop-at-preserved : goal.loop-at-preserved
loop-at-preserved c = (c.loop-at.at ∷ c.loop-at.invariant.0, (c.in-Unset.ensures.1, c.in-Unset.ensures.2, c.loop-at.invariant.1))
