-- Slots that a distance leads to.
use Rattle.std.proofs.Common.{ℕ, ◌<◌, ℤ, pos, negsuc, ◌<ℤ◌, arith}
use Rattle.std.specs.Prelude.{unsigned_abs}
use Rattle.std.proofs.lemmas.Int.{ints}

pub abs_later : (s : ℕ) (z : ℤ) → pos s <ℤ z → s < unsigned_abs z
abs_later s (pos t) h = grind (arith, ints)
abs_later s (negsuc t) h = absurd (grind (arith, ints))
