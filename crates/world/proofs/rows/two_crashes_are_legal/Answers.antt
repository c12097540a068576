use Rattle.std.proofs.Common.{refl, arith}
use Rattle.world.proofs.rows.two_crashes_are_legal.Goals as goal

pub returns : goal.returns
returns c g = ((refl, record { accepted = refl; answered = refl; becomes = refl }, (refl, record { accepted = refl; answered = refl; becomes = refl }, (refl, record { accepted = refl; answered = (omega arith, refl, refl); becomes = refl }, (refl, record { accepted = refl; answered = (omega arith, refl, refl); becomes = refl }, (refl, record { accepted = refl; answered = refl; becomes = refl }, tt))))), refl, refl, refl, refl, refl, refl, refl)
