use Rattle.std.proofs.Common.{refl, arith}
use Rattle.world.specs.Bounds.{WIRE}
use Rattle.world.proofs.rows.lost_number_is_told_again.Goals as goal

pub returns : goal.returns
unfolding WIRE
returns c g x = ((refl, record { accepted = refl; answered = refl; becomes = refl }, (refl, record { accepted = refl; answered = refl; becomes = refl }, (refl, record { accepted = refl; answered = (0, (omega arith, refl), refl); becomes = refl }, (refl, record { accepted = refl; answered = refl; becomes = refl }, (refl, record { accepted = refl; answered = (0, (omega arith, refl), refl); becomes = refl }, (refl, record { accepted = refl; answered = refl; becomes = refl }, (refl, record { accepted = refl; answered = (0, (omega arith, refl), refl); becomes = refl }, (refl, record { accepted = refl; answered = refl; becomes = refl }, (refl, record { accepted = refl; answered = (0, (omega arith, refl), refl); becomes = refl }, (refl, record { accepted = refl; answered = (0, (omega arith, refl), refl); becomes = refl }, (refl, record { accepted = refl; answered = (0, (omega arith, refl), refl); becomes = refl }, (refl, record { accepted = refl; answered = refl; becomes = refl }, (refl, record { accepted = refl; answered = (0, (omega arith, refl), refl); becomes = refl }, (refl, record { accepted = refl; answered = (1, (omega arith, refl), refl); becomes = refl }, (refl, record { accepted = refl; answered = refl; becomes = refl }, (refl, record { accepted = refl; answered = refl; becomes = refl }, (refl, record { accepted = refl; answered = refl; becomes = refl }, tt))))))))))))))))), refl, refl, refl)
