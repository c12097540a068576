use Rattle.std.proofs.Common.{refl, arith}
use Rattle.world.specs.Bounds.{WIRE}
use Rattle.world.proofs.rows.trimmed_log_comes_back.Goals as goal

pub returns : goal.returns
unfolding WIRE
returns c g x = ((refl, record { accepted = refl; answered = refl; becomes = refl }, (refl, record { accepted = refl; answered = (0, (omega arith, refl), refl); becomes = refl }, (refl, record { accepted = refl; answered = refl; becomes = refl }, (refl, record { accepted = refl; answered = (0, (omega arith, refl), refl); becomes = refl }, (refl, record { accepted = refl; answered = refl; becomes = refl }, (refl, record { accepted = refl; answered = (1, (omega arith, refl), refl); becomes = refl }, (refl, record { accepted = refl; answered = refl; becomes = refl }, (refl, record { accepted = refl; answered = (1, (omega arith, refl), refl); becomes = refl }, (refl, record { accepted = refl; answered = refl; becomes = refl }, (refl, record { accepted = refl; answered = (2, (omega arith, refl), refl); becomes = refl }, (refl, record { accepted = refl; answered = refl; becomes = refl }, (refl, record { accepted = refl; answered = (2, (omega arith, refl), refl); becomes = refl }, (refl, record { accepted = refl; answered = refl; becomes = refl }, (refl, record { accepted = refl; answered = (3, (omega arith, refl), refl); becomes = refl }, (refl, record { accepted = refl; answered = refl; becomes = refl }, (refl, record { accepted = refl; answered = (3, (omega arith, refl), refl); becomes = refl }, (refl, record { accepted = refl; answered = refl; becomes = refl }, (refl, record { accepted = refl; answered = refl; becomes = refl }, (refl, record { accepted = refl; answered = refl; becomes = refl }, (refl, record { accepted = refl; answered = (4, (omega arith, refl), refl); becomes = refl }, (refl, record { accepted = refl; answered = refl; becomes = refl }, (refl, record { accepted = refl; answered = (4, (omega arith, refl), refl); becomes = refl }, (refl, record { accepted = refl; answered = refl; becomes = refl }, (refl, record { accepted = refl; answered = refl; becomes = refl }, (refl, record { accepted = refl; answered = refl; becomes = refl }, (refl, record { accepted = refl; answered = (omega arith, refl, refl); becomes = refl }, (refl, record { accepted = refl; answered = refl; becomes = refl }, tt))))))))))))))))))))))))))), refl, refl, refl, refl, refl)
