use Rattle.std.proofs.Common.{◌≡◌, refl, arith}
use Rattle.std.specs.Prelude.{Some, None}
use Rattle.world.specs.Bounds.{WIRE}
use Rattle.theorems.proofs.overlap.overlapping_failures_lose.Goals as goal

none-some : {X : Type 0} {x : X} → None ≡ Some x → ⊥
none-some e = cc

pub returns : goal.returns
unfolding WIRE
returns c g x = ((refl, record { accepted = refl; answered = refl; becomes = refl }, (refl, record { accepted = refl; answered = (0, (omega arith, refl), refl); becomes = refl }, (refl, record { accepted = refl; answered = refl; becomes = refl }, (refl, record { accepted = refl; answered = (0, (omega arith, refl), refl); becomes = refl }, (refl, record { accepted = refl; answered = refl; becomes = refl }, (refl, record { accepted = refl; answered = (1, (omega arith, refl), refl); becomes = refl }, (refl, record { accepted = refl; answered = refl; becomes = refl }, (refl, record { accepted = refl; answered = (1, (omega arith, refl), refl); becomes = refl }, (refl, record { accepted = refl; answered = refl; becomes = refl }, (refl, record { accepted = refl; answered = (omega arith, refl, refl); becomes = refl }, (refl, record { accepted = refl; answered = refl; becomes = refl }, (refl, record { accepted = refl; answered = refl; becomes = refl }, (refl, record { accepted = refl; answered = (omega arith, refl, refl); becomes = refl }, (refl, record { accepted = refl; answered = refl; becomes = refl }, (refl, record { accepted = refl; answered = refl; becomes = refl }, (refl, record { accepted = refl; answered = refl; becomes = refl }, (refl, record { accepted = refl; answered = (2, (omega arith, refl), refl); becomes = refl }, (refl, record { accepted = refl; answered = refl; becomes = refl }, (refl, record { accepted = refl; answered = refl; becomes = refl }, (refl, record { accepted = refl; answered = refl; becomes = refl }, (refl, record { accepted = refl; answered = (omega arith, refl, refl); becomes = refl }, (refl, record { accepted = refl; answered = (omega arith, refl, refl); becomes = refl }, (refl, record { accepted = refl; answered = refl; becomes = refl }, tt))))))))))))))))))))))), refl, refl, refl, refl, λ h. none-some (h.shown 0 (record { sender = 2; ssn = 1; payload = x }) refl 0 (record { down = λ e. absurd (cc); live = λ e. refl })))
