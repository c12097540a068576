use Rattle.std.proofs.Common.{refl}
use Rattle.interp.proofs.laws.faults_have_causes.Goals as goal

pub returns-clause-registers : goal.returns-clause-registers
returns-clause-registers c who = (refl, refl)

pub returns-clause-accesses : goal.returns-clause-accesses
returns-clause-accesses c who = (refl, refl)

pub returns-clause-helpers : goal.returns-clause-helpers
returns-clause-helpers c = (λ who. (refl, refl), λ who. (refl, refl), λ who. (refl, refl))

pub returns-clause-ends : goal.returns-clause-ends
returns-clause-ends c = (λ who. (refl, refl), λ who. (refl, refl), λ who. (refl, refl))

pub returns-clause-slots : goal.returns-clause-slots
returns-clause-slots c who = (refl, refl, refl)

pub returns-clause-spans : goal.returns-clause-spans
returns-clause-spans c who = (refl, refl)
