use Rattle.operations.proofs.DivisionLemmas.{div_euclid_above}
use Rattle.operations.proofs.laws.arsh_rounds_down.Goals as goal

pub returns-clause-high : goal.returns-clause-high
returns-clause-high c = div_euclid_above
