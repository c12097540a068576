use Rattle.operations.proofs.WordLemmas.{signed_of-extended_from}
use Rattle.operations.proofs.laws.signed_readings.Goals as goal

pub returns-clause-kept : goal.returns-clause-kept
returns-clause-kept c = signed_of-extended_from
