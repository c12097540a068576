use Rattle.verifier.proofs.LeastTypings.{are_typings}
use Rattle.verifier.proofs.laws.flat_typings_are_typings.Goals as goal

pub returns : goal.returns
returns c = are_typings
