use Rattle.verifier.proofs.LeastTypings.{one_refusal}
use Rattle.verifier.proofs.laws.refusals_are_one.Goals as goal

pub returns : goal.returns
returns c = one_refusal
