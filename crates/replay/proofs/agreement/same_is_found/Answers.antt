use Rattle.replay.proofs.AgreementLemmas.{same-found}
use Rattle.replay.proofs.agreement.same_is_found.Goals as goal

pub returns : goal.returns
returns c = same-found
