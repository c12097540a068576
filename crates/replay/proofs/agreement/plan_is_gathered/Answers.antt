use Rattle.replay.proofs.AgreementLemmas.{plan-gathered}
use Rattle.replay.proofs.agreement.plan_is_gathered.Goals as goal

pub returns : goal.returns
returns c = plan-gathered
