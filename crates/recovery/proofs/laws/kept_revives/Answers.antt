use Rattle.recovery.proofs.Writes.{kept-revives}
use Rattle.recovery.proofs.laws.kept_revives.Goals as goal

pub returns : goal.returns
returns c = kept-revives
