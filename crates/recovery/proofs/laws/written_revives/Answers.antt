use Rattle.recovery.proofs.Writes.{written-revives}
use Rattle.recovery.proofs.laws.written_revives.Goals as goal

pub returns : goal.returns
returns c = written-revives
