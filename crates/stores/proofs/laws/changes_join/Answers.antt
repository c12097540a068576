use Rattle.stores.proofs.ChangeCodecs.{joined-list}
use Rattle.stores.proofs.laws.changes_join.Goals as goal

pub returns : goal.returns
returns c = joined-list
