use Rattle.stores.proofs.ChangeCodecs.{one-list}
use Rattle.stores.proofs.laws.one_list.Goals as goal

pub returns : goal.returns
returns c = one-list
