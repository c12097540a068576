use Rattle.stores.proofs.StoreLemmas.{one-store}
use Rattle.stores.proofs.laws.one_store.Goals as goal

pub returns : goal.returns
returns c = one-store
