use Rattle.cluster.proofs.Promised.{acknowledged-stay}
use Rattle.cluster.proofs.promises.acknowledged_stay.Goals as goal

pub returns : goal.returns
returns c = λ n f acts more p k s. acknowledged-stay n f acts more p k s.few s.grows s.run
