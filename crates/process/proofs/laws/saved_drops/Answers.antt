use Rattle.process.proofs.Bounded as bounded
use Rattle.process.proofs.laws.saved_drops.Goals as goal

pub returns : goal.returns
returns c = bounded.saved_drops
