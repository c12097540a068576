use Rattle.packets.proofs.KeptLemmas.{one_kept}
use Rattle.packets.proofs.laws.one_kept.Goals as goal

pub returns : goal.returns
returns c = one_kept
