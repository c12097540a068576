use Rattle.std.proofs.Common.{refl}
use Rattle.cluster.proofs.LossRun.{told-of-loss}
use Rattle.cluster.proofs.durable_rows.loss_is_told.Goals as goal

pub returns : goal.returns
returns c g x = (told-of-loss g x, refl, refl, refl, refl)
