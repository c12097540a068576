use Rattle.std.proofs.Common.{refl}
use Rattle.theorems.specs.WorkedOverlap.{passing}
use Rattle.cluster.specs.Cluster.{durable_opening}
use Rattle.cluster.specs.WorkedLate.{old_ask_answered}
use Rattle.cluster.specs.WorkedDurable.{none_durable}
use Rattle.cluster.proofs.LateRuns.{is-told-again}
use Rattle.cluster.proofs.LoneBack.{acts-steps, trusts-first}
use Rattle.cluster.proofs.durable_rows.old_ask_is_no_loss.Goals as goal

pub returns : goal.returns
returns c g = (acts-steps (durable_opening 2 (passing g) none_durable) (trusts-first 2 (passing g)) old_ask_answered (is-told-again g), refl, refl)
