use Rattle.std.proofs.Common.{◌≡◌, refl}
use Rattle.std.specs.Prelude.{Some, None}
use Rattle.theorems.specs.WorkedOverlap.{passing}
use Rattle.cluster.specs.Cluster.{durable_opening}
use Rattle.cluster.specs.Rules.{message}
use Rattle.cluster.specs.WorkedDurable.{none_durable, told_of_loss}
use Rattle.cluster.proofs.LossRun.{told-of-loss}
use Rattle.cluster.proofs.Goes.{steps-are-events}
use Rattle.cluster.proofs.durable_rows.meeting_failures_lose.Goals as goal

none-some : {X : Type 0} {x : X} → None ≡ Some x → ⊥
none-some e = cc

pub returns : goal.returns
returns c g x = (steps-are-events (durable_opening 2 (passing g) none_durable) (told_of_loss x) (told-of-loss g x), refl, refl, λ h. none-some (h.shown 0 (message 2 1 x) refl))
