use Rattle.recovery.proofs.Only.{only-replays}
use Rattle.recovery.proofs.laws.only_replays.Goals as goal

pub returns : goal.returns
returns c = only-replays
