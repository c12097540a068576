use Rattle.theorems.proofs.OrphanLemmas.{received-once}
use Rattle.theorems.proofs.orphans.received_once.Goals as goal

pub returns : goal.returns
returns c = received-once
