use Rattle.std.proofs.Common.{sym}
use Rattle.recovery.proofs.RestorationPages.{last-at}
use Rattle.recovery.proofs.restoration.last_ssn.Goals as goal

pub returns-in-Some : goal.returns-in-Some
returns-in-Some c = sym (last-at c.args.above c.args.pairs.now c.in-Some.pair.now (sym c.in-Some.ensures.value))
