use Rattle.std.proofs.Common.{subst, sym}
use Rattle.recovery.specs.Collection.{TheCollecting}
use Rattle.recovery.specs.Stands.{Acts}
use Rattle.recovery.proofs.Inquiries.{asking}
use Rattle.recovery.proofs.collection.Collecting.tick.Goals as goal

pub returns-clause-acts : goal.returns-clause-acts
returns-clause-acts c = let P : TheCollecting → Type 0 = λ v. Acts c.args.self.now v in subst P (sym c.ask_all.ensures) (asking c.args.self.now)
