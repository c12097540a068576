use Rattle.std.proofs.Common.{subst, sym}
use Rattle.recovery.specs.Restoration.{TheRestoring, IsRestoring}
use Rattle.recovery.specs.RestorationStands.{Acts}
use Rattle.recovery.proofs.RestorationInquiries.{asking}
use Rattle.recovery.proofs.restoration.Restoring.tick.Goals as goal

pub returns-clause-acts : goal.returns-clause-acts
returns-clause-acts c =
    let old = c.args.self.now in
    let W : TheRestoring → Type 0 = λ v. IsRestoring v.own v.above v.answered in
    let within : IsRestoring old.own old.above old.answered = subst W c.self.view_is c.self.invariant in
    let P : TheRestoring → Type 0 = λ v. Acts old v in
    subst P (sym c.ask_all.ensures) (asking old within.alone)
