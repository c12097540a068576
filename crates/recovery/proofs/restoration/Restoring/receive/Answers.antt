use Rattle.std.proofs.Common.{subst, sym}
use Rattle.recovery.specs.Restoration.{TheRestoring, IsRestoring}
use Rattle.recovery.specs.RestorationStands.{IsHanded}
use Rattle.recovery.proofs.RestorationReports.{handing}
use Rattle.recovery.proofs.restoration.Restoring.receive.Goals as goal

pub returns-clause-acts : goal.returns-clause-acts
returns-clause-acts c =
    let old = c.args.self.now in
    let W : TheRestoring → Type 0 = λ v. IsRestoring v.own v.above v.answered in
    let P : TheRestoring → Type 0 = λ v. IsHanded c.args.packet.now old v in
    subst P (sym c.hand.ensures) (handing old c.args.packet.now (subst W c.self.view_is c.self.invariant))
