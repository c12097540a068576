use Rattle.std.proofs.Common.{subst, sym}
use Rattle.node.proofs.Views.{on-ok}
use Rattle.recovery.specs.Collection.{TheCollecting, IsCollecting}
use Rattle.recovery.specs.Stands.{IsHanded}
use Rattle.recovery.proofs.Reports.{handing}
use Rattle.recovery.proofs.collection.Collecting.receive.Goals as goal

pub returns-clause-acts : goal.returns-clause-acts
returns-clause-acts c =
    let old = c.args.self.now in
    let W : TheCollecting → Type 0 = λ v. IsCollecting v.own v.told in
    let within : IsCollecting old.own old.told = subst W c.self.view_is c.self.invariant in
    let P : TheCollecting → Type 0 = λ v. IsHanded c.args.packet.now old v in
    on-ok c.hand.result _ _ (λ e. subst P (sym e) (handing old c.args.packet.now within.wide within.heard_wide within.lost_wide)) c.hand.ensures.ok
