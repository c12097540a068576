use Rattle.std.proofs.Common.{subst, sym}
use Rattle.gateway.specs.Gateway.{TheGateway}
use Rattle.gateway.specs.Stands.{IsHanded}
use Rattle.gateway.specs.Since.{KeepsSince}
use Rattle.gateway.proofs.Views.{on-ok}
use Rattle.gateway.proofs.Handover.{handed-so}
use Rattle.gateway.proofs.Since.{since-handed}
use Rattle.gateway.proofs.gateway.Gateway.receive.Goals as goal

pub returns-clause-since : goal.returns-clause-since
returns-clause-since c =
    let P : TheGateway → Type 0 = λ v. KeepsSince c.args.self.now v in
    on-ok c.hand.result _ _ (λ e. subst P (sym e) (since-handed c.args.packet.now c.args.self.now c.longest-len.ensures)) c.hand.ensures.ok

pub returns-clause-acts : goal.returns-clause-acts
returns-clause-acts c =
    let P : TheGateway → Type 0 = λ v. IsHanded c.args.packet.now c.args.self.now v in
    on-ok c.hand.result _ _ (λ e. subst P (sym e) (handed-so c.args.packet.now c.args.self.now)) c.hand.ensures.ok
