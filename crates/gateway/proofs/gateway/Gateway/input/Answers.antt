use Rattle.std.proofs.Common.{subst, sym}
use Rattle.gateway.specs.Gateway.{TheGateway}
use Rattle.gateway.specs.Stands.{Acts}
use Rattle.gateway.specs.Since.{KeepsSince}
use Rattle.gateway.proofs.Views.{on-ok, on-ok-two}
use Rattle.gateway.proofs.Transmission.{putting-in}
use Rattle.gateway.proofs.Since.{since-input}
use Rattle.gateway.proofs.gateway.Gateway.input.Goals as goal

pub returns-clause-since : goal.returns-clause-since
returns-clause-since c =
    let P : TheGateway → Type 0 = λ v. KeepsSince c.args.self.now v in
    on-ok-two c.put_in.result _ _ _ (λ e fits. subst P (sym e) (since-input c.args.process c.args.payload c.args.self.now fits)) c.put_in.ensures.ok c.put_in.ensures.room

pub returns-clause-acts : goal.returns-clause-acts
returns-clause-acts c =
    let P : TheGateway → Type 0 = λ v. Acts c.args.self.now v in
    on-ok c.put_in.result _ _ (λ e. subst P (sym e) (putting-in c.args.self.now c.args.process c.args.payload c.requires)) c.put_in.ensures.ok
