use Rattle.std.proofs.Common.{subst, sym}
use Rattle.gateway.specs.Gateway.{TheGateway}
use Rattle.gateway.specs.Stands.{Acts}
use Rattle.gateway.specs.Since.{KeepsSince}
use Rattle.gateway.proofs.Views.{on-ok}
use Rattle.gateway.proofs.Transmission.{handing-out}
use Rattle.gateway.proofs.Since.{since-output}
use Rattle.gateway.proofs.gateway.Gateway.output.Goals as goal

pub returns-clause-since : goal.returns-clause-since
returns-clause-since c = let P : TheGateway → Type 0 = λ v. KeepsSince c.args.self.now v in on-ok c.hand_out.result _ _ (λ e. subst P (sym e) (since-output c.args.self.now)) c.hand_out.ensures.ok

pub returns-clause-acts : goal.returns-clause-acts
returns-clause-acts c = let P : TheGateway → Type 0 = λ v. Acts c.args.self.now v in on-ok c.hand_out.result _ _ (λ e. subst P (sym e) (handing-out c.args.self.now)) c.hand_out.ensures.ok
