use Rattle.std.proofs.Common.{subst, sym}
use Rattle.gateway.specs.Gateway.{TheGateway}
use Rattle.gateway.specs.Stands.{Acts}
use Rattle.gateway.specs.Since.{KeepsSince}
use Rattle.gateway.proofs.Transmission.{ticking}
use Rattle.gateway.proofs.Since.{since-ticked}
use Rattle.gateway.proofs.gateway.Gateway.tick.Goals as goal

pub returns-clause-since : goal.returns-clause-since
returns-clause-since c = let P : TheGateway → Type 0 = λ v. KeepsSince c.args.self.now v in subst P (sym c.send_again.ensures) (since-ticked c.args.self.now)

pub returns-clause-acts : goal.returns-clause-acts
returns-clause-acts c = let P : TheGateway → Type 0 = λ v. Acts c.args.self.now v in subst P (sym c.send_again.ensures) (ticking c.args.self.now)
