use Rattle.std.proofs.Common.{refl, subst, sym}
use Rattle.gateway.specs.Gateway.{TheGateway}
use Rattle.gateway.specs.Stands.{Acts}
use Rattle.gateway.specs.Since.{Since}
use Rattle.gateway.proofs.Changes.{goes-asked}
use Rattle.gateway.proofs.gateway.Gateway.forget_changes.Goals as goal

pub returns-clause-since : goal.returns-clause-since
returns-clause-since c = let P : TheGateway → Type 0 = λ v. Since v.store v in subst P (sym c.empty.ensures) (record { fit = tt; is = refl })

pub returns-clause-acts : goal.returns-clause-acts
returns-clause-acts c = let P : TheGateway → Type 0 = λ v. Acts c.args.self.now v in subst P (sym c.empty.ensures) (λ d s u. goes-asked c.args.self.now d s)
